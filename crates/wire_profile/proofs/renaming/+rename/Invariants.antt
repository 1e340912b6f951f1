use Rattle.std.proofs.Common.{◌≡◌, get_or, map}
use Rattle.tl_types.specs.Seen.{view}
use Rattle.wire_profile.proofs.RenamedLists.{so_far}
use Rattle.wire_profile.proofs.renaming.+rename.Given as goal

abbrev pub invariant-rename_each-loop-i : goal.invariant-rename_each-loop-i
invariant-rename_each-loop-i l = record {
  unvisited : goal.unvisited-rename_each-loop-i l;
  so_far : map view l.values.items ≡ so_far (λ n. get_or l.table n l.other) l.i l.initial.values.items;
}
