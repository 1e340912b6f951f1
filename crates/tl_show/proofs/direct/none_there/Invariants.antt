use Rattle.std.proofs.Common.{◌≡◌, map, replicate}
use Rattle.tl_types.specs.Seen.{view}
use Rattle.tl_types.specs.Values.{absent}
use Rattle.tl_show.proofs.direct.none_there.Given as goal

abbrev pub invariant-loop-i : goal.invariant-loop-i
invariant-loop-i l = map view l.values.items ≡ replicate l.i absent
