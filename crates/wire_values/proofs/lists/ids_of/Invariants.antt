use Rattle.std.proofs.Common.{◌≡◌, ◌≤◌, ◌++◌, drop, length, vec_len, vec_capacity}
use Rattle.tl_types.specs.Seen.{views}
use Rattle.wire_forms.specs.Parts.{each, int_of}
use Rattle.wire_values.proofs.lists.ids_of.Given as goal

abbrev pub invariant-loop-value : goal.invariant-loop-value
invariant-loop-value l = record {
  ids : l.ids.items ++ each int_of (views (drop l.value-index l.values)) ≡ each int_of (views l.values);
  len : vec_len l.ids ≡ l.value-index;
  room : length l.values ≤ vec_capacity l.ids;
}
