use Rattle.std.proofs.Common.{◌≡◌, ℕ, List, take, map}
use Rattle.tl_names.specs.NameIndexes.{index_among}
use Rattle.tl_schema.specs.Seen.{slot}
use Rattle.tl_layers.specs.Breaks.{field_index}
use Rattle.tl_layers.proofs.fields.names_of.Given as goal

abbrev pub invariant-loop-i : goal.invariant-loop-i
invariant-loop-i l = (name : List ℕ) → index_among l.names name ≡ field_index (map slot (take l.i l.fields)) name
