use Rattle.std.proofs.Common.{◌≡◌, ℕ, ◌<◌, slice_get, Some}
use Rattle.tl_schema.specs.Schemas.{Slot}
use Rattle.tl_layers.proofs.field_breaks.names_bit.Given as goal

abbrev pub invariant-loop-i : goal.invariant-loop-i
invariant-loop-i l = (j : ℕ) (f : Slot) → j < l.i → slice_get l.olds j ≡ Some f → f.cond ≡ Some (l.k, l.bit) → ⊥
