-- The parts of types, told apart.
use Rattle.std.proofs.Common.{◌≡◌, ℕ, sym, ap, ◌∙◌, arith, Bool, false}
use Rattle.tl_schema.specs.Types.{Shape, Shapes}
use Rattle.tl_schema.specs.Types as type

abbrev pub is_wide : Shape → Bool
is_wide (type.vector is_boxed T) = is_boxed
is_wide T = false

abbrev kind_of : Shape → ℕ
kind_of (type.boxed h args) = 1
kind_of (type.bare i args) = 2
kind_of T = 0

pub never_both_kinds : {P : Type 0} (T : Shape) (h i : ℕ) (args own : Shapes) → T ≡ type.boxed h args → T ≡ type.bare i own → P
never_both_kinds T h i args own is is_too = let clash : 1 ≡ 2 = sym (ap kind_of is) ∙ ap kind_of is_too in absurd (omega (arith, clash))
