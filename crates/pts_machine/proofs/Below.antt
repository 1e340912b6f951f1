-- Held packs below a place, taken one by one.
use Rattle.std.proofs.Common.{◌≡◌, ℕ, ◌<◌, ◌≤◌, Option, Some, None, Bool, true, false, cond, leb, refl, sym, ◌∙◌, arith}
use Rattle.std.specs.Cmp.{nat_cmp_total}
use Rattle.std.specs.FinMap.{get, remove, same_map, nat_cmp-IsAntisymmetric}
use Rattle.std.proofs.lemmas.Bool.Decides.{nat_tests}
use Rattle.pts_machine.specs.Holding.{Items, from}
use Rattle.pts_machine.proofs.Maps.{get_from, same_from, above_remove}
use Rattle.pts_machine.proofs.Ends.{none_at, some_at, look}

-- taking an item below a place leaves what is held from there on
pub from_removed : {E : Type 0} (p s : ℕ) (m : Items E) → s < p → from p (remove m s) ≡ from p m
from_removed p s m lt = same_from p (remove m s) m (λ q le. sym (above_remove m s q (omega arith)))

neither : {A : Type 0} (b : Bool) → ◌≡◌ {A = Option A} (cond b None None) None
neither true = refl
neither false = refl

is_from : (p q : ℕ) → p ≤ q → leb p q ≡ true
is_from p q le = grind (arith, nat_tests)

-- where no item starts below a place, all start from there on
pub all_from : {E : Type 0} (p : ℕ) (m : Items E) → ((s : ℕ) (x : ℕ × E) → get m s ≡ Some x → p ≤ s) → m ≡ from p m
all_from p m h = same_map nat_cmp_total nat_cmp-IsAntisymmetric _ _ (λ q. elim (look m q) [
  | none_at e ↦ e ∙ sym (get_from p m q ∙ rw e (neither (leb p q)))
  | some_at x e ↦ sym (get_from p m q ∙ rw (is_from p q (h q x e)) refl)
])
