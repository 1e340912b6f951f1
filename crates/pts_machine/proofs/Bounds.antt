-- What holds of each held item: where it ends, and that it starts after a position.
use Rattle.std.proofs.Common.{◌≡◌, ℕ, ◌+◌, ◌<◌, ◌≤◌, sym, ap, ◌∙◌, arith, inl, inr}
use Rattle.std.specs.Ordering.{nat_cmp}
use Rattle.std.specs.FinMap.{empty, get-empty, insert}
use Rattle.std.proofs.lemmas.Option.{none-some}
use Rattle.pts_machine.specs.Holding.{Items, from}
use Rattle.pts_machine.proofs.Maps.{from_some, insert_some}
use Rattle.pts_machine.specs.States.{AreSized, StartAfter}

pub sized_from : {E : Type 0} (count : E → ℕ) (p : ℕ) (m : Items E) → AreSized count m → AreSized count (from p m)
sized_from count p m h q x e = h q x (from_some p m q x e).1

pub sized_empty : {E : Type 0} (count : E → ℕ) → AreSized count empty
sized_empty count q x e = absurd (none-some x (sym (get-empty nat_cmp q) ∙ e))

pub after_empty : {E : Type 0} (p : ℕ) → StartAfter {E = E} p empty
after_empty p q x e = absurd (none-some x (sym (get-empty nat_cmp q) ∙ e))

pub sized_insert : {E : Type 0} (count : E → ℕ) (m : Items E) (k : ℕ) (v : ℕ × E) → AreSized count m → k < v.0 → v.0 ≡ k + count v.1 → v.0 ≤ 1000000 → AreSized count (insert m k v)
sized_insert {E} count m k v h lt is le q x e = elim (insert_some m k v q x e) [
  | inl s ↦
      let at : q ≡ k = s.0 in
      let end : v.0 ≡ x.0 = ap (λ (p : ℕ × E). p.0) s.1 in
      let counts : count v.1 ≡ count x.1 = ap (λ (p : ℕ × E). count p.1) s.1 in
      (omega arith, omega arith, omega arith)
  | inr s ↦ h q x s
]

pub after_insert : {E : Type 0} (p : ℕ) (m : Items E) (k : ℕ) (v : ℕ × E) → StartAfter p m → p < k → StartAfter p (insert m k v)
after_insert p m k v h lt q x e = elim (insert_some m k v q x e) [
  | inl s ↦ let at : q ≡ k = s.0 in omega arith
  | inr s ↦ h q x s
]
