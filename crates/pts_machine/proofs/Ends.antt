-- Where a chain ends.
use Rattle.std.proofs.Common.{◌≡◌, ℕ, zero, suc, ◌+◌, ◌<◌, ◌≤◌, List, [], ◌∷◌, Option, Some, None, refl, sym, ap, ◌∙◌, arith}
use Rattle.std.specs.List.{sum_by}
use Rattle.std.specs.FinMap.{get, len, remove}
use Rattle.std.proofs.lemmas.List.Sums.{sum_by-cons}
use Rattle.pts_machine.specs.Holding.{Items}
use Rattle.pts_machine.proofs.Maps.{above_remove, len_some, len_taken}
use Rattle.pts_machine.specs.Chains.{chain, reach, EndsAfter, AreChained}
use Rattle.pts_machine.specs.States.{AreSized}
use Rattle.pts_machine.proofs.Links.{chain_step, reach_step, chain_ends, reach_ends, chain_above, reach_above, after_remove, chain_at, reach_at}

-- the case of a look-up
pub data Look {E : Type 0} (m : Items E) (p : ℕ) : Type 0 where
  none_at : get m p ≡ None → Look m p
  some_at : (x : ℕ × E) → get m p ≡ Some x → Look m p

look_of : {E : Type 0} (m : Items E) (p : ℕ) (o : Option (ℕ × E)) → get m p ≡ o → Look m p
look_of m p None e = none_at e
look_of m p (Some x) e = some_at x e

pub look : {E : Type 0} (m : Items E) (p : ℕ) → Look m p
look m p = look_of m p (get m p) refl

pub reach_up : {E : Type 0} (n p : ℕ) (m : Items E) → EndsAfter m → p ≤ reach n p m
unfolding reach
reach_up zero p m after = omega arith
reach_up (suc n) p m after = elim (look m p) [
  | none_at e ↦ rw e (omega arith)
  | some_at x e ↦
      let more : x.0 ≤ reach n x.0 m = reach_up n x.0 m after in
      let past : p < x.0 = after p x e in
      rw e (omega arith)
]

-- no item is left where a chain ends
pub free_by : {E : Type 0} (n p : ℕ) (m : Items E) → len m ≡ n → EndsAfter m → get m (reach (len m) p m) ≡ None
free_by zero p m is after = elim (look m p) [
  | none_at e ↦ ap (get m) (reach_ends (len m) p m e) ∙ e
  | some_at x e ↦ absurd (let some : 0 < len m = len_some m p x e in omega arith)
]
free_by (suc n) p m is after = elim (look m p) [
  | none_at e ↦ ap (get m) (reach_ends (len m) p m e) ∙ e
  | some_at x e ↦
      let rest = remove m p in
      let less : len rest ≡ n = omega (arith, len_taken m p x e) in
      let free : get rest (reach (len rest) x.0 rest) ≡ None = free_by n x.0 rest less (after_remove m p after) in
      let up : x.0 ≤ reach (len rest) x.0 rest = reach_up (len rest) x.0 rest (after_remove m p after) in
      let past : p < x.0 = after p x e in
      ap (get m) (reach_step p m x after e) ∙ above_remove m p (reach (len rest) x.0 rest) (omega arith) ∙ free
]

pub reach_free : {E : Type 0} (p : ℕ) (m : Items E) → EndsAfter m → get m (reach (len m) p m) ≡ None
reach_free p m after = free_by (len m) p m refl after

-- a chain ends after its start by what its events count
pub reach_sum : {E : Type 0} (count : E → ℕ) (n p : ℕ) (m : Items E) → AreSized count m → reach n p m ≡ p + sum_by count (chain n p m)
unfolding reach chain
reach_sum count zero p m sized = omega arith
reach_sum {E} count (suc n) p m sized = elim (look m p) [
  | none_at e ↦ rw e (omega arith)
  | some_at x e ↦
      let more : reach n x.0 m ≡ x.0 + sum_by count (chain n x.0 m) = reach_sum count n x.0 m sized in
      let is : x.0 ≡ p + count x.1 = (sized p x e).1 in
      let sum : sum_by count (x.1 ∷ chain n x.0 m) ≡ count x.1 + sum_by count (chain n x.0 m) = sum_by-cons count x.1 (chain n x.0 m) in
      rw e (omega arith)
]

pub reach_limit : {E : Type 0} (count : E → ℕ) (n p : ℕ) (m : Items E) → AreSized count m → p ≤ 1000000 → reach n p m ≤ 1000000
unfolding reach
reach_limit count zero p m sized le = le
reach_limit count (suc n) p m sized le = elim (look m p) [
  | none_at e ↦ rw e le
  | some_at x e ↦ rw e (reach_limit count n x.0 m sized (sized p x e).2)
]

-- the chain without a bound on its length: it is empty where no item starts at p, else the item that does, followed by the chain from its end
pub chain_long : {E : Type 0} (n p : ℕ) (m : Items E) → len m ≤ n → EndsAfter m → chain n p m ≡ chain (len m) p m
chain_long zero p m le after = elim (look m p) [
  | none_at e ↦ chain_ends zero p m e ∙ sym (chain_ends (len m) p m e)
  | some_at x e ↦ absurd (let some : 0 < len m = len_some m p x e in omega arith)
]
chain_long {E} (suc n) p m le after = elim (look m p) [
  | none_at e ↦ chain_ends (suc n) p m e ∙ sym (chain_ends (len m) p m e)
  | some_at x e ↦
      let rest = remove m p in
      let past : p < x.0 = after p x e in
      let less : len rest ≤ n = omega (arith, len_taken m p x e, len_some m p x e) in
      chain_at n p m x e
      ∙ ap (λ (xs : List E). x.1 ∷ xs) (chain_above n x.0 m rest after (λ q q_le. above_remove m p q (omega arith)) ∙ chain_long n x.0 rest less (after_remove m p after))
      ∙ sym (chain_step p m x after e)
]

pub chain_none : {E : Type 0} (p : ℕ) (m : Items E) → get m p ≡ None → chain (len m) p m ≡ []
chain_none p m e = chain_ends (len m) p m e

pub chain_some : {E : Type 0} (p : ℕ) (m : Items E) (x : ℕ × E) → EndsAfter m → get m p ≡ Some x → chain (len m) p m ≡ x.1 ∷ chain (len m) x.0 m
chain_some p m x after e = sym (chain_long (suc (len m)) p m (omega arith) after) ∙ chain_at (len m) p m x e

pub reach_long : {E : Type 0} (n p : ℕ) (m : Items E) → len m ≤ n → EndsAfter m → reach n p m ≡ reach (len m) p m
reach_long zero p m le after = elim (look m p) [
  | none_at e ↦ reach_ends zero p m e ∙ sym (reach_ends (len m) p m e)
  | some_at x e ↦ absurd (let some : 0 < len m = len_some m p x e in omega arith)
]
reach_long {E} (suc n) p m le after = elim (look m p) [
  | none_at e ↦ reach_ends (suc n) p m e ∙ sym (reach_ends (len m) p m e)
  | some_at x e ↦
      let rest = remove m p in
      let past : p < x.0 = after p x e in
      let less : len rest ≤ n = omega (arith, len_taken m p x e, len_some m p x e) in
      reach_at n p m x e
      ∙ reach_above n x.0 m rest after (λ q q_le. above_remove m p q (omega arith)) ∙ reach_long n x.0 rest less (after_remove m p after)
      ∙ sym (reach_step p m x after e)
]

pub reach_some : {E : Type 0} (p : ℕ) (m : Items E) (x : ℕ × E) → EndsAfter m → get m p ≡ Some x → reach (len m) p m ≡ reach (len m) x.0 m
reach_some p m x after e = sym (reach_long (suc (len m)) p m (omega arith) after) ∙ reach_at (len m) p m x e

pub are_chained : {E : Type 0} (m : Items E) → EndsAfter m → AreChained m
are_chained m after p = (λ e. (chain_none p m e, reach_ends (len m) p m e), λ x e. (chain_some p m x after e, reach_some p m x after e))
