-- A chain, item by item.
use Rattle.std.proofs.Common.{◌≡◌, ℕ, zero, suc, ◌<◌, ◌≤◌, List, [], ◌∷◌, ◌++◌, Option, Some, None, refl, ap, ◌∙◌, arith, append-nil}
use Rattle.std.specs.Option.{option_map_or}
use Rattle.std.specs.FinMap.{get, len, remove}
use Rattle.pts_machine.specs.Holding.{Items}
use Rattle.pts_machine.proofs.Maps.{remove_some, above_remove, len_some, len_taken}
use Rattle.pts_machine.specs.Chains.{chain, reach, EndsAfter}

chain_over : {E : Type 0} (n p : ℕ) (m k : Items E) (a : Option (ℕ × E)) → get m p ≡ a → ((x : ℕ × E) → get m p ≡ Some x → chain n x.0 m ≡ chain n x.0 k) → option_map_or (λ x. x.1 ∷ chain n x.0 m) a [] ≡ option_map_or (λ x. x.1 ∷ chain n x.0 k) a []
chain_over n p m k None is more = refl
chain_over {E} n p m k (Some x) is more = ap (λ (xs : List E). x.1 ∷ xs) (more x is)

-- a chain looks at no start below its own
pub chain_above : {E : Type 0} (n p : ℕ) (m k : Items E) → EndsAfter m → ((q : ℕ) → p ≤ q → get m q ≡ get k q) → chain n p m ≡ chain n p k
unfolding chain
chain_above zero p m k after same = refl
chain_above {E} (suc n) p m k after same =
    chain_over n p m k (get m p) refl (λ x is. chain_above n x.0 m k after (λ q le. same q (omega (arith, after p x is))))
    ∙ ap (λ (o : Option (ℕ × E)). option_map_or (λ x. x.1 ∷ chain n x.0 k) o []) (same p (omega arith))

reach_over : {E : Type 0} (n p : ℕ) (m k : Items E) (a : Option (ℕ × E)) → get m p ≡ a → ((x : ℕ × E) → get m p ≡ Some x → reach n x.0 m ≡ reach n x.0 k) → option_map_or (λ x. reach n x.0 m) a p ≡ option_map_or (λ x. reach n x.0 k) a p
reach_over n p m k None is more = refl
reach_over n p m k (Some x) is more = more x is

pub reach_above : {E : Type 0} (n p : ℕ) (m k : Items E) → EndsAfter m → ((q : ℕ) → p ≤ q → get m q ≡ get k q) → reach n p m ≡ reach n p k
unfolding reach
reach_above zero p m k after same = refl
reach_above {E} (suc n) p m k after same =
    reach_over n p m k (get m p) refl (λ x is. reach_above n x.0 m k after (λ q le. same q (omega (arith, after p x is))))
    ∙ ap (λ (o : Option (ℕ × E)). option_map_or (λ x. reach n x.0 k) o p) (same p (omega arith))

pub after_remove : {E : Type 0} (m : Items E) (p : ℕ) → EndsAfter m → EndsAfter (remove m p)
after_remove m p after s x is = after s x (remove_some m p s x is)

pub chain_at : {E : Type 0} (n p : ℕ) (m : Items E) (x : ℕ × E) → get m p ≡ Some x → chain (suc n) p m ≡ x.1 ∷ chain n x.0 m
unfolding chain
chain_at n p m x is = rw is refl

pub reach_at : {E : Type 0} (n p : ℕ) (m : Items E) (x : ℕ × E) → get m p ≡ Some x → reach (suc n) p m ≡ reach n x.0 m
unfolding reach
reach_at n p m x is = rw is refl

-- one item further
pub chain_step : {E : Type 0} (p : ℕ) (m : Items E) (x : ℕ × E) → EndsAfter m → get m p ≡ Some x → chain (len m) p m ≡ x.1 ∷ chain (len (remove m p)) x.0 (remove m p)
chain_step {E} p m x after is =
    let more : len m ≡ suc (len (remove m p)) = omega (arith, len_some m p x is, len_taken m p x is) in
    let past : p < x.0 = after p x is in
    ap (λ (n : ℕ). chain n p m) more ∙ chain_at (len (remove m p)) p m x is
    ∙ ap (λ (xs : List E). x.1 ∷ xs) (chain_above (len (remove m p)) x.0 m (remove m p) after (λ q le. above_remove m p q (omega arith)))

pub reach_step : {E : Type 0} (p : ℕ) (m : Items E) (x : ℕ × E) → EndsAfter m → get m p ≡ Some x → reach (len m) p m ≡ reach (len (remove m p)) x.0 (remove m p)
reach_step p m x after is =
    let more : len m ≡ suc (len (remove m p)) = omega (arith, len_some m p x is, len_taken m p x is) in
    let past : p < x.0 = after p x is in
    ap (λ (n : ℕ). reach n p m) more ∙ reach_at (len (remove m p)) p m x is
    ∙ reach_above (len (remove m p)) x.0 m (remove m p) after (λ q le. above_remove m p q (omega arith))

-- no item follows
pub chain_ends : {E : Type 0} (n p : ℕ) (m : Items E) → get m p ≡ None → chain n p m ≡ []
unfolding chain
chain_ends zero p m is = refl
chain_ends (suc n) p m is = rw is refl

pub reach_ends : {E : Type 0} (n p : ℕ) (m : Items E) → get m p ≡ None → reach n p m ≡ p
unfolding reach
reach_ends zero p m is = refl
reach_ends (suc n) p m is = rw is refl

pub chain_stops : {E : Type 0} (xs : List E) (n p : ℕ) (m : Items E) → get m p ≡ None → xs ++ chain n p m ≡ xs
chain_stops {E} xs n p m is = ap (λ (ys : List E). xs ++ ys) (chain_ends n p m is) ∙ append-nil xs
