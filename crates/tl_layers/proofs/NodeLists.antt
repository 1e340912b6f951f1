-- Lists of nodes, one after the other.
use Rattle.std.proofs.Common.{◌≡◌, ◌⊎◌, inl, inr, ℕ, zero, suc, ◌+◌, List, [], ◌∷◌, ◌++◌, length, slice_get, ap, ◌∙◌, arith}
use Rattle.std.proofs.lemmas.Option.{none-some}
use Rattle.tl_graph.specs.Paths.{IsIn}

pub get_after : {X : Type 0} (xs ys : List X) (k : ℕ) → slice_get (xs ++ ys) (length xs + k) ≡ slice_get ys k
get_after [] ys k = let none : 0 + k ≡ k = omega arith in ap (slice_get ys) none
get_after (x ∷ xs) ys k = let next : suc (length xs) + k ≡ suc (length xs + k) = omega arith in ap (slice_get (x ∷ (xs ++ ys))) next ∙ get_after xs ys k

-- ---- which nodes are in a list

pub in_first : (js ks : List ℕ) (x : ℕ) → IsIn x js → IsIn x (js ++ ks)
in_first [] ks x (i, at) = absurd (none-some x at)
in_first (j ∷ js) ks x (zero, at) = (0, at)
in_first (j ∷ js) ks x (suc i, at) = let h = in_first js ks x (i, at) in (suc h.0, h.1)

pub in_rest : (js ks : List ℕ) (x : ℕ) → IsIn x ks → IsIn x (js ++ ks)
in_rest [] ks x h = h
in_rest (j ∷ js) ks x h = let r = in_rest js ks x h in (suc r.0, r.1)

pub in_either : (js ks : List ℕ) (x : ℕ) → IsIn x (js ++ ks) → IsIn x js ⊎ IsIn x ks
in_either [] ks x h = inr h
in_either (j ∷ js) ks x (zero, at) = inl (0, at)
in_either (j ∷ js) ks x (suc i, at) = elim (in_either js ks x (i, at)) [ inl h ↦ inl (suc h.0, h.1) | inr h ↦ inr h ]
