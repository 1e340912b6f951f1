-- Lists of nodes: which nodes are in one, and where edges lead.
use Rattle.std.proofs.Common.{◌≡◌, ◌⊎◌, inl, inr, ℕ, zero, suc, ◌+◌, ◌<◌, List, [], ◌∷◌, ◌++◌, map, take, length, slice_get, get_or, Some, Vec, refl, ap, sym, ◌∙◌, subst, arith}
use Rattle.std.specs.Option.{option_map}
use Rattle.std.proofs.lemmas.List.{length-map, take_more}
use Rattle.std.proofs.lemmas.Option.{none-some, same_Some, slice_get-map, slice_get_read, slice_get_within, get_or_from_slice_get}
use Rattle.tl_graph.specs.Paths.{Edge, IsIn, IsGraph, edges_in}

-- ---- which nodes are in a list

pub in_none : (x : ℕ) → IsIn x [] → ⊥
in_none x (i, at) = none-some x at

pub in_before : (js : List ℕ) (x j : ℕ) → IsIn x js → IsIn x (js ++ j ∷ [])
in_before [] x j (i, at) = absurd (none-some x at)
in_before (y ∷ js) x j (zero, at) = (zero, at)
in_before (y ∷ js) x j (suc i, at) = let h = in_before js x j (i, at) in (suc h.0, h.1)

pub in_last : (js : List ℕ) (j : ℕ) → IsIn j (js ++ j ∷ [])
in_last [] j = (0, refl)
in_last (y ∷ js) j = let h = in_last js j in (suc h.0, h.1)

pub in_push : (js : List ℕ) (x j : ℕ) → IsIn x (js ++ j ∷ []) → IsIn x js ⊎ (x ≡ j)
in_push [] x j (zero, at) = inr (sym (same_Some j x at))
in_push [] x j (suc i, at) = absurd (none-some x at)
in_push (y ∷ js) x j (zero, at) = inl (zero, at)
in_push (y ∷ js) x j (suc i, at) = elim (in_push js x j (i, at)) [ inl h ↦ inl (suc h.0, h.1) | inr e ↦ inr e ]

-- ---- where edges lead

-- the edges from a node lead to those in its list
pub edge_into : (edges : List (List ℕ)) (k j : ℕ) (js : List ℕ) → slice_get edges k ≡ Some js → Edge edges k j → IsIn j js
edge_into edges k j js at (is, there, here) = subst (IsIn j) (same_Some is js (sym there ∙ at)) here

pub leads_within : (edges : List (List ℕ)) (n k : ℕ) (js : List ℕ) → IsGraph edges → n ≡ length edges → slice_get edges k ≡ Some js → (j : ℕ) → IsIn j js → j < n
leads_within edges n k js graph count at j here = let below = graph k j (js, at, here) in omega (arith, below, count)

-- ---- lists in general

pub no_items : {X : Type 0} (xs : List X) → length xs ≡ 0 → xs ≡ []
no_items [] none = refl
no_items (x ∷ xs) none = absurd (omega (arith, none))

-- one more element
pub take_push : {X : Type 0} (xs : List X) (i : ℕ) (x : X) → slice_get xs i ≡ Some x → take (i + 1) xs ≡ take i xs ++ x ∷ []
take_push xs i x at = take_more xs i x (slice_get_within xs i x at) ∙ ap (λ y. take i xs ++ y ∷ []) (get_or_from_slice_get xs i x x at)

-- an element as a function makes it
pub made_item : {X Y : Type 0} (f : X → Y) (xs : List X) (i : ℕ) (x : X) → i < length xs → x ≡ get_or xs i x → slice_get (map f xs) i ≡ Some (f x)
made_item f xs i x within is = slice_get-map f xs i ∙ ap (option_map f) (slice_get_read xs (length xs) i x refl within is)

-- the list of a node, where the lists are kept in vectors
module _ {A : Type 0} (edges : List (Vec ℕ A)) where
  pub length_edges : length (edges_in edges) ≡ length edges
  length_edges = length-map edges (λ (js : Vec ℕ A). js.items)

  pub edges_at : (k : ℕ) (v : Vec ℕ A) (js : List ℕ) → k < length edges → v ≡ get_or edges k v → js ≡ v.items → slice_get (edges_in edges) k ≡ Some js
  edges_at k v js within is same = made_item (λ (x : Vec ℕ A). x.items) edges k v within is ∙ ap Some (sym same)
