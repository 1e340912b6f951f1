-- A property that is marked has one count.
use Rattle.std.proofs.Common.{◌≡◌, ◌↔◌, ℕ, zero, suc, ◌+◌, List, [], ◌∷◌, Bool, true, false, cond, Some, count_by, refl, sym, ap, ◌∙◌, true≢false, arith}
use Rattle.std.specs.List.{fold}
use Rattle.std.proofs.lemmas.Option.{none-some, same_Some}
use Rattle.tl_graph.specs.Needs.{IsMarked}
use Rattle.tl_layers.specs.Compared.{IsCount}

-- how many are marked, from the first on
abbrev marked : List Bool → ℕ
marked [] = 0
marked (true ∷ bs) = suc (marked bs)
marked (false ∷ bs) = marked bs

none_marked : (bs : List Bool) → ((i : ℕ) → IsMarked bs i → ⊥) → marked bs ≡ 0
none_marked [] none = refl
none_marked (true ∷ bs) none = absurd (none 0 refl)
none_marked (false ∷ bs) none = none_marked bs (λ i m. none (suc i) m)

same_marked : (bs cs : List Bool) → ((i : ℕ) → IsMarked bs i → IsMarked cs i) → ((i : ℕ) → IsMarked cs i → IsMarked bs i) → marked bs ≡ marked cs
same_marked [] cs to from = sym (none_marked cs (λ i m. none-some true (from i m)))
same_marked (b ∷ bs) [] to from = none_marked (b ∷ bs) (λ i m. none-some true (to i m))
same_marked (true ∷ bs) (true ∷ cs) to from = ap suc (same_marked bs cs (λ i. to (suc i)) (λ i. from (suc i)))
same_marked (true ∷ bs) (false ∷ cs) to from = absurd (true≢false (sym (same_Some false true (to 0 refl))))
same_marked (false ∷ bs) (true ∷ cs) to from = absurd (true≢false (sym (same_Some false true (from 0 refl))))
same_marked (false ∷ bs) (false ∷ cs) to from = same_marked bs cs (λ i. to (suc i)) (λ i. from (suc i))

grown : (n : ℕ) (bs : List Bool) → fold (λ (m : ℕ) (b : Bool). m + cond b 1 0) n bs ≡ n + marked bs
grown n [] = omega arith
grown n (true ∷ bs) = let rest = grown (n + 1) bs in rest ∙ omega arith
grown n (false ∷ bs) = let rest = grown (n + 0) bs in rest ∙ omega arith

counted : (bs : List Bool) → count_by (λ b. b) bs ≡ marked bs
counted bs = grown 0 bs ∙ omega arith

pub one_count : (P : ℕ → Type 0) (m n : ℕ) → IsCount P m → IsCount P n → m ≡ n
one_count P m n (bs, are, is) (cs, also, at) =
    is ∙ counted bs ∙ same_marked bs cs (λ i x. (also i).1 ((are i).0 x)) (λ i x. (are i).1 ((also i).0 x)) ∙ sym (counted cs) ∙ sym at
