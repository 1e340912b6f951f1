-- The forms of declarations, one after the other.
use Rattle.std.proofs.Common.{◌≡◌, ℕ, zero, suc, ◌<◌, ◌≤◌, List, [], ◌∷◌, ◌++◌, length, get_or, Option, Some, None, Bool, true, false, ◌==◌, refl, sym, ap, ◌∙◌, arith, eqb-true}
use Rattle.std.specs.Prelude.{nat_lt, unwrap_or, position}
use Rattle.std.proofs.lemmas.Bool.Decides.{nat_tests}
use Rattle.std.proofs.lemmas.List.Quantifiers.{position-Some}
use Rattle.wire_forms.specs.declared.numbers.TheConstants.{NO_FORM}
use Rattle.wire_profile.specs.Indexes.{ProfileView, number_at, form_at}
use Rattle.wire_profile.specs.Profiles.{IsProfile}
use Rattle.wire_profile.specs.inner.Insides.{IsTable}
use Rattle.wire_profile.proofs.FormTable.{form_there, within}

-- the forms of the first n declarations
pub forms_up : List ℕ → ℕ → List ℕ
forms_up indexes zero = []
forms_up indexes (suc n) = forms_up indexes n ++ form_at indexes n ∷ []

pub none_up : (indexes : List ℕ) → forms_up indexes 0 ≡ []
unfolding forms_up
none_up indexes = refl

pub one_up : (indexes : List ℕ) (n : ℕ) → forms_up indexes (suc n) ≡ forms_up indexes n ++ form_at indexes n ∷ []
unfolding forms_up
one_up indexes n = refl

length_push : (xs : List ℕ) (x : ℕ) → length (xs ++ x ∷ []) ≡ suc (length xs)
length_push [] x = refl
length_push (y ∷ ys) x = ap suc (length_push ys x)

length_up : (indexes : List ℕ) (n : ℕ) → length (forms_up indexes n) ≡ n
unfolding forms_up
length_up indexes zero = refl
length_up indexes (suc n) = length_push (forms_up indexes n) (form_at indexes n) ∙ ap suc (length_up indexes n)

at_last : (xs : List ℕ) (x i d : ℕ) → i ≡ length xs → get_or (xs ++ x ∷ []) i d ≡ x
at_last [] x zero d e = refl
at_last [] x (suc i) d e = absurd (omega (arith, e))
at_last (y ∷ ys) x zero d e = absurd (omega (arith, e))
at_last (y ∷ ys) x (suc i) d e = at_last ys x i d (omega (arith, e))

at_first : (xs : List ℕ) (x i d : ℕ) → i < length xs → get_or (xs ++ x ∷ []) i d ≡ get_or xs i d
at_first [] x i d lt = absurd (omega (arith, lt))
at_first (y ∷ ys) x zero d lt = refl
at_first (y ∷ ys) x (suc i) d lt = at_first ys x i d (omega (arith, lt))

past_end : (xs : List ℕ) (i d : ℕ) → length xs ≤ i → get_or xs i d ≡ d
past_end [] i d le = refl
past_end (y ∷ ys) zero d le = absurd (omega (arith, le))
past_end (y ∷ ys) (suc i) d le = past_end ys i d (omega (arith, le))

within_up : (indexes : List ℕ) (n i : ℕ) → i < n → get_or (forms_up indexes n) i NO_FORM ≡ form_at indexes i
unfolding forms_up
within_up indexes zero i lt = absurd (omega (arith, lt))
within_up indexes (suc n) i lt = by (nat_lt i n) refl (λ inside. within_up indexes n i inside)
  where
    by : (b : Bool) → nat_lt i n ≡ b → (i < n → get_or (forms_up indexes n) i NO_FORM ≡ form_at indexes i) → get_or (forms_up indexes n ++ form_at indexes n ∷ []) i NO_FORM ≡ form_at indexes i
    by true e before = let inside : i < n = grind (arith, nat_tests, e) in at_first (forms_up indexes n) (form_at indexes n) i NO_FORM (omega (arith, length_up indexes n, inside)) ∙ before inside
    by false e before =
        let outside : n ≤ i = grind (arith, nat_tests, e) in
        let last : n ≡ i = omega (arith, outside, lt) in
        at_last (forms_up indexes n) (form_at indexes n) i NO_FORM (omega (arith, length_up indexes n, last)) ∙ ap (form_at indexes) last

no_index : (indexes : List ℕ) (n i : ℕ) → ((k : ℕ) → k < length indexes → number_at indexes k < n) → n ≤ i → (o : Option ℕ) → position (λ index. index == i) indexes ≡ o → unwrap_or o NO_FORM ≡ NO_FORM
no_index indexes n i below le None found = refl
no_index indexes n i below le (Some k) found =
    let all = position-Some (λ index. index == i) indexes k NO_FORM found in
    let same : number_at indexes k ≡ i = eqb-true _ _ all.1 in
    absurd (omega (arith, below k all.0, same, le))

-- the table of all declarations
pub whole_table : (p : ProfileView) → IsProfile p → (n : ℕ) (table : List ℕ) → length p.schema.decls ≤ n → table ≡ forms_up p.indexes n → IsTable p table
whole_table p good n table all is i =
    ap (λ (xs : List ℕ). get_or xs i NO_FORM) is ∙ by (nat_lt i n) refl
  where
    below : (k : ℕ) → k < length p.indexes → number_at p.indexes k < n
    below k lt =
        let f = form_there k (omega (arith, good.count, lt)) in
        let h = good.forms_there k f.0 f.1 in
        let inside = within p.schema.decls (number_at p.indexes k) h.d h.there in
        omega (arith, all, inside)

    by : (b : Bool) → nat_lt i n ≡ b → get_or (forms_up p.indexes n) i NO_FORM ≡ form_at p.indexes i
    by true e = within_up p.indexes n i (grind (arith, nat_tests, e))
    by false e =
        let outside : n ≤ i = grind (arith, nat_tests, e) in
        past_end (forms_up p.indexes n) i NO_FORM (omega (arith, length_up p.indexes n, outside)) ∙ sym (no_index p.indexes n i below outside (position (λ index. index == i) p.indexes) refl)
