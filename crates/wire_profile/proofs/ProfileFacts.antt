-- Where a profile has the forms, and which form has an index.
use Rattle.std.proofs.Common.{◌≡◌, ℕ, suc, ◌<◌, ◌≤◌, ◌^◌, List, [], ◌∷◌, length, get_or, Option, Some, None, Bool, true, false, ◌==◌, refl, sym, ap, ◌∙◌, subst, arith, eq-eqb, eqb-true}
use Rattle.std.specs.Prelude.{IsTrue, slice_get, unwrap_or, position, nat_lt, cond}
use Rattle.std.proofs.lemmas.List.Quantifiers.{position-Some}
use Rattle.std.proofs.lemmas.Option.{get_or_from_slice_get, unwrap_or-slice_get}
use Rattle.std.proofs.lemmas.List.Sums.{fails_before_first}
use Rattle.std.proofs.lemmas.Bool.Decides.{nat_tests}
use Rattle.std.specs.List.{position_or_len}
use Rattle.tl_names.specs.Indexes.{types_of}
use Rattle.tl_names.proofs.TypeNumbers.{few_types}
use Rattle.tl_schema.specs.Schemas.{Declaration}
use Rattle.tl_schema.specs.Formed.{IsMember}
use Rattle.wire_forms.specs.declared.numbers.TheConstants.{NO_FORM}
use Rattle.wire_forms.specs.Forms.{FormView, forms, constructs}
use Rattle.wire_profile.specs.Indexes.{ProfileView, number_at, form_at}
use Rattle.wire_profile.specs.Profiles.{IsProfile, IsForm, AreHeads}
use Rattle.wire_profile.proofs.FormTable.{IsFormAt, IsMemberForm, form_there, one_form, some_is, clash, within}

pub few_forms : length forms < NO_FORM
unfolding forms
few_forms = omega arith

-- ---- indexes

-- the form at an index, if it is any
pub record IsAt (indexes : List ℕ) (i k : ℕ) : Type 0 where
  pub within : k < length indexes
  pub index : number_at indexes k ≡ i

at_from : (indexes : List ℕ) (i : ℕ) (o : Option ℕ) → position (λ index. index == i) indexes ≡ o → (k : ℕ) → unwrap_or o NO_FORM ≡ k → k < NO_FORM → IsAt indexes i k
at_from indexes i None found k is lt = absurd (omega (arith, is))
at_from indexes i (Some j) found k is lt =
    let all = position-Some (λ index. index == i) indexes j NO_FORM found in
    let same : j ≡ k = is in
    subst (IsAt indexes i) same (record { within = all.0; index = eqb-true _ _ all.1 })

pub form_is_at : (indexes : List ℕ) (i k : ℕ) → form_at indexes i ≡ k → k < NO_FORM → IsAt indexes i k
form_is_at indexes i k is lt = at_from indexes i (position (λ index. index == i) indexes) refl k is lt

at_most : (p : ℕ → Bool) (xs : List ℕ) (k d : ℕ) → p (get_or xs k d) ≡ true → (b : Bool) → nat_lt k (position_or_len p xs) ≡ b → position_or_len p xs ≤ k
at_most p xs k d is true e = absurd (clash (sym (fails_before_first p xs k d (grind (arith, nat_tests, e))) ∙ is))
at_most p xs k d is false e = grind (arith, nat_tests, e)

found_at : (indexes : List ℕ) (k j : ℕ) → k < length indexes → ((i : ℕ) → i < length indexes → number_at indexes i ≡ number_at indexes k → i ≡ k) → j ≡ position_or_len (λ index. index == number_at indexes k) indexes → j ≤ k → form_at indexes (number_at indexes k) ≡ k
found_at indexes k j lt apart is le =
    let test = λ (index : ℕ). index == number_at indexes k in
    let inside : nat_lt (position_or_len test indexes) (length indexes) ≡ true = grind (arith, nat_tests) in
    let there : position test indexes ≡ Some (position_or_len test indexes) = ap (λ (b : Bool). cond b (Some (position_or_len test indexes)) None) inside in
    let first = position-Some test indexes (position_or_len test indexes) NO_FORM there in
    ap (λ (o : Option ℕ). unwrap_or o NO_FORM) there ∙ apart (position_or_len test indexes) first.0 (eqb-true _ _ first.1)

-- where no two forms have one index, a form's index has this form
pub form_again : (indexes : List ℕ) (k : ℕ) → k < length indexes → ((j : ℕ) → j < length indexes → number_at indexes j ≡ number_at indexes k → j ≡ k) → form_at indexes (number_at indexes k) ≡ k
form_again indexes k lt apart = found_at indexes k _ lt apart refl (at_most (λ index. index == number_at indexes k) indexes k NO_FORM (eq-eqb _ _ refl) (nat_lt k (position_or_len (λ index. index == number_at indexes k) indexes)) refl)

-- ---- of a profile

module _ (p : ProfileView) (good : IsProfile p) where
  -- declaration e is d, that of form k, which is f
  pub record Declares (k e : ℕ) (f : FormView) (d : Declaration) : Type 0 where
    pub form : IsFormAt k f
    pub index : number_at p.indexes k ≡ e
    pub there : slice_get p.schema.decls e ≡ Some d
    pub is : IsForm p f d

  one_index : (j k : ℕ) (f g : FormView) → IsFormAt j f → IsFormAt k g → number_at p.indexes j ≡ number_at p.indexes k → j ≡ k
  one_index j k f g here there same =
      let a = good.forms_there j f here in
      let b = good.forms_there k g there in
      let d_is : a.d ≡ b.d = some_is _ _ (sym a.there ∙ ap (slice_get p.schema.decls) same ∙ b.there) in
      one_form j k f g here there (sym a.is.name ∙ ap (λ (d : Declaration). d.name) d_is ∙ b.is.name)

  form_at_index : (k : ℕ) (f : FormView) → IsFormAt k f → form_at p.indexes (number_at p.indexes k) ≡ k
  form_at_index k f there =
      let lt : k < length p.indexes = let inside = within forms k f there in omega (arith, good.count, inside) in
      form_again p.indexes k lt (λ j few same. let g = form_there j (omega (arith, good.count, few)) in one_index j k g.0 f g.1 there same)

  -- a form's own number, again
  pub own_again : (k : ℕ) (f : FormView) → IsFormAt k f → form_at p.indexes (number_at p.indexes k) ≡ k
  own_again = form_at_index

  -- a declaration's own index, again, where a form has it
  pub index_again : (e k : ℕ) (f : FormView) → form_at p.indexes e ≡ k → IsFormAt k f → number_at p.indexes k ≡ e
  index_again e k f is there = (form_is_at p.indexes e k is (let inside = within forms k f there in omega (arith, few_forms, inside))).index

  -- what declares a form
  pub declared : (e k : ℕ) (f : FormView) (d : Declaration) → form_at p.indexes e ≡ k → IsFormAt k f → slice_get p.schema.decls e ≡ Some d → IsForm p f d
  declared e k f d is form there =
      let h = good.forms_there k f form in
      subst (IsForm p f) (some_is _ _ (sym h.there ∙ ap (slice_get p.schema.decls) (index_again e k f is form) ∙ there)) h.is

  heads_long : (names : List (List ℕ)) (hs : List ℕ) → AreHeads p.schema names hs → length names ≡ length hs
  heads_long [] [] all = refl
  heads_long [] (h ∷ hs) all = absurd all
  heads_long (name ∷ names) [] all = absurd all
  heads_long (name ∷ names) (h ∷ hs) all = ap suc (heads_long names hs all.1)

  few_decls : length p.schema.decls < 2 ^ 32
  few_decls = omega (arith, good.schema.count, good.schema.small.few)

  member_by : (h e : ℕ) (d : Declaration) → IsMember p.schema (number_at p.heads h) e d → (o : Option ℕ) → slice_get p.heads h ≡ o → IsTrue (constructs h (form_at p.indexes e))
  member_by h e d m (Some head) at = good.no_more e h head d m.there at (m.head ∙ get_or_from_slice_get p.heads h head NO_FORM at)
  member_by h e d m None at =
      let past : number_at p.heads h ≡ NO_FORM = sym (unwrap_or-slice_get p.heads h NO_FORM) ∙ ap (λ (o : Option ℕ). unwrap_or o NO_FORM) at in
      absurd (omega (arith, few_decls, good.schema.count, few_types p.schema.program, m.known, past))

  -- a constructor of a type is one of its forms
  pub member : (h e : ℕ) (d : Declaration) → IsMember p.schema (number_at p.heads h) e d → IsTrue (constructs h (form_at p.indexes e))
  member h e d m = member_by h e d m (slice_get p.heads h) refl

  -- a form is a constructor of its type
  pub is_member : (h k : ℕ) (f : FormView) → IsMemberForm h k f → (d : Declaration) × IsMember p.schema (number_at p.heads h) (number_at p.indexes k) d × IsForm p f d
  is_member h k f m =
      let a = good.forms_there k f m.there in
      let head = a.is.head h m.function m.result in
      (a.d, record { there = a.there; head = head.0; known = subst (λ (n : ℕ). n < length (types_of p.schema.program)) head.0 head.1 }, a.is)
