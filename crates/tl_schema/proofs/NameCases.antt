-- What the checks ask of a name, by what it means.
use Rattle.std.proofs.Common.{◌≡◌, ◌≢◌, ◌↔◌, inl, inr, ℕ, Bool, true, false, ◌||◌, List, length, bytes_eq, Option, Some, None, refl, ap, sym, subst, ◌∙◌, true≢false}
use Rattle.std.specs.Prelude.{codes, IsTrue}
use Rattle.std.proofs.lemmas.Bool.{both_ways, false_from_ne_true}
use Rattle.std.proofs.lemmas.Option.{none-some, same_Some, slice_get-map}
use Rattle.std.proofs.lemmas.Slice.Eq.{bytes_eq-Decides}
use Rattle.std.specs.Option.{option_map}
use Rattle.tl_program.specs.Program.{DeclText}
use Rattle.tl_program.specs.BuiltIns.{built_in}
use Rattle.tl_program.specs.declared.built_in.BuiltIn.{BuiltIn}
use Rattle.tl_names.specs.Writing.{is_built_in, is_type_name, is_variable, is_vector_name, IsConstructorOf, IsConstructorNamed}
use Rattle.tl_names.specs.Constructors.{IsSingle}
use Rattle.tl_names.specs.What.{what_of}
use Rattle.tl_names.specs.declared.what.What.{What}
use Rattle.tl_names.proofs.NameMeanings.{Means, means, upper_no_base, variable, base, bare_vector, boxed_vector, type, constructor, no_type, no_constructor}
use Rattle.tl_schema.specs.inner.Arities.{IsArity}
use Rattle.tl_schema.specs.inner.BareForms.{IsBareName}
use Rattle.tl_schema.specs.UnknownType.{IsUnknown, IsUnknownIn}
use Rattle.tl_schema.specs.UnknownType as unknown
use Rattle.tl_schema.specs.WrongArity as has
use Rattle.tl_schema.specs.inner.WhatSteps.{is_unknown, means_variable, HasVars, HasForm}
use Rattle.tl_schema.proofs.ArityCases.{first_has, none_has, is_arity, of_type, of_constructor}

never : {P : Type 0} → (P → ⊥) → IsTrue false ↔ P
never none = (λ h. absurd (true≢false (sym h)), λ p. absurd (none p))

-- ---- the built-in names begin in lower case

pub lower_built_in : (name : List ℕ) (x : BuiltIn) → built_in name ≡ Some x → is_type_name name ≡ false
lower_built_in name x at = false_from_ne_true (is_type_name name) (λ upper. none-some x (sym (upper_no_base name upper) ∙ at))

module _ (ds : List DeclText) (d : DeclText) (name : List ℕ) where
  -- ---- whether it is unknown

  unknown_means : (w : What) → Means ds d name w → IsTrue (is_unknown w) ↔ IsUnknownIn ds d name
  unknown_means _ (variable i v at) = never (λ (u : IsUnknownIn ds d name). both_ways _ u.no_variable v)
  unknown_means _ (base b v built at other) = never (λ (u : IsUnknownIn ds d name). both_ways _ u.no_built_in built)
  unknown_means _ (bare_vector v e) = never (λ (u : IsUnknownIn ds d name). both_ways _ u.no_built_in (ap is_built_in e))
  unknown_means _ (boxed_vector v e) = never (λ (u : IsUnknownIn ds d name). both_ways _ u.no_built_in (ap is_built_in e))
  unknown_means _ (type n first v free upper at is) = never (λ (u : IsUnknownIn ds d name). elim u.unknown [ unknown.no_type _ none ↦ none first is.0.0 is.0.1 | unknown.no_constructor lower none ↦ both_ways _ lower upper ])
  unknown_means _ (constructor k v free lower is) = never (λ (u : IsUnknownIn ds d name). elim u.unknown [ unknown.no_type upper none ↦ both_ways _ lower upper | unknown.no_constructor _ none ↦ none k is.0.0 is.0.1 ])
  unknown_means _ (no_type v free upper at is) = (λ h. record { no_variable = v; no_built_in = free; unknown = unknown.no_type upper (λ j c made. is j (c, made)) }, λ u. refl)
  unknown_means _ (no_constructor v free lower is) = (λ h. record { no_variable = v; no_built_in = free; unknown = unknown.no_constructor lower (λ j c made. is j (c, made)) }, λ u. refl)

  pub unknown_name : (w : What) → w ≡ what_of ds d name → IsTrue (is_unknown w) ↔ IsUnknownIn ds d name
  unknown_name w e = unknown_means w (subst (Means ds d name) (sym e) (means ds d name))

  -- ---- whether it is a variable

  variable_means : (w : What) → Means ds d name w → means_variable w ≡ is_variable d name
  variable_means _ (variable i v at) = sym v
  variable_means _ (base b v built at other) = sym v
  variable_means _ (bare_vector v e) = sym v
  variable_means _ (boxed_vector v e) = sym v
  variable_means _ (type n first v free upper at is) = sym v
  variable_means _ (constructor k v free lower is) = sym v
  variable_means _ (no_type v free upper at is) = sym v
  variable_means _ (no_constructor v free lower is) = sym v

  pub variable_name : (w : What) → w ≡ what_of ds d name → means_variable w ≡ is_variable d name
  variable_name w e = variable_means w (subst (Means ds d name) (sym e) (means ds d name))

  -- ---- how many variables it has

  no_vector : (b : BuiltIn) → built_in name ≡ Some b → name ≢ codes "vector" → is_vector_name name ≡ false
  no_vector b at other = by _ _ refl refl
    where
      by : (x y : Bool) → bytes_eq name (codes "vector") ≡ x → bytes_eq name (codes "Vector") ≡ y → (x || y) ≡ false
      by true y e f = absurd (other ((bytes_eq-Decides name (codes "vector")).0 e))
      by false true e f = absurd (none-some b (sym (ap built_in ((bytes_eq-Decides name (codes "Vector")).0 f)) ∙ at))
      by false false e f = refl

  vars_mean : (w : What) (o : Option ℕ) → Means ds d name w → HasVars ds w o → IsArity ds d name o
  vars_mean _ o (variable i v at) told = subst (IsArity ds d name) (sym told) (is_arity ds d name 0 (has.variable v))
  vars_mean _ o (base b v built at other) told = subst (IsArity ds d name) (sym told) (is_arity ds d name 0 (has.built_in v (no_vector b at other) built))
  vars_mean _ o (bare_vector v e) told = subst (IsArity ds d name) (sym told) (is_arity ds d name 1 (has.vector v (ap is_vector_name e)))
  vars_mean _ o (boxed_vector v e) told = subst (IsArity ds d name) (sym told) (is_arity ds d name 1 (has.vector v (ap is_vector_name e)))
  vars_mean _ o (type n first v free upper at is) told = of_type ds d name v free upper o (told name at)
  vars_mean _ o (constructor k v free lower is) told =
      let count = slice_get-map (λ (c : DeclText). length c.vars) ds k ∙ ap (option_map (λ (c : DeclText). length c.vars)) is.0.1.there in
      subst (IsArity ds d name) (sym (told ∙ count)) (of_constructor ds d name v free lower (Some (length is.0.0.vars)) (first_has (IsConstructorNamed ds name) k (length is.0.0.vars) is (λ c there. ap (λ (x : DeclText). length x.vars) (same_Some c is.0.0 (sym there.there ∙ is.0.1.there)))))
  vars_mean _ o (no_type v free upper at is) told = subst (IsArity ds d name) (sym told) (of_type ds d name v free upper None (none_has (IsConstructorOf ds name) is))
  vars_mean _ o (no_constructor v free lower is) told = subst (IsArity ds d name) (sym told) (of_constructor ds d name v free lower None (none_has (IsConstructorNamed ds name) is))

  pub name_arity : (w : What) (o : Option ℕ) → HasVars ds w o → w ≡ what_of ds d name → IsArity ds d name o
  name_arity w o told e = vars_mean w o (subst (Means ds d name) (sym e) (means ds d name)) told

  -- ---- whether it has a bare form

  no_form : (name ≡ codes "Vector" → ⊥) → ((is_type_name name ≡ true) × IsSingle ds name → ⊥) → IsBareName ds d name → ⊥
  no_form a b bare = elim bare.form [ inl e ↦ a e | inr one ↦ b one ]

  form_means : (w : What) (b : Bool) → Means ds d name w → HasForm ds w b → IsTrue b ↔ IsBareName ds d name
  form_means _ b (variable i v at) told = subst (λ (x : Bool). IsTrue x ↔ IsBareName ds d name) (sym told) (never (λ (bare : IsBareName ds d name). both_ways _ bare.no_variable v))
  form_means _ b (base x v built at other) told =
      subst (λ (x : Bool). IsTrue x ↔ IsBareName ds d name) (sym told) (never (no_form (λ e. none-some x (sym (ap built_in e) ∙ at)) (λ one. both_ways _ (lower_built_in name x at) one.0)))
  form_means _ b (bare_vector v e) told = subst (λ (x : Bool). IsTrue x ↔ IsBareName ds d name) (sym told) (never (no_form (λ f. both_ways _ (ap is_type_name e) (ap is_type_name f)) (λ one. both_ways _ (ap is_type_name e) one.0)))
  form_means _ b (boxed_vector v e) told = subst (λ (x : Bool). IsTrue x ↔ IsBareName ds d name) (sym told) (λ h. record { no_variable = v; form = inl e }, λ bare. refl)
  form_means _ b (type n first v free upper at is) told = (
    λ h. record { no_variable = v; form = inr (upper, (told name at).0 h) },
    λ bare. (told name at).1 (elim bare.form as (λ _. IsSingle ds name) [ inl e ↦ absurd (both_ways _ free (ap is_built_in e)) | inr one ↦ one.1 ]),
  )
  form_means _ b (constructor k v free lower is) told = subst (λ (x : Bool). IsTrue x ↔ IsBareName ds d name) (sym told) (never (no_form (λ e. both_ways _ free (ap is_built_in e)) (λ one. both_ways _ lower one.0)))
  form_means _ b (no_type v free upper at is) told = subst (λ (x : Bool). IsTrue x ↔ IsBareName ds d name) (sym told) (never (no_form (λ e. both_ways _ free (ap is_built_in e)) (λ one. is one.1.0 (one.1.1, one.1.2.one))))
  form_means _ b (no_constructor v free lower is) told = subst (λ (x : Bool). IsTrue x ↔ IsBareName ds d name) (sym told) (never (no_form (λ e. both_ways _ free (ap is_built_in e)) (λ one. both_ways _ lower one.0)))

  pub name_form : (w : What) (b : Bool) → HasForm ds w b → w ≡ what_of ds d name → IsTrue b ↔ IsBareName ds d name
  name_form w b told e = form_means w b (subst (Means ds d name) (sym e) (means ds d name)) told
