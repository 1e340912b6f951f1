-- The constructor that a type is, bare, is the one that it means.
use Rattle.std.proofs.Common.{◌≡◌, inl, inr, ℕ, Bool, true, false, List, Option, Some, None, refl, ap, sym, ◌∙◌, subst, arith, true≢false}
use Rattle.std.proofs.lemmas.Bool.{both_ways}
use Rattle.std.proofs.lemmas.Option.{none-some, same_Some}
use Rattle.tl_program.specs.declared.built_in.BuiltIn.{BuiltIn}
use Rattle.tl_program.specs.Trees.{Tree, Trees, named, percent, any_call}
use Rattle.tl_program.specs.Program.{DeclText}
use Rattle.tl_names.specs.Writing.{is_built_in}
use Rattle.tl_names.specs.Constructors.{FirstOf, IsOnlyConstructor}
use Rattle.tl_names.specs.BareFields.{TakesNone}
use Rattle.tl_names.specs.BareReferences.{IsBareOf, by_name, by_type}
use Rattle.tl_names.specs.Indexes.{first_numbered, types_of}
use Rattle.tl_names.specs.What.{type_named, what_of}
use Rattle.tl_names.specs.declared.what.What.{What}
use Rattle.tl_names.specs.inner.BareSteps.{BareIs, OnlyOf}
use Rattle.tl_names.specs.inner.WhatSteps.{constructor_in}
use Rattle.tl_names.proofs.BareNames.{name_bare, name_only}
use Rattle.tl_names.proofs.FirstIndexes.{first_of_number}
use Rattle.tl_names.proofs.NameMeanings.{Means, means}
use Rattle.tl_names.proofs.NameMeanings as means_so
use Rattle.tl_names.proofs.TypeNumbers.{index_apart}
use Rattle.tl_schema.specs.Types.{Shape, Shapes, int, long, nat, opaque, str, raw, flag, call, var, vector, boxed, bare}
use Rattle.tl_schema.specs.Schemas.{Declared}
use Rattle.tl_schema.specs.Formed.{IsEmpty}
use Rattle.tl_schema.specs.Meanings.{bare_form, built_in_shape, meaning, named_shape}
use Rattle.tl_schema.specs.NotBare.{HasBare, HasNoBare}
use Rattle.tl_schema.specs.NotBare as only
use Rattle.tl_schema.specs.inner.BareForms.{IsBareName}
use Rattle.tl_schema.specs.inner.WhatSteps.{HasForm}
use Rattle.tl_schema.proofs.BareParts.{bare_named}
use Rattle.tl_schema.proofs.MeantTypes.{meanings}
use Rattle.tl_schema.proofs.NameCases.{name_form}
use Rattle.tl_schema.proofs.NotBareFirst.{bare_decided}

abbrev pub bare_in : Shape → Option ℕ
bare_in (bare i args) = Some i
bare_in s = None

built_in_none : (b : BuiltIn) → bare_in (built_in_shape b) ≡ None
built_in_none BuiltIn.Int = refl
built_in_none BuiltIn.Long = refl
built_in_none BuiltIn.Double = refl
built_in_none BuiltIn.Str = refl
built_in_none BuiltIn.Bytes = refl
built_in_none BuiltIn.Vector = refl
built_in_none BuiltIn.Int128 = refl
built_in_none BuiltIn.Int256 = refl

named_in : (w : What) (args : Shapes) → constructor_in w ≡ bare_in (named_shape w args)
named_in (What.Variable i) args = refl
named_in (What.Base b) args = sym (built_in_none b)
named_in (What.Vector is_boxed) args = refl
named_in (What.Type n) args = refl
named_in (What.Constructor i) args = refl
named_in What.Unknown args = refl

module _ (ds : List DeclText) (d : DeclText) where
  -- ---- after `%`

  module _ (name : List ℕ) (has : IsBareName ds d name) where
    -- only `Vector` and a type have a bare form
    pub no_other : {P : Type 0} (w : What) → HasForm ds w false → w ≡ what_of ds d name → P
    no_other w none is = absurd (true≢false (sym ((name_form ds d name w false none is).1 has)))

    single : (n : ℕ) → Means ds d name (What.Type n) → (j : ℕ) × (c : DeclText) × IsOnlyConstructor ds name j c × (type_named ds name ≡ Some n)
    single n (means_so.type _ first v own upper at is) =
        elim has.form [ inl vector_name ↦ absurd (both_ways _ own (ap is_built_in vector_name)) | inr one ↦ (one.1.0, one.1.1, one.1.2, at) ]

    only_first : (j : ℕ) (c : DeclText) → IsOnlyConstructor ds name j c → FirstOf ds name (Some j)
    only_first j c one = ((c, one.one), λ i below h. let same = one.only i h.0 h.1 in omega (arith, below, same))

    -- the only constructor of the type is that with the type's number
    pub only_numbered : (n : ℕ) → What.Type n ≡ what_of ds d name → (j : ℕ) × (c : DeclText) × IsOnlyConstructor ds name j c × (type_named ds name ≡ Some n) × (j ≡ first_numbered ds n)
    only_numbered n is =
        let one = single n (subst (Means ds d name) (sym is) (means ds d name)) in
        (one.0, one.1, one.2, one.3, first_of_number ds name n one.0 one.3 (only_first one.0 one.1 one.2))

    only_of : (n : ℕ) → What.Type n ≡ what_of ds d name → (type : List ℕ) → type_named ds type ≡ Some n → OnlyOf ds type (Some (first_numbered ds n))
    only_of n is type at =
        let one = only_numbered n is in
        let same : name ≡ type = index_apart (types_of ds) name type n one.3 at in
        subst (λ (x : List ℕ). OnlyOf ds x (Some (first_numbered ds n))) same (λ j. (
          λ other. ap Some (sym one.4 ∙ other.1.only one.0 one.1 one.2.one),
          λ e. (one.1, subst (λ (k : ℕ). IsOnlyConstructor ds name k one.1) (one.4 ∙ same_Some (first_numbered ds n) j e) one.2),
        ))

    percent_in : (w : What) (ts : Trees) (args : Shapes) → w ≡ what_of ds d name → BareIs ds d (percent (named name ts)) (bare_in (bare_form ds (named_shape w args)))
    percent_in (What.Variable i) ts args is = no_other (What.Variable i) refl is
    percent_in (What.Base b) ts args is = no_other (What.Base b) refl is
    percent_in (What.Vector false) ts args is = no_other (What.Vector false) refl is
    percent_in (What.Vector true) ts args is = name_only ds d name ts (What.Vector true) None refl is
    percent_in (What.Type n) ts args is = name_only ds d name ts (What.Type n) (Some (first_numbered ds n)) (only_of n is) is
    percent_in (What.Constructor i) ts args is = no_other (What.Constructor i) refl is
    percent_in What.Unknown ts args is = no_other What.Unknown refl is

  pub bare_has : (t : Tree) → (HasNoBare ds d (percent t) → ⊥) → HasBare ds d t
  bare_has t fine = elim (bare_decided ds d t) [ inl h ↦ h | inr none ↦ absurd (fine none) ]

  pub no_percent : (t : Tree) → HasBare ds d (percent t) → ⊥
  no_percent t (only.vector args hidden is) = cc
  no_percent t (only.single type args j c hidden upper is one) = cc

  pub no_call : HasBare ds d any_call → ⊥
  no_call (only.vector args hidden is) = cc
  no_call (only.single type args j c hidden upper is one) = cc

  -- ---- types

  call_no_bare : (j : ℕ) → IsBareOf ds d any_call j → ⊥
  call_no_bare j (by_name name args is v own lower first) = cc
  call_no_bare j (by_type type args c is v own upper one) = cc

  -- where a type after `%` has a bare form
  pub bare_is : (t : Tree) → (HasNoBare ds d t → ⊥) → BareIs ds d t (bare_in (meaning ds d t))
  bare_is (named name ts) fine =
      subst (BareIs ds d (named name ts)) (named_in (what_of ds d name) (meanings ds d ts)) (name_bare ds d name ts (what_of ds d name) refl)
  bare_is (percent (named name ts)) fine =
      percent_in name ((bare_named ds d name ts).1 (bare_has (named name ts) fine)) (what_of ds d name) ts (meanings ds d ts) refl
  bare_is (percent (percent t)) fine = absurd (fine (no_percent t))
  bare_is (percent any_call) fine = absurd (fine no_call)
  bare_is any_call fine = λ j. (λ bare. absurd (call_no_bare j bare), λ e. absurd (none-some j e))

  -- and a type that is a bare constructor has one
  pub bare_means : (t : Tree) (j : ℕ) → IsBareOf ds d t j → bare_in (meaning ds d t) ≡ Some j
  bare_means t j is = (bare_is t (fine is) j).0 is
    where
      fine : IsBareOf ds d t j → HasNoBare ds d t → ⊥
      fine (by_name name args is v own lower first) none = subst (HasNoBare ds d) is none
      fine (by_type type args c is v own upper one) none = subst (HasNoBare ds d) is none (only.single type args j c v upper refl one)

-- ---- forms of types

pub bare_at : (s : Shape) (j : ℕ) → bare_in s ≡ Some j → (args : Shapes) × (s ≡ bare j args)
bare_at int j e = absurd (none-some j e)
bare_at long j e = absurd (none-some j e)
bare_at nat j e = absurd (none-some j e)
bare_at (opaque k) j e = absurd (none-some j e)
bare_at str j e = absurd (none-some j e)
bare_at raw j e = absurd (none-some j e)
bare_at flag j e = absurd (none-some j e)
bare_at call j e = absurd (none-some j e)
bare_at (var i) j e = absurd (none-some j e)
bare_at (vector is_boxed s) j e = absurd (none-some j e)
bare_at (boxed h args) j e = absurd (none-some j e)
bare_at (bare i args) j e = (args, ap (λ k. bare k args) (same_Some i j e))

-- what holds of a type, and of a bare vector and of a constructor in its place, holds of its bare form
pub form_by : (ds : List DeclText) (P : Shape → Type 0) (s : Shape) → P s → ((is_boxed : Bool) (u : Shape) → s ≡ vector is_boxed u → P (vector false u)) → ((h : ℕ) (args : Shapes) → s ≡ boxed h args → P (bare (first_numbered ds h) args)) → P (bare_form ds s)
form_by ds P int h on_vector on_type = h
form_by ds P long h on_vector on_type = h
form_by ds P nat h on_vector on_type = h
form_by ds P (opaque k) h on_vector on_type = h
form_by ds P str h on_vector on_type = h
form_by ds P raw h on_vector on_type = h
form_by ds P flag h on_vector on_type = h
form_by ds P call h on_vector on_type = h
form_by ds P (var i) h on_vector on_type = h
form_by ds P (vector is_boxed s) h on_vector on_type = on_vector is_boxed s refl
form_by ds P (boxed k args) h on_vector on_type = on_type k args refl
form_by ds P (bare i args) h on_vector on_type = h

-- ---- types of no bytes

empty_in : (schema : Declared) (s : Shape) → IsEmpty schema s → (j : ℕ) × (bare_in s ≡ Some j) × TakesNone schema.program j
empty_in schema int e = absurd e
empty_in schema long e = absurd e
empty_in schema nat e = absurd e
empty_in schema (opaque k) e = absurd e
empty_in schema str e = absurd e
empty_in schema raw e = absurd e
empty_in schema flag e = absurd e
empty_in schema call e = absurd e
empty_in schema (var i) e = absurd e
empty_in schema (vector is_boxed s) e = absurd e
empty_in schema (boxed h args) e = absurd e
empty_in schema (bare i args) e = (i, refl, e)

-- a type that means one of no bytes is a bare constructor that takes none
pub empty_bare : (schema : Declared) (d : DeclText) (t : Tree) → (HasNoBare schema.program d t → ⊥) → IsEmpty schema (meaning schema.program d t) → (j : ℕ) × IsBareOf schema.program d t j × TakesNone schema.program j
empty_bare schema d t fine e =
    let empty = empty_in schema (meaning schema.program d t) e in (empty.0, (bare_is schema.program d t fine empty.0).1 empty.1, empty.2)
