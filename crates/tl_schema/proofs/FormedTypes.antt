-- A type is formed where none of its parts has a cause.
use Rattle.std.proofs.Common.{◌≡◌, inl, inr, ℕ, suc, ◌<◌, List, length, codes, Some, refl, ap, ◌∙◌, subst, arith}
use Rattle.std.proofs.lemmas.Bool.{cases_eq}
use Rattle.tl_program.specs.declared.built_in.BuiltIn.{BuiltIn}
use Rattle.tl_program.specs.BuiltIns.{built_in}
use Rattle.tl_program.specs.Trees.{Tree, Trees, named, percent, any_call, no_trees, tree}
use Rattle.tl_program.specs.Program.{DeclText}
use Rattle.tl_names.specs.Writing.{is_vector_name}
use Rattle.tl_names.specs.Parts.{IsPart, IsPartOfOne}
use Rattle.tl_names.specs.BareFields.{TakesNone}
use Rattle.tl_names.specs.BareReferences.{IsBareOf}
use Rattle.tl_names.specs.What.{variable_named, what_of}
use Rattle.tl_names.specs.declared.what.What.{What}
use Rattle.tl_names.proofs.HeadNames.{type_name}
use Rattle.tl_names.proofs.NameMeanings.{Means, means, vector_name}
use Rattle.tl_names.proofs.NameMeanings as means_so
use Rattle.tl_names.proofs.PartsOfOne.{is_own_part}
use Rattle.tl_schema.specs.UnknownType.{BeginsUnknown, no_type, no_constructor}
use Rattle.tl_schema.specs.UnknownVariable.{NamesVariable}
use Rattle.tl_schema.specs.WrongArity.{HasArity, Misapplies}
use Rattle.tl_schema.specs.WrongArity as has
use Rattle.tl_schema.specs.NotBare.{HasNoBare}
use Rattle.tl_schema.specs.EmptyElement.{AppliesToEmpty, IsOneOf}
use Rattle.tl_schema.specs.Types.{Shapes, no_shapes, shape}
use Rattle.tl_schema.specs.Schemas.{Declared}
use Rattle.tl_schema.specs.CheckedPrograms.{IsSchema}
use Rattle.tl_schema.specs.Meanings.{bare_form, built_in_shape, item_of, meaning, named_shape}
use Rattle.tl_schema.specs.Formed.{AppliesBare, IsFormedOver, AreArguments, IsEmpty, count_of}
use Rattle.tl_schema.specs.inner.BareForms.{IsBareName}
use Rattle.tl_schema.proofs.BareParts.{bare_named}
use Rattle.tl_schema.proofs.BareShapes.{bare_has, empty_bare, no_call, no_other, no_percent, only_numbered}
use Rattle.tl_schema.proofs.MeantTypes.{meanings}
use Rattle.tl_schema.proofs.Members.{applies_bare, applies_one, applies_type, type_made}

-- where d writes it, the type begins with none of the causes; if it is a variable, this is one of the first n
pub record IsFine (ds : List DeclText) (d : DeclText) (n : ℕ) (u : Tree) : Type 0 where
  pub known : BeginsUnknown ds d u → ⊥
  pub applied : Misapplies ds d u → ⊥
  pub bare : HasNoBare ds d u → ⊥
  pub full : AppliesToEmpty ds d u → ⊥
  pub below : NamesVariable d u → (i : ℕ) → variable_named d (type_name u) ≡ Some i → i < n

count_meanings : (ds : List DeclText) (d : DeclText) (ts : Trees) → count_of (meanings ds d ts) ≡ has.count_of ts
count_meanings ds d no_trees = refl
count_meanings ds d (tree t ts) = ap suc (count_meanings ds d ts)

module _ (schema : Declared) (good : IsSchema schema) (d : DeclText) (n : ℕ) where
  -- the only one of the types
  item_formed : (ss : Shapes) → count_of ss ≡ 1 → AreArguments schema n ss → IsFormedOver schema n (item_of ss) × (IsEmpty schema (item_of ss) → ⊥)
  item_formed no_shapes count are = absurd (omega (arith, count))
  item_formed (shape s ss) count are = (are.0, are.1)

  module _ (name : List ℕ) (ts : Trees) (fine : IsFine schema.program d n (named name ts)) (are : AreArguments schema n (meanings schema.program d ts)) where
    abbrev args : Shapes
    args = meanings schema.program d ts

    applied_to : (k : ℕ) → HasArity schema.program d name k → count_of args ≡ k
    applied_to k arity =
        count_meanings schema.program d ts ∙ elim (cases_eq (has.count_of ts) k) [ inl e ↦ e | inr other ↦ absurd (fine.applied (record { n = k; arity = arity; other = other })) ]

    built_in_formed : (b : BuiltIn) → built_in name ≡ Some b → (name ≡ codes "vector" → ⊥) → IsFormedOver schema n (built_in_shape b)
    built_in_formed BuiltIn.Int at other = tt
    built_in_formed BuiltIn.Long at other = tt
    built_in_formed BuiltIn.Double at other = tt
    built_in_formed BuiltIn.Str at other = tt
    built_in_formed BuiltIn.Bytes at other = tt
    built_in_formed BuiltIn.Vector at other = absurd (other (vector_name name at))
    built_in_formed BuiltIn.Int128 at other = tt
    built_in_formed BuiltIn.Int256 at other = tt

    formed_by : (w : What) → Means schema.program d name w → IsFormedOver schema n (named_shape w args)
    formed_by _ (means_so.variable i v at) = fine.below v i at
    formed_by _ (means_so.base b v built at other) = built_in_formed b at other
    formed_by _ (means_so.bare_vector v e) = item_formed args (applied_to 1 (has.vector v (ap is_vector_name e))) are
    formed_by _ (means_so.boxed_vector v e) = item_formed args (applied_to 1 (has.vector v (ap is_vector_name e))) are
    formed_by _ (means_so.type h j v own upper at first) =
        let c = first.0.0 in
        let count = applied_to (length c.vars) (has.type j c v own upper first.0.1 (λ i b below there. first.1 i below (b, there))) in
        (applies_type schema good name j c first.0.1 h (count_of args) at count, are)
    formed_by _ (means_so.constructor j v own lower first) =
        let c = first.0.0 in
        let count = applied_to (length c.vars) (has.constructor j c v own lower first.0.1 (λ i b below there. first.1 i below (b, there))) in
        let made = type_made schema good j c first.0.1.there first.0.1.own in
        (applies_bare schema good made.0 j c made.1 (count_of args) count, are)
    formed_by _ (means_so.no_type v own upper at none) =
        absurd (fine.known (record { no_variable = v; no_built_in = own; unknown = no_type upper (λ j c there. none j (c, there)) }))
    formed_by _ (means_so.no_constructor v own lower none) =
        absurd (fine.known (record { no_variable = v; no_built_in = own; unknown = no_constructor lower (λ j c there. none j (c, there)) }))

    named_formed : IsFormedOver schema n (named_shape (what_of schema.program d name) args)
    named_formed = formed_by (what_of schema.program d name) (means schema.program d name)

    -- the bare form of a name that has one
    bare_formed : (w : What) → w ≡ what_of schema.program d name → IsBareName schema.program d name → IsFormedOver schema n (named_shape w args) → IsFormedOver schema n (bare_form schema.program (named_shape w args))
    bare_formed (What.Variable i) is bare formed = no_other schema.program d name bare (What.Variable i) refl is
    bare_formed (What.Base b) is bare formed = no_other schema.program d name bare (What.Base b) refl is
    bare_formed (What.Vector is_boxed) is bare formed = formed
    bare_formed (What.Type h) is bare formed =
        let one = only_numbered schema.program d name bare h is in
        (subst (λ (k : ℕ). AppliesBare schema k (count_of args)) one.4 (applies_one schema good name one.0 one.1 one.2.one h (count_of args) one.3 formed.0), are)
    bare_formed (What.Constructor i) is bare formed = no_other schema.program d name bare (What.Constructor i) refl is
    bare_formed What.Unknown is bare formed = no_other schema.program d name bare What.Unknown refl is

    percent_formed : IsBareName schema.program d name → IsFormedOver schema n (bare_form schema.program (named_shape (what_of schema.program d name) args))
    percent_formed bare = bare_formed (what_of schema.program d name) refl bare named_formed

  -- ---- types

  mutual
    pub type_formed : (t : Tree) → ((u : Tree) → IsPart u t → IsFine schema.program d n u) → IsFormedOver schema n (meaning schema.program d t)
    type_formed (named name ts) fine =
        let here = fine (named name ts) (inl refl) in
        named_formed name ts here (types_formed ts (λ u part. fine u (inr part)) (λ u j one is none. here.full (u, j, one, is, none)))
    type_formed (percent (named name ts)) fine =
        let here = fine (named name ts) (inr (inl refl)) in
        percent_formed name ts here (types_formed ts (λ u part. fine u (inr (inr part))) (λ u j one is none. here.full (u, j, one, is, none)))
        ((bare_named schema.program d name ts).1 (bare_has schema.program d (named name ts) (fine (percent (named name ts)) (inl refl)).bare))
    type_formed (percent (percent t)) fine = absurd ((fine (percent (percent t)) (inl refl)).bare (no_percent schema.program d t))
    type_formed (percent any_call) fine = absurd ((fine (percent any_call) (inl refl)).bare (no_call schema.program d))
    type_formed any_call fine = tt

    types_formed : (ts : Trees) → ((u : Tree) → IsPartOfOne u ts → IsFine schema.program d n u) → ((u : Tree) (j : ℕ) → IsOneOf u ts → IsBareOf schema.program d u j → TakesNone schema.program j → ⊥) → AreArguments schema n (meanings schema.program d ts)
    types_formed no_trees fine full = tt
    types_formed (tree t ts) fine full = (
      type_formed t (λ u part. fine u (inl part)),
      λ e. (let b = empty_bare schema d t (fine t (inl (is_own_part t))).bare e in full t b.0 (inl refl) b.1 b.2),
      types_formed ts (λ u part. fine u (inr part)) (λ u j one. full u j (inr one)),
    )
