-- Which constructor a name is, bare, and which `%` before it.
use Rattle.std.proofs.Common.{◌≡◌, ℕ, true, false, List, Option, Some, None, ap, sym, subst, ◌∙◌}
use Rattle.std.proofs.lemmas.Bool.{both_ways}
use Rattle.std.proofs.lemmas.Option.{none-some}
use Rattle.tl_program.specs.Trees.{Tree, Trees, named, percent}
use Rattle.tl_program.specs.Program.{DeclText}
use Rattle.tl_names.specs.BareReferences.{IsBareOf, by_name, by_type}
use Rattle.tl_names.specs.Constructors.{IsOnlyConstructor}
use Rattle.tl_names.specs.What.{what_of}
use Rattle.tl_names.specs.Writing.{is_built_in, is_type_name, is_variable}
use Rattle.tl_names.specs.declared.what.What.{What}
use Rattle.tl_names.specs.inner.BareSteps.{BareIs}
use Rattle.tl_names.specs.inner.WhatSteps.{constructor_in, HasOnly}
use Rattle.tl_names.proofs.BareMeanings.{bare_name, bare_type}
use Rattle.tl_names.proofs.HeadNames.{type_name}
use Rattle.tl_names.proofs.NameMeanings.{Means, means, variable, base, bare_vector, boxed_vector, type, constructor, no_type, no_constructor}

module _ (ds : List DeclText) (d : DeclText) (name : List ℕ) (args : Trees) where
  no_bare : (t : Tree) → ((j : ℕ) → IsBareOf ds d t j → ⊥) → BareIs ds d t None
  no_bare t none j = (λ bare. absurd (none j bare), λ e. absurd (none-some j e))

  by_name_only : (j : ℕ) → IsBareOf ds d (named name args) j → (is_variable d name ≡ false) × (is_built_in name ≡ false) × (is_type_name name ≡ false)
  by_name_only j (by_name n others is v free lower first) =
      let e : name ≡ n = ap type_name is in
      (ap (is_variable d) e ∙ v, ap is_built_in e ∙ free, ap is_type_name e ∙ lower)
  by_name_only j (by_type n others c is v free upper only) = absurd cc

  bare_means : (w : What) → Means ds d name w → BareIs ds d (named name args) (constructor_in w)
  bare_means _ (variable i v at) = no_bare (named name args) (λ j bare. both_ways _ (by_name_only j bare).0 v)
  bare_means _ (base b v built at other) = no_bare (named name args) (λ j bare. both_ways _ (by_name_only j bare).1 built)
  bare_means _ (bare_vector v e) = no_bare (named name args) (λ j bare. both_ways _ (by_name_only j bare).1 (ap is_built_in e))
  bare_means _ (boxed_vector v e) = no_bare (named name args) (λ j bare. both_ways _ (by_name_only j bare).1 (ap is_built_in e))
  bare_means _ (type n first v free upper at is) = no_bare (named name args) (λ j bare. both_ways _ (by_name_only j bare).2 upper)
  bare_means _ (constructor k v free lower is) = bare_name ds d name args (Some k) v free lower is
  bare_means _ (no_type v free upper at is) = no_bare (named name args) (λ j bare. both_ways _ (by_name_only j bare).2 upper)
  bare_means _ (no_constructor v free lower is) = bare_name ds d name args None v free lower is

  pub name_bare : (w : What) → w ≡ what_of ds d name → BareIs ds d (named name args) (constructor_in w)
  name_bare w e = bare_means w (subst (Means ds d name) (sym e) (means ds d name))

  by_type_only : (j : ℕ) → IsBareOf ds d (percent (named name args)) j → (is_variable d name ≡ false) × (is_built_in name ≡ false) × (is_type_name name ≡ true) × ((c : DeclText) × IsOnlyConstructor ds name j c)
  by_type_only j (by_name n others is v free lower first) = absurd cc
  by_type_only j (by_type n others c is v free upper only) =
      let e : name ≡ n = cc in
      (ap (is_variable d) e ∙ v, ap is_built_in e ∙ free, ap is_type_name e ∙ upper, subst (λ (x : List ℕ). (y : DeclText) × IsOnlyConstructor ds x j y) (sym e) (c, only))

  only_means : (w : What) (o : Option ℕ) → Means ds d name w → HasOnly ds w o → BareIs ds d (percent (named name args)) o
  only_means _ o (variable i v at) told = subst (BareIs ds d (percent (named name args))) (sym told) (no_bare (percent (named name args)) (λ j bare. both_ways _ (by_type_only j bare).0 v))
  only_means _ o (base b v built at other) told = subst (BareIs ds d (percent (named name args))) (sym told) (no_bare (percent (named name args)) (λ j bare. both_ways _ (by_type_only j bare).1 built))
  only_means _ o (bare_vector v e) told = subst (BareIs ds d (percent (named name args))) (sym told) (no_bare (percent (named name args)) (λ j bare. both_ways _ (by_type_only j bare).1 (ap is_built_in e)))
  only_means _ o (boxed_vector v e) told = subst (BareIs ds d (percent (named name args))) (sym told) (no_bare (percent (named name args)) (λ j bare. both_ways _ (by_type_only j bare).1 (ap is_built_in e)))
  only_means _ o (type n first v free upper at is) told = bare_type ds d name args o v free upper (told name at)
  only_means _ o (constructor k v free lower is) told = subst (BareIs ds d (percent (named name args))) (sym told) (no_bare (percent (named name args)) (λ j bare. both_ways _ lower (by_type_only j bare).2))
  only_means _ o (no_type v free upper at is) told = subst (BareIs ds d (percent (named name args))) (sym told) (no_bare (percent (named name args)) (λ j bare. is j ((by_type_only j bare).3.0, (by_type_only j bare).3.1.one)))
  only_means _ o (no_constructor v free lower is) told = subst (BareIs ds d (percent (named name args))) (sym told) (no_bare (percent (named name args)) (λ j bare. both_ways _ lower (by_type_only j bare).2))

  pub name_only : (w : What) (o : Option ℕ) → HasOnly ds w o → w ≡ what_of ds d name → BareIs ds d (percent (named name args)) o
  name_only w o told e = only_means w o (subst (Means ds d name) (sym e) (means ds d name)) told
