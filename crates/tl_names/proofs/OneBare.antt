-- A type is one constructor, bare, at most, and a declaration has one list of bare fields at most.
use Rattle.std.proofs.Common.{◌≡◌, inl, inr, ℕ, List, slice_get, Some, ap, sym, subst, ◌∙◌, arith}
use Rattle.std.proofs.lemmas.Option.{same_Some, slice_get_cases, slice_get_within}
use Rattle.tl_program.specs.Trees.{Tree}
use Rattle.tl_program.specs.Program.{KindText, nat, flag, call, of, FieldText, DeclText}
use Rattle.tl_graph.specs.Firsts.{First}
use Rattle.tl_graph.specs.Paths.{IsIn}
use Rattle.tl_names.specs.Parts.{FieldAt}
use Rattle.tl_names.specs.Writing.{IsConstructorNamed}
use Rattle.tl_names.specs.BareReferences.{IsBareOf, by_name, by_type}
use Rattle.tl_names.specs.BareFields.{HoldsBare, HasBareFields}
use Rattle.tl_names.specs.Constructors.{IsOnlyConstructor}
use Rattle.tl_names.proofs.Firsts.{one_first}

module _ (ds : List DeclText) (d : DeclText) where
  pub one_bare : (t : Tree) (i j : ℕ) → IsBareOf ds d t i → IsBareOf ds d t j → i ≡ j
  one_bare t i j (by_name name args is variable built upper first) (by_name other others is_other variable_other built_other upper_other first_other) =
      let same : name ≡ other = cc in
      let moved = subst (λ n. First (λ k. (c : DeclText) × IsConstructorNamed ds n k c) (Some i)) same first in
      same_Some i j (one_first (λ k. (c : DeclText) × IsConstructorNamed ds other k c) (Some i) (Some j) moved first_other)
  one_bare t i j (by_name name args is variable built upper first) (by_type type others c is_other variable_other built_other upper_other only) = absurd cc
  one_bare t i j (by_type type args c is variable built upper only) (by_name name others is_other variable_other built_other upper_other first) = absurd cc
  one_bare t i j (by_type type args c is variable built upper only) (by_type other others b is_other variable_other built_other upper_other only_other) =
      let same : other ≡ type = cc in
      sym (only.only j b (subst (λ n. IsOnlyConstructor ds n j b) same only_other).one)

  one_held : (kind : KindText) (i j : ℕ) → HoldsBare ds d kind i → HoldsBare ds d kind j → i ≡ j
  one_held nat i j first second = absurd first
  one_held flag i j first second = absurd first
  one_held (call var) i j first second = absurd first
  one_held (of t) i j first second = one_bare t i j first second

  -- what stands in one list of bare fields stands in the other
  pub same_fields : (js ks : List ℕ) → HasBareFields ds d js → HasBareFields ds d ks → (j : ℕ) → IsIn j ks → IsIn j js
  same_fields js ks first second j (i, at) =
      let within = slice_get_within ks i j at in
      let field : (f : FieldText) × FieldAt d i f = elim (slice_get_cases d.fields i).1 [ inl (f, below, here, is) ↦ (f, here) | inr (past, none) ↦ absurd (omega (arith, within, past, second.count)) ] in
      let other : (k : ℕ) × (slice_get js i ≡ Some k) = elim (slice_get_cases js i).1 [ inl (k, below, here, is) ↦ (k, here) | inr (past, none) ↦ absurd (omega (arith, within, past, first.count, second.count)) ] in
      let same : other.0 ≡ j = one_held field.0.kind other.0 j (first.each i other.0 field.0 field.1 other.1) (second.each i j field.0 field.1 at) in
      (i, other.1 ∙ ap Some same)
