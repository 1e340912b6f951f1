-- Nodes to which those that the parts of types refer to were added.
use Rattle.std.proofs.Common.{◌≡◌, inl, inr, ℕ, ◌+◌, ◌<◌, ◌≤◌, List, [], ◌∷◌, ◌++◌, length, take, slice_get, Some, true, sym, ◌∙◌, subst, arith}
use Rattle.std.proofs.lemmas.Bool.{cases_eq}
use Rattle.std.proofs.lemmas.Option.{none-some, same_Some, slice_get_within}
use Rattle.std.proofs.lemmas.List.{take_all}
use Rattle.tl_program.specs.Trees.{Tree, Trees, named, percent, any_call, trees_of}
use Rattle.tl_program.specs.Program.{FieldText, DeclText}
use Rattle.tl_names.specs.Parts.{HeldBy, IsPart, IsPartOfOne}
use Rattle.tl_names.specs.Writing.{is_constructor}
use Rattle.tl_names.specs.inner.BareSteps.{Adds, Refers}
use Rattle.tl_names.proofs.Maps.{take_push}
use Rattle.tl_names.proofs.PartsOfOne.{part_of_push}
use Rattle.tl_names.proofs.Adding.{adds_same, adds_then}

part_kept : (u : Tree) (ts : List Tree) (t : Tree) → IsPartOfOne u (trees_of ts) → IsPartOfOne u (trees_of (ts ++ t ∷ []))
part_kept u [] t part = absurd part
part_kept u (s ∷ ts) t part = elim part [ inl here ↦ inl here | inr later ↦ inr (part_kept u ts t later) ]

part_last : (u : Tree) (ts : List Tree) (t : Tree) → IsPart u t → IsPartOfOne u (trees_of (ts ++ t ∷ []))
part_last u [] t part = inl part
part_last u (s ∷ ts) t part = inr (part_last u ts t part)

-- u is a part of one of the first fields' types
abbrev pub InFront : List FieldText → ℕ → Tree → Type 0
InFront fs n u = (i : ℕ) × (f : FieldText) × (slice_get fs i ≡ Some f) × (i < n) × HeldBy u f.kind

module _ (ds : List DeclText) (d : DeclText) where
  module _ (t : Tree) (old mid new : List ℕ) where
    -- the type itself, then the parts of what it is applied to
    pub adds_named : (name : List ℕ) (args : Trees) → t ≡ named name args → Adds ds d (λ u. u ≡ t) old mid → Adds ds d (λ u. IsPartOfOne u args) mid new → Adds ds d (λ u. IsPart u t) old new
    adds_named name args is =
        adds_then ds d (λ u. u ≡ t) (λ u. IsPartOfOne u args) (λ u. IsPart u t) old mid new
        (λ u part. elim (subst (IsPart u) is part) [ inl e ↦ inl (e ∙ sym is) | inr inside ↦ inr inside ]) (λ u e. subst (IsPart u) (sym is) (inl (e ∙ is))) (λ u inside. subst (IsPart u) (sym is) (inr inside))

    -- then the parts of what stands after `%`
    pub adds_percent : (s : Tree) → t ≡ percent s → Adds ds d (λ u. u ≡ t) old mid → Adds ds d (λ u. IsPart u s) mid new → Adds ds d (λ u. IsPart u t) old new
    adds_percent s is =
        adds_then ds d (λ u. u ≡ t) (λ u. IsPart u s) (λ u. IsPart u t) old mid new
        (λ u part. elim (subst (IsPart u) is part) [ inl e ↦ inl (e ∙ sym is) | inr inside ↦ inr inside ]) (λ u e. subst (IsPart u) (sym is) (inl (e ∙ is))) (λ u inside. subst (IsPart u) (sym is) (inr inside))

  pub adds_any_call : (t : Tree) (old new : List ℕ) → t ≡ any_call → Adds ds d (λ u. u ≡ t) old new → Adds ds d (λ u. IsPart u t) old new
  adds_any_call t old new is =
      adds_same ds d (λ u. u ≡ t) (λ u. IsPart u t) old new (λ u e. subst (IsPart u) (sym is) (e ∙ is)) (λ u part. subst (IsPart u) is part ∙ sym is)

  module _ (ts : List Tree) (i : ℕ) where
    -- the parts of one more type
    pub adds_item : (t : Tree) (old mid new : List ℕ) → slice_get ts i ≡ Some t → Adds ds d (λ u. IsPartOfOne u (trees_of (take i ts))) old mid → Adds ds d (λ u. IsPart u t) mid new
        → Adds ds d (λ u. IsPartOfOne u (trees_of (take (i + 1) ts))) old new
    adds_item t old mid new at =
        let push = take_push ts i t at in
        adds_then ds d (λ u. IsPartOfOne u (trees_of (take i ts))) (λ u. IsPart u t) (λ u. IsPartOfOne u (trees_of (take (i + 1) ts))) old mid new
        (λ u part. part_of_push u (take i ts) t (subst (λ us. IsPartOfOne u (trees_of us)) push part))
        (λ u part. subst (λ us. IsPartOfOne u (trees_of us)) (sym push) (part_kept u (take i ts) t part))
        (λ u part. subst (λ us. IsPartOfOne u (trees_of us)) (sym push) (part_last u (take i ts) t part))

    pub adds_all : (old new : List ℕ) → length ts ≤ i → Adds ds d (λ u. IsPartOfOne u (trees_of (take i ts))) old new → Adds ds d (λ u. IsPartOfOne u (trees_of ts)) old new
    adds_all old new all = subst (λ us. Adds ds d (λ u. IsPartOfOne u (trees_of us)) old new) (take_all i ts all)

  module _ (fs : List FieldText) (n : ℕ) where
    -- the parts of one more field's type
    pub adds_field : (f : FieldText) (old mid new : List ℕ) → slice_get fs n ≡ Some f → Adds ds d (InFront fs n) old mid → Adds ds d (λ u. HeldBy u f.kind) mid new → Adds ds d (InFront fs (n + 1)) old new
    adds_field f old mid new at =
        adds_then ds d (InFront fs n) (λ u. HeldBy u f.kind) (InFront fs (n + 1)) old mid new
        (λ u held. elim (cases_eq held.0 n) [
          | inl e ↦ inr (subst (λ (g : FieldText). HeldBy u g.kind) (same_Some held.1 f (sym held.2 ∙ subst (λ k. slice_get fs k ≡ Some f) (sym e) at)) held.4)
          | inr other ↦ inl (held.0, held.1, held.2, omega (arith, held.3, other), held.4)
        ])
        (λ u held. (held.0, held.1, held.2, omega (arith, held.3), held.4))
        (λ u held. (n, f, at, omega arith, held))

  -- the parts of all fields' types
  pub refers_all : (n : ℕ) (js : List ℕ) → is_constructor d ≡ true → length d.fields ≤ n → Adds ds d (InFront d.fields n) [] js → Refers ds d js
  refers_all n js own all adds j = (
    λ there. elim ((adds j).0 there) [ inl none ↦ absurd (none-some j none.1) | inr more ↦ (own, (more.0, (more.1.0, more.1.1, more.1.2, more.1.4), more.2)) ],
    λ refers.
        let held = refers.1.1 in
        (adds j).1 (inr (refers.1.0, (held.0, held.1, held.2, omega (arith, all, slice_get_within d.fields held.0 held.1 held.2), held.3), refers.1.2)),
  )

  -- a declaration that is no constructor refers to nothing
  pub refers_none : (is_constructor d ≡ true → ⊥) → Refers ds d []
  refers_none other j = (λ there. absurd (none-some j there.1), λ refers. absurd (other refers.0))
