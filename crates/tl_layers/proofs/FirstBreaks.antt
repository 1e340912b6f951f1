-- The first break of a declaration, by its parts.
use Rattle.std.proofs.Common.{◌≡◌, ◌≢◌, ℕ, ◌≤◌, List, slice_get, Option, Some, None, ap, sym, ◌∙◌, subst, true, false, true≢false, arith}
use Rattle.std.proofs.lemmas.Option.{none-some, same_Some}
use Rattle.tl_graph.specs.Firsts.{First}
use Rattle.tl_schema.specs.Schemas.{Slot, Declaration}
use Rattle.tl_types.specs.Parts.{fields_in}
use Rattle.tl_layers.specs.Counterparts.{counterpart, first_constructor}
use Rattle.tl_layers.specs.Breaks.{ArePair, OfPair, IsSplit, HasBreak, rank}
use Rattle.tl_layers.specs.inner.Pairs.{PairView}
use Rattle.tl_layers.specs.inner.FieldBreaks.{HasCause, NoneHas, IsFieldBreak, IsHeadBreak, IsFirstBreak}
use Rattle.tl_layers.specs.declared.fault.Break.{Break}
use Rattle.tl_layers.specs.declared.fault.Break.TheVariants.{Gone, NewNumber, NewVars, TypeSplit, FieldGone, FieldOrder, FieldChanged, FieldAdded}
use Rattle.tl_layers.specs.declared.field_breaks.FieldCause.TheVariants as cause
use Rattle.tl_layers.proofs.OneBreak.{same_pair}

module _ (p : PairView) (i : ℕ) (d e : Declaration) (pair : ArePair p.old p.new i d e) where
  of_pair : (P : Declaration → Declaration → Type 0) → OfPair p.old p.new i P → P d e
  of_pair P (d2, e2, other, has) =
      let same = same_pair p.old p.new i d2 e2 d e other pair in
      subst (λ (y : Declaration). P d y) same.1 (subst (λ (x : Declaration). P x e2) same.0 has)

  abbrev Has : Break → Type 0
  Has c = HasBreak p.old p.new i c

  not_gone : Has Gone → ⊥
  not_gone gone = none-some pair.j (sym gone ∙ pair.counterpart)

  -- a break is one of a field
  data OfField : Break → Type 0 where
    gone : (k : ℕ) → First (HasCause p d.fields e.fields cause.Gone) (Some k) → OfField (FieldGone k)
    order : (k : ℕ) → First (HasCause p d.fields e.fields cause.Order) (Some k) → OfField (FieldOrder k)
    changed : (k : ℕ) → First (HasCause p d.fields e.fields cause.Changed) (Some k) → OfField (FieldChanged k)
    added : (k : ℕ) → First (HasCause p d.fields e.fields cause.Added) (Some k) → OfField (FieldAdded k)

  -- nothing before the number, the variables, the type, the fields
  module _ (other : Break) (has : Has other) where
    after_gone : 1 ≤ rank other
    after_gone = by other has
      where
        by : (c : Break) → Has c → 1 ≤ rank c
        by Gone h = absurd (not_gone h)
        by NewNumber h = omega arith
        by NewVars h = omega arith
        by TypeSplit h = omega arith
        by (FieldGone k) h = omega arith
        by (FieldOrder k) h = omega arith
        by (FieldChanged k) h = omega arith
        by (FieldAdded k) h = omega arith

    module _ (number : e.number ≡ d.number) where
      after_number : 2 ≤ rank other
      after_number = by other has
        where
          by : (c : Break) → Has c → 2 ≤ rank c
          by Gone h = absurd (not_gone h)
          by NewNumber h = absurd (of_pair (λ x y. y.number ≢ x.number) h number)
          by NewVars h = omega arith
          by TypeSplit h = omega arith
          by (FieldGone k) h = omega arith
          by (FieldOrder k) h = omega arith
          by (FieldChanged k) h = omega arith
          by (FieldAdded k) h = omega arith

      module _ (vars : e.vars ≡ d.vars) where
        after_vars : 3 ≤ rank other
        after_vars = by other has
          where
            by : (c : Break) → Has c → 3 ≤ rank c
            by Gone h = absurd (not_gone h)
            by NewNumber h = absurd (of_pair (λ x y. y.number ≢ x.number) h number)
            by NewVars h = absurd (of_pair (λ x y. y.vars ≢ x.vars) h vars)
            by TypeSplit h = omega arith
            by (FieldGone k) h = omega arith
            by (FieldOrder k) h = omega arith
            by (FieldChanged k) h = omega arith
            by (FieldAdded k) h = omega arith

        module _ (whole : IsSplit p.old p.new d e → ⊥) where
          of_field : OfField other
          of_field = by other has
            where
              by : (c : Break) → Has c → OfField c
              by Gone h = absurd (not_gone h)
              by NewNumber h = absurd (of_pair (λ x y. y.number ≢ x.number) h number)
              by NewVars h = absurd (of_pair (λ x y. y.vars ≢ x.vars) h vars)
              by TypeSplit h = absurd (whole (of_pair (IsSplit p.old p.new) h))
              by (FieldGone k) h = gone k (of_pair (λ x y. First (HasCause p x.fields y.fields cause.Gone) (Some k)) h)
              by (FieldOrder k) h = order k (of_pair (λ x y. First (HasCause p x.fields y.fields cause.Order) (Some k)) h)
              by (FieldChanged k) h = changed k (of_pair (λ x y. First (HasCause p x.fields y.fields cause.Changed) (Some k)) h)
              by (FieldAdded k) h = added k (of_pair (λ x y. First (HasCause p x.fields y.fields cause.Added) (Some k)) h)

  -- ---- the first before those of fields

  pub head_is : (c : Break) → IsHeadBreak p d e (Some c) → IsFirstBreak p i (Some c)
  head_is NewNumber h = ((d, e, pair, h), λ other has. after_gone other has)
  head_is NewVars h = ((d, e, pair, h.1), λ other has. after_number other has h.0)
  head_is TypeSplit h = ((d, e, pair, h.2), λ other has. after_vars other has h.0 h.1)
  head_is Gone h = absurd h
  head_is (FieldGone k) h = absurd h
  head_is (FieldOrder k) h = absurd h
  head_is (FieldChanged k) h = absurd h
  head_is (FieldAdded k) h = absurd h

  -- ---- the first of a field

  module _ (head : IsHeadBreak p d e None) where
    abbrev fs : List Slot
    fs = d.fields

    abbrev gs : List Slot
    gs = e.fields

    field_of : (other : Break) → Has other → OfField other
    field_of other has = of_field other has head.0 head.1 head.2

    rank_gone : (other : Break) → OfField other → 4 ≤ rank other
    rank_gone _ (gone k f) = omega arith
    rank_gone _ (order k f) = omega arith
    rank_gone _ (changed k f) = omega arith
    rank_gone _ (added k f) = omega arith

    rank_order : NoneHas p fs gs cause.Gone → (other : Break) → OfField other → 5 ≤ rank other
    rank_order none _ (gone k f) = absurd (none k f.0)
    rank_order none _ (order k f) = omega arith
    rank_order none _ (changed k f) = omega arith
    rank_order none _ (added k f) = omega arith

    rank_changed : NoneHas p fs gs cause.Gone → NoneHas p fs gs cause.Order → (other : Break) → OfField other → 6 ≤ rank other
    rank_changed none ordered _ (gone k f) = absurd (none k f.0)
    rank_changed none ordered _ (order k f) = absurd (ordered k f.0)
    rank_changed none ordered _ (changed k f) = omega arith
    rank_changed none ordered _ (added k f) = omega arith

    rank_added : NoneHas p fs gs cause.Gone → NoneHas p fs gs cause.Order → NoneHas p fs gs cause.Changed → (other : Break) → OfField other → 7 ≤ rank other
    rank_added none ordered same _ (gone k f) = absurd (none k f.0)
    rank_added none ordered same _ (order k f) = absurd (ordered k f.0)
    rank_added none ordered same _ (changed k f) = absurd (same k f.0)
    rank_added none ordered same _ (added k f) = omega arith

    no_field : IsFieldBreak p fs gs None → (other : Break) → OfField other → ⊥
    no_field n _ (gone k f) = n.0 k f.0
    no_field n _ (order k f) = n.1 k f.0
    no_field n _ (changed k f) = n.2 k f.0
    no_field n _ (added k f) = n.3 k f.0

    pub field_is : (o : Option Break) → IsFieldBreak p fs gs o → IsFirstBreak p i o
    field_is None n = λ other has. no_field n other (field_of other has)
    field_is (Some (FieldGone k)) n = ((d, e, pair, n), λ other has. rank_gone other (field_of other has))
    field_is (Some (FieldOrder k)) n = ((d, e, pair, n.1), λ other has. rank_order n.0 other (field_of other has))
    field_is (Some (FieldChanged k)) n = ((d, e, pair, n.2), λ other has. rank_changed n.0 n.1 other (field_of other has))
    field_is (Some (FieldAdded k)) n = ((d, e, pair, n.3), λ other has. rank_added n.0 n.1 n.2 other (field_of other has))
    field_is (Some Gone) n = absurd n
    field_is (Some NewNumber) n = absurd n
    field_is (Some NewVars) n = absurd n
    field_is (Some TypeSplit) n = absurd n

-- the same, where the fields are those that stand at the indices
pub whole_break : (p : PairView) (i : ℕ) (d e : Declaration) (pair : ArePair p.old p.new i d e) (fs gs : List Slot) → fs ≡ fields_in (slice_get p.old.decls i) → gs ≡ fields_in (slice_get p.new.decls pair.j)
    → IsHeadBreak p d e None → (o : Option Break) → IsFieldBreak p fs gs o → IsFirstBreak p i o
whole_break p i d e pair olds news same_olds same_news head o is =
    field_is p i d e pair head o (subst (λ (xs : List Slot). IsFieldBreak p xs e.fields o) (same_olds ∙ ap fields_in pair.here) (subst (λ (ys : List Slot). IsFieldBreak p olds ys o) (same_news ∙ ap fields_in pair.there) is))

-- a declaration without a counterpart has that break first
pub gone_is : (p : PairView) (i : ℕ) → counterpart p.old p.new i ≡ None → IsFirstBreak p i (Some Gone)
gone_is p i none = (none, λ other has. omega arith)

-- ---- split types

module _ (p : PairView) (d e : Declaration) where
  pub function_whole : d.function ≡ true → IsSplit p.old p.new d e → ⊥
  function_whole is s = true≢false (sym is ∙ s.0)

  pub none_whole : first_constructor p.old d.head ≡ None → IsSplit p.old p.new d e → ⊥
  none_whole none s = none-some s.1 (sym none ∙ s.2)

  module _ (c : ℕ) (first : first_constructor p.old d.head ≡ Some c) where
    one_first : (s : IsSplit p.old p.new d e) → s.1 ≡ c
    one_first s = same_Some s.1 c (sym s.2 ∙ first)

    pub gone_whole : counterpart p.old p.new c ≡ None → IsSplit p.old p.new d e → ⊥
    gone_whole none s =
        let pair = s.3.2 in
        none-some pair.j (sym none ∙ ap (counterpart p.old p.new) (sym (one_first s)) ∙ pair.counterpart)

    module _ (b : Declaration) (here : slice_get p.old.decls c ≡ Some b) (j : ℕ) (a : Declaration) (is : counterpart p.old p.new c ≡ Some j) (there : slice_get p.new.decls j ≡ Some a) (own : d.function ≡ false) where
      pub split_to : e.head ≢ a.head → IsSplit p.old p.new d e
      split_to other = (own, c, first, (b, a, record { here = here; j = j; counterpart = is; there = there }, other))

      pub split_from : IsSplit p.old p.new d e → e.head ≢ a.head
      split_from s =
          let pair : ArePair p.old p.new c s.3.0 s.3.1 = subst (λ (x : ℕ). ArePair p.old p.new x s.3.0 s.3.1) (one_first s) s.3.2 in
          let same = same_pair p.old p.new c s.3.0 s.3.1 b a pair (record { here = here; j = j; counterpart = is; there = there }) in
          subst (λ (x : Declaration). e.head ≢ x.head) same.1 s.3.3
