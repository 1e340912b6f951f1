-- Each type reaches a first break, or nothing that breaks: which declarations are reached is decided, and so is each break.
use Rattle.std.proofs.Common.{◌≡◌, ◌≢◌, ◌⊎◌, inl, inr, ◌↔◌, ℕ, zero, suc, ◌+◌, ◌<◌, ◌≤◌, List, [], ◌∷◌, ◌++◌, length, slice_get, get_or, Bool, true, false, Option, Some, None, nat_lt, if◌then◌else◌, refl, ap, sym, ◌∙◌, subst, true≢false, arith, ltb-true, ◌==◌, count_by}
use Rattle.std.proofs.lemmas.Bool.{cases_eq, cases_order}
use Rattle.std.proofs.lemmas.List.{length_push, get_or_past}
use Rattle.std.proofs.lemmas.Option.{none-some, same_Some, slice_get_within}
use Rattle.tl_lexer.proofs.Whole.{Decided}
use Rattle.tl_combinators.proofs.Decided.{decided_as}
use Rattle.tl_graph.specs.Firsts.{First}
use Rattle.tl_graph.specs.Needs.{IsMarked}
use Rattle.tl_graph.specs.Paths.{Edge, IsIn}
use Rattle.tl_graph.proofs.PathsDecided.{path_decided}
use Rattle.tl_names.proofs.Indexes.{get_kept, get_last, get_cases}
use Rattle.tl_schema.specs.CheckedPrograms.{IsSchema}
use Rattle.tl_schema.specs.Formed.{IsFormed}
use Rattle.tl_schema.specs.Types.{Shape}
use Rattle.tl_schema.specs.Schemas.{Slot, Declaration, Declared}
use Rattle.tl_schema.proofs.Firsts as firsts
use Rattle.tl_schema.proofs.IndexesDecided.{option_decided, some_decided}
use Rattle.tl_plan.specs.Entries.{constructors_of, functions_of, indices_from}
use Rattle.tl_plan.specs.inner.Walks.{AreHeads}
use Rattle.tl_layers.specs.Reached.{Reached}
use Rattle.tl_layers.specs.Counterparts.{counterpart, first_constructor, namesake}
use Rattle.tl_layers.specs.Breaks.{ArePair, IsSplit, LacksField, IsBefore, IsChanged, IsAdded, IsUnbroken, Breaks}
use Rattle.tl_layers.specs.Compared.{IsCount}
use Rattle.tl_layers.specs.LayerLaws.{EachIsUnbrokenOrBreaks}
use Rattle.tl_layers.specs.inner.Pairs.{PairView}
use Rattle.tl_layers.specs.inner.Graphs.{type_total, all_lists}
use Rattle.tl_layers.specs.inner.Edges.{AreEdges}
use Rattle.tl_layers.specs.inner.FieldBreaks.{HasCause, NoneHas, IsFieldBreak, IsHeadBreak, IsFirstBreak}
use Rattle.tl_layers.specs.inner.Tables.{IsFirstOf, earlier}
use Rattle.tl_layers.specs.declared.fault.Break.{Break}
use Rattle.tl_layers.specs.declared.fault.Break.TheVariants.{Gone, NewNumber, NewVars, TypeSplit, FieldGone, FieldOrder, FieldChanged, FieldAdded}
use Rattle.tl_layers.specs.declared.field_breaks.FieldCause.{FieldCause}
use Rattle.tl_layers.specs.declared.field_breaks.FieldCause.TheVariants as cause
use Rattle.tl_layers.proofs.LiftedValues.{get_some}
use Rattle.tl_layers.proofs.DecidedBreaks.{lacks_decided, before_decided, changed_decided, added_decided}
use Rattle.tl_layers.proofs.MovedDeclarations.{counterpart_tells}
use Rattle.tl_layers.proofs.FirstBreaks.{gone_is, head_is, field_is, function_whole, none_whole, gone_whole, split_to, split_from}
use Rattle.tl_layers.proofs.KeptDeclarations.{first_kept, first_broken}
use Rattle.tl_layers.proofs.EdgeLists.{are_edges}
use Rattle.tl_layers.proofs.ReachedPaths.{is_graph, path_reached, reached_within}
use Rattle.tl_layers.proofs.OneBreak.{never_both, one_break}
use Rattle.tl_layers.proofs.OneCount.{one_count}
use Rattle.tl_layers.proofs.Verdicts.{unbroken, breaks}

-- ---- what is reached is decided

in_decided : (j : ℕ) (js : List ℕ) → Decided (IsIn j js)
in_decided j js = decided_as (λ h. (h.0, h.2 ∙ ap Some h.3)) (λ h. (h.0, j, h.1, refl)) (some_decided js (λ i x. x ≡ j) (λ i x. cases_eq x j))

edge_decided : (edges : List (List ℕ)) (k j : ℕ) → Decided (Edge edges k j)
edge_decided edges k j = option_decided (slice_get edges k) (IsIn j) (in_decided j)

-- the constructors of so many types, from this one on
abbrev constructors_from : Declared → ℕ → ℕ → List (List ℕ)
constructors_from S h zero = []
constructors_from S h (suc m) = constructors_of S h ∷ constructors_from S (suc h) m

module _ (S : Declared) where
  count_from : (h m : ℕ) → length (constructors_from S h m) ≡ m
  count_from h zero = refl
  count_from h (suc m) = ap suc (count_from (suc h) m)

  at_from : (m h k : ℕ) → k < m → get_or (constructors_from S h m) k [] ≡ constructors_of S (h + k)
  at_from zero h k below = absurd (omega (arith, below))
  at_from (suc m) h zero below = let same : h ≡ h + 0 = omega arith in ap (constructors_of S) same
  at_from (suc m) h (suc k) below = let same : suc h + k ≡ h + suc k = omega arith in at_from m (suc h) k (omega (arith, below)) ∙ ap (constructors_of S) same

  beyond : (h : ℕ) → (b : Bool) → nat_lt h (type_total S) ≡ b → (h < type_total S → ⊥) → b ≡ false
  beyond h true e none = absurd (none (let less : h < type_total S = ltb-true h (type_total S) e in less))
  beyond h false e none = refl

  these_heads : AreHeads S (constructors_from S 0 (type_total S)) (functions_of S)
  these_heads = record { constructors = each; functions = refl }
    where
      each : (h : ℕ) → get_or (constructors_from S 0 (type_total S)) h [] ≡ constructors_of S h
      each h = elim (cases_order h (type_total S)) [
        | inl e ↦ past (omega (arith, e))
        | inr (inl less) ↦ at_from (type_total S) 0 h less ∙ (let same : 0 + h ≡ h = omega arith in ap (constructors_of S) same)
        | inr (inr more) ↦ past (omega (arith, more))
      ]
        where
          past : type_total S ≤ h → get_or (constructors_from S 0 (type_total S)) h [] ≡ constructors_of S h
          past high =
              let none = beyond h (nat_lt h (type_total S)) refl (λ less. omega (arith, high, less)) in
              let long = count_from 0 (type_total S) in
              get_or_past (constructors_from S 0 (type_total S)) h [] (omega (arith, high, long))
              ∙ sym (ap (λ (b : Bool). if b then indices_from 0 (λ d. d.head == h) S.decls else []) none)

module _ (S : Declared) (good : IsSchema S) (T : Shape) (formed : IsFormed S T) where
  abbrev edges : List (List ℕ)
  edges = all_lists S T (constructors_from S 0 (type_total S)) (functions_of S)

  are : AreEdges S T edges
  are = are_edges S T (constructors_from S 0 (type_total S)) (functions_of S) (these_heads S) (count_from S 0 (type_total S))

  reached_decided : (i : ℕ) → Decided (Reached S T i)
  reached_decided i = elim (cases_order i (length S.decls)) [
    | inl e ↦ inr (λ r. let below = reached_within S good T i formed r in omega (arith, e, below))
    | inr (inl less) ↦
        (let both = path_reached S T edges are good formed i less in
        decided_as both.0 both.1 (path_decided (Edge edges) (length S.decls + type_total S + 1) (length edges) (edge_decided edges) (is_graph S T edges are) i))
    | inr (inr more) ↦ inr (λ r. let below = reached_within S good T i formed r in omega (arith, more, below))
  ]

-- marks of what is decided
marks_for : (P : ℕ → Type 0) → ((i : ℕ) → Decided (P i)) → (n : ℕ) → (marks : List Bool) × (length marks ≡ n) × ((i : ℕ) → i < n → IsMarked marks i ↔ P i)
marks_for P test zero = ([], refl, λ i below. absurd (omega (arith, below)))
marks_for P test (suc n) = by (marks_for P test n) (test n)
  where
    more : (marks : List Bool) → length marks ≡ n → ((i : ℕ) → i < n → IsMarked marks i ↔ P i) → (b : Bool) → (b ≡ true ↔ P n) → (i : ℕ) → i < suc n → IsMarked (marks ++ b ∷ []) i ↔ P i
    more marks long all b is i below = elim (cases_eq i n) [
      | inl e ↦ (
        λ m. elim (get_cases marks b i true m) [
          | inl before ↦ absurd (let w = slice_get_within marks i true before in omega (arith, e, long, w))
          | inr last ↦ subst P (sym e) (is.0 last.1)
        ],
        λ q. subst (IsMarked (marks ++ b ∷ [])) (long ∙ sym e) (get_last marks b ∙ ap Some (is.1 (subst P e q))),
      )
      | inr other ↦
          (let less : i < n = omega (arith, below, other) in (
            λ m. elim (get_cases marks b i true m) [
              | inl before ↦ (all i less).0 before
              | inr last ↦ absurd (let e = last.0 in omega (arith, less, e, long))
            ],
            λ q. get_kept marks b i true ((all i less).1 q),
          ))
    ]

    by : ((marks : List Bool) × (length marks ≡ n) × ((i : ℕ) → i < n → IsMarked marks i ↔ P i)) → Decided (P n) → (marks : List Bool) × (length marks ≡ suc n) × ((i : ℕ) → i < suc n → IsMarked marks i ↔ P i)
    by (marks, long, all) (inl q) = (marks ++ true ∷ [], length_push marks true ∙ (let e : length marks + 1 ≡ suc n = omega (arith, long) in e), more marks long all true (λ _. q, λ _. refl))
    by (marks, long, all) (inr none) = (marks ++ false ∷ [], length_push marks false ∙ (let e : length marks + 1 ≡ suc n = omega (arith, long) in e), more marks long all false (λ e. absurd (true≢false (sym e)), λ q. absurd (none q)))

-- ---- a declaration has a first break, or none

module _ (p : PairView) where
  first_cause : (fs gs : List Slot) (c : FieldCause) → (o : Option ℕ) × First (HasCause p fs gs c) o
  first_cause fs gs cause.Gone = firsts.first_of (LacksField fs gs) (length fs) (lacks_decided fs gs) (λ k h. slice_get_within fs k h.0 h.1)
  first_cause fs gs cause.Order = firsts.first_of (IsBefore fs gs) (length fs) (before_decided fs gs) (λ k h. slice_get_within fs k h.2 h.7)
  first_cause fs gs cause.Changed = firsts.first_of (IsChanged p.old p.new fs gs) (length fs) (changed_decided p.old p.new fs gs) (λ k h. slice_get_within fs k h.0 h.3)
  first_cause fs gs cause.Added = firsts.first_of (IsAdded fs gs) (length gs) (added_decided fs gs) (λ k h. slice_get_within gs k h.0 h.1)

  field_first : (fs gs : List Slot) → (o : Option Break) × IsFieldBreak p fs gs o
  field_first fs gs = gone (first_cause fs gs cause.Gone)
    where
      added : NoneHas p fs gs cause.Gone → NoneHas p fs gs cause.Order → NoneHas p fs gs cause.Changed → ((o : Option ℕ) × First (HasCause p fs gs cause.Added) o) → (o : Option Break) × IsFieldBreak p fs gs o
      added a b c (Some k, f) = (Some (FieldAdded k), (a, b, c, f))
      added a b c (None, none) = (None, (a, b, c, none))

      changed : NoneHas p fs gs cause.Gone → NoneHas p fs gs cause.Order → ((o : Option ℕ) × First (HasCause p fs gs cause.Changed) o) → (o : Option Break) × IsFieldBreak p fs gs o
      changed a b (Some k, f) = (Some (FieldChanged k), (a, b, f))
      changed a b (None, none) = added a b none (first_cause fs gs cause.Added)

      order : NoneHas p fs gs cause.Gone → ((o : Option ℕ) × First (HasCause p fs gs cause.Order) o) → (o : Option Break) × IsFieldBreak p fs gs o
      order a (Some k, f) = (Some (FieldOrder k), (a, f))
      order a (None, none) = changed a none (first_cause fs gs cause.Changed)

      gone : ((o : Option ℕ) × First (HasCause p fs gs cause.Gone) o) → (o : Option Break) × IsFieldBreak p fs gs o
      gone (Some k, f) = (Some (FieldGone k), f)
      gone (None, none) = order none (first_cause fs gs cause.Order)

  split_decided : (d e : Declaration) → Decided (IsSplit p.old p.new d e)
  split_decided d e = kind d.function refl
    where
      pair : (own : d.function ≡ false) (c : ℕ) (first : first_constructor p.old d.head ≡ Some c) (j : ℕ) → counterpart p.old p.new c ≡ Some j → (o : Option Declaration) → slice_get p.old.decls c ≡ o → Decided (IsSplit p.old p.new d e)
      pair own c first j is None none = absurd (none-some j (sym (ap (namesake p.new) none) ∙ is))
      pair own c first j is (Some b) here =
          let m = counterpart_tells p.old p.new c j b here is in
          decided_as (split_to p d e c first b here j m.e is m.there own) (split_from p d e c first b here j m.e is m.there own)
          (elim (cases_eq e.head m.e.head) [ inl same ↦ inr (λ other. other same) | inr other ↦ inl other ])

      moved : (own : d.function ≡ false) (c : ℕ) (first : first_constructor p.old d.head ≡ Some c) (o : Option ℕ) → counterpart p.old p.new c ≡ o → Decided (IsSplit p.old p.new d e)
      moved own c first None none = inr (gone_whole p d e c first none)
      moved own c first (Some j) is = pair own c first j is (slice_get p.old.decls c) refl

      first : (own : d.function ≡ false) (o : Option ℕ) → first_constructor p.old d.head ≡ o → Decided (IsSplit p.old p.new d e)
      first own None none = inr (none_whole p d e none)
      first own (Some c) is = moved own c is (counterpart p.old p.new c) refl

      kind : (b : Bool) → d.function ≡ b → Decided (IsSplit p.old p.new d e)
      kind true is = inr (function_whole p d e is)
      kind false own = first own (first_constructor p.old d.head) refl

  head_first : (d e : Declaration) → (o : Option Break) × IsHeadBreak p d e o
  head_first d e = number (cases_eq e.number d.number)
    where
      split : e.number ≡ d.number → e.vars ≡ d.vars → Decided (IsSplit p.old p.new d e) → (o : Option Break) × IsHeadBreak p d e o
      split n v (inl is) = (Some TypeSplit, (n, v, is))
      split n v (inr whole) = (None, (n, v, whole))

      vars : e.number ≡ d.number → (e.vars ≡ d.vars) ⊎ (e.vars ≢ d.vars) → (o : Option Break) × IsHeadBreak p d e o
      vars n (inl same) = split n same (split_decided d e)
      vars n (inr other) = (Some NewVars, (n, other))

      number : (e.number ≡ d.number) ⊎ (e.number ≢ d.number) → (o : Option Break) × IsHeadBreak p d e o
      number (inl same) = vars same (cases_eq e.vars d.vars)
      number (inr other) = (Some NewNumber, other)

  first_break : (i : ℕ) → (o : Option Break) × IsFirstBreak p i o
  first_break i = by (counterpart p.old p.new i) refl
    where
      fields : (d e : Declaration) (pair : ArePair p.old p.new i d e) → IsHeadBreak p d e None → (o : Option Break) × IsFirstBreak p i o
      fields d e pair head = let f = field_first d.fields e.fields in (f.0, field_is p i d e pair head f.0 f.1)

      heads : (d e : Declaration) (pair : ArePair p.old p.new i d e) → ((o : Option Break) × IsHeadBreak p d e o) → (o : Option Break) × IsFirstBreak p i o
      heads d e pair (None, h) = fields d e pair h
      heads d e pair (Some c, h) = (Some c, head_is p i d e pair c h)

      pairs : (j : ℕ) → counterpart p.old p.new i ≡ Some j → (o : Option Declaration) → slice_get p.old.decls i ≡ o → (o : Option Break) × IsFirstBreak p i o
      pairs j is None none = absurd (none-some j (sym (ap (namesake p.new) none) ∙ is))
      pairs j is (Some d) here =
          let m = counterpart_tells p.old p.new i j d here is in
          heads d m.e (record { here = here; j = j; counterpart = is; there = m.there }) (head_first d m.e)

      by : (o : Option ℕ) → counterpart p.old p.new i ≡ o → (o : Option Break) × IsFirstBreak p i o
      by None none = (Some Gone, gone_is p i none)
      by (Some j) is = pairs j is (slice_get p.old.decls i) refl

  -- ---- so do the first n that are marked

  module _ (marks : List Bool) where
    first_among : (n : ℕ) → n ≤ length marks → (o : Option (ℕ × Break)) × IsFirstOf p marks n o
    first_among zero within = (None, λ j other low m h. omega (arith, low))
    first_among (suc n) within = by (first_among n (omega (arith, within))) (get_some marks n (omega (arith, within)))
      where
        up : (o : Option (ℕ × Break)) → IsFirstOf p marks (n + 1) o → IsFirstOf p marks (suc n) o
        up o f = let e : n + 1 ≡ suc n = omega arith in subst (λ (m : ℕ). IsFirstOf p marks m o) e f

        here : (o : Option (ℕ × Break)) → IsFirstOf p marks n o → (mark : Bool) → slice_get marks n ≡ Some mark → IsMarked marks n → ((c : Option Break) × IsFirstBreak p n c) → (o : Option (ℕ × Break)) × IsFirstOf p marks (suc n) o
        here o f mark at m (None, whole) = (o, up o (first_kept p marks n mark at (λ _. whole) o f))
        here o f mark at m (Some c, has) = (Some (earlier o n c), up (Some (earlier o n c)) (first_broken p marks n mark at c m has o f))

        by : ((o : Option (ℕ × Break)) × IsFirstOf p marks n o) → ((mark : Bool) × (slice_get marks n ≡ Some mark)) → (o : Option (ℕ × Break)) × IsFirstOf p marks (suc n) o
        by (o, f) (true, at) = here o f true at at (first_break n)
        by (o, f) (false, at) = (o, up o (first_kept p marks n false at (λ m. absurd (true≢false (same_Some true false (sym m ∙ at)))) o f))

-- ---- what is reached is marked and counted

module _ (S : Declared) (good : IsSchema S) (T : Shape) (formed : IsFormed S T) where
  -- marks of all declarations
  all_marks : (marks : List Bool) × (length marks ≡ length S.decls) × ((i : ℕ) → i < length S.decls → IsMarked marks i ↔ Reached S T i)
  all_marks = marks_for (Reached S T) (reached_decided S good T formed) (length S.decls)

  are_marks : (i : ℕ) → IsMarked all_marks.0 i ↔ Reached S T i
  are_marks i = (
    λ m. (all_marks.2 i (let w = slice_get_within all_marks.0 i true m in let l = all_marks.1 in omega (arith, w, l))).0 m,
    λ r. (all_marks.2 i (reached_within S good T i formed r)).1 r,
  )

  pub some_count : (n : ℕ) × IsCount (Reached S T) n
  some_count = (count_by (λ b. b) all_marks.0, (all_marks.0, are_marks, refl))

-- ---- the law

pub each_is_unbroken_or_breaks : EachIsUnbrokenOrBreaks
each_is_unbroken_or_breaks old new T good_old good_new formed = record {
  either = by (first_among p (all_marks old good_old T formed).0 (length old.decls) (let l = (all_marks old good_old T formed).1 in omega (arith, l)));
  never_both = never_both old new T;
  one_break = one_break old new T;
  some_count = some_count old good_old T formed;
  one_count = one_count (Reached old T);
}
  where
    p : PairView
    p = record { old = old; new = new }

    by : ((o : Option (ℕ × Break)) × IsFirstOf p (all_marks old good_old T formed).0 (length old.decls) o) → IsUnbroken old new T ⊎ ((i : ℕ) × (cause : Break) × Breaks old new T i cause)
    by (None, none) = inl (unbroken old new T good_old formed (all_marks old good_old T formed).0 (are_marks old good_old T formed) none)
    by (Some b, f) = inr (b.0, b.1, breaks old new T good_old formed (all_marks old good_old T formed).0 (are_marks old good_old T formed) b f)
