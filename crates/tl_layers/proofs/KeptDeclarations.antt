-- Declarations that are marked, one after the other: where they have moved, and their first break.
use Rattle.std.proofs.Common.{◌≡◌, ◌⊎◌, inl, inr, ℕ, ◌+◌, ◌<◌, ◌≤◌, List, [], ◌∷◌, ◌++◌, length, slice_get, Option, Some, None, Bool, true, false, nat_le, if◌then◌else◌, refl, ap, sym, ◌∙◌, subst, true≢false, arith, count_by, take}
use Rattle.std.proofs.lemmas.Bool.{cases_eq}
use Rattle.std.proofs.lemmas.Bool.Decides.{nat_tests}
use Rattle.std.proofs.lemmas.List.{length_push, take_all}
use Rattle.std.proofs.lemmas.List.Sums.{count_by_more_yes, count_by_more_no}
use Rattle.std.proofs.lemmas.Option.{none-some, same_Some, slice_get_within, get_or_from_slice_get}
use Rattle.tl_graph.specs.Needs.{IsMarked}
use Rattle.tl_names.proofs.Indexes.{get_cases}
use Rattle.tl_layers.specs.Breaks.{HasBreak, rank}
use Rattle.tl_layers.specs.inner.Pairs.{PairView}
use Rattle.tl_layers.specs.inner.FieldBreaks.{IsFirstBreak}
use Rattle.tl_layers.specs.inner.Tables.{earlier, IsFirstOf, IsKeptOf, AreKept, NotesOne, skipped, kept, broken, TellsMoved}
use Rattle.std.specs.Prelude.{Err}
use Rattle.tl_layers.specs.declared.fault.LayerFault.{LayerFault}
use Rattle.tl_layers.specs.declared.fault.LayerFault.TheVariants.{Broken}
use Rattle.tl_layers.specs.declared.fault.Break.{Break}
use Rattle.tl_layers.specs.declared.moved.Moved.{Moved}

-- the first n declarations: their first break, and where none has one, where they have moved
pub record SoFar (p : PairView) (marks : List Bool) (n : ℕ) (moved : List (Option Moved)) (first : Option (ℕ × Break)) : Type 0 where
  pub long : length moved ≡ n
  pub breaks : IsFirstOf p marks n first
  pub each : first ≡ None → AreKept p marks n moved

pub none_yet : (p : PairView) (marks : List Bool) → SoFar p marks 0 [] None
none_yet p marks = record {
  long = refl;
  breaks = λ j other low m h. omega (arith, low);
  each = λ _. record { long = refl; each = λ i o at. absurd (none-some o at) };
}

module _ (p : PairView) (marks : List Bool) (n : ℕ) (mark : Bool) (at : slice_get marks n ≡ Some mark) where
  marked_here : IsMarked marks n → mark ≡ true
  marked_here m = same_Some mark true (sym at ∙ m)

  here_marked : mark ≡ true → IsMarked marks n
  here_marked is = at ∙ ap Some is

  below_or : (j : ℕ) → j < n + 1 → (j < n) ⊎ (j ≡ n)
  below_or j low = elim (cases_eq j n) [ inl e ↦ inr e | inr other ↦ inl (omega (arith, low, other)) ]

  -- ---- nothing new breaks

  module _ (whole : IsMarked marks n → (other : Break) → HasBreak p.old p.new n other → ⊥) where
    none_here : {X : Type 0} (j : ℕ) (other : Break) → j ≡ n → IsMarked marks j → HasBreak p.old p.new j other → X
    none_here j other e m h = absurd (whole (subst (IsMarked marks) e m) other (subst (λ (i : ℕ). HasBreak p.old p.new i other) e h))

    pub first_kept : (o : Option (ℕ × Break)) → IsFirstOf p marks n o → IsFirstOf p marks (n + 1) o
    first_kept None none = λ j other low m h. elim (below_or j low) [ inl less ↦ none j other less m h | inr e ↦ none_here j other e m h ]
    first_kept (Some b) f = (let low = f.0 in omega (arith, low), f.1, f.2, λ j other low m h. elim (below_or j low) [ inl less ↦ f.3 j other less m h | inr e ↦ none_here j other e m h ])

  -- ---- a break more

  module _ (cause : Break) (m : IsMarked marks n) (is : IsFirstBreak p n (Some cause)) where
    abbrev After : ℕ × Break → Type 0
    After b = (j : ℕ) (other : Break) → j < n + 1 → IsMarked marks j → HasBreak p.old p.new j other → (rank b.1 < rank other) ⊎ ((rank b.1 ≡ rank other) × (b.0 ≤ j))

    up : (r s : ℕ) → r ≤ s → (r < s) ⊎ (r ≡ s)
    up r s le = elim (cases_eq r s) [ inl e ↦ inr e | inr other ↦ inl (omega (arith, le, other)) ]

    at_n : (other : Break) (j : ℕ) → j ≡ n → HasBreak p.old p.new j other → rank cause ≤ rank other
    at_n other j e h = is.1 other (subst (λ (i : ℕ). HasBreak p.old p.new i other) e h)

    first_new : IsFirstOf p marks n None → IsFirstOf p marks (n + 1) (Some (n, cause))
    first_new none = (
      omega arith,
      m,
      is.0,
      λ j other low mj h. elim (below_or j low) [
        | inl less ↦ absurd (none j other less mj h)
        | inr e ↦ elim (up (rank cause) (rank other) (at_n other j e h)) [ inl more ↦ inl more | inr same ↦ inr (same, omega (arith, e)) ]
      ],
    )

    module _ (b : ℕ × Break) (f : IsFirstOf p marks n (Some b)) where
      stays : rank b.1 ≤ rank cause → IsFirstOf p marks (n + 1) (Some b)
      stays le = (
        let low = f.0 in omega (arith, low),
        f.1,
        f.2,
        λ j other low mj h. elim (below_or j low) [
          | inl less ↦ f.3 j other less mj h
          | inr e ↦
              (let over = at_n other j e h in
              let b_low = f.0 in
              elim (up (rank b.1) (rank other) (omega (arith, le, over))) [ inl more ↦ inl more | inr same ↦ inr (same, omega (arith, e, b_low)) ])
        ],
      )

      changes : rank cause < rank b.1 → IsFirstOf p marks (n + 1) (Some (n, cause))
      changes less = (
        omega arith,
        m,
        is.0,
        λ j other low mj h. elim (below_or j low) [
          | inl before ↦ inl (elim (f.3 j other before mj h) [ inl more ↦ omega (arith, less, more) | inr same ↦ (let r = same.0 in omega (arith, less, r)) ])
          | inr e ↦ elim (up (rank cause) (rank other) (at_n other j e h)) [ inl more ↦ inl more | inr same ↦ inr (same, omega (arith, e)) ]
        ],
      )

      by_rank : (t : Bool) → nat_le (rank b.1) (rank cause) ≡ t → IsFirstOf p marks (n + 1) (Some (if t then b else (n, cause)))
      by_rank true e = stays (grind (arith, nat_tests))
      by_rank false e = changes (grind (arith, nat_tests))

    pub first_broken : (o : Option (ℕ × Break)) → IsFirstOf p marks n o → IsFirstOf p marks (n + 1) (Some (earlier o n cause))
    first_broken None none = first_new none
    first_broken (Some b) f = by_rank b f (nat_le (rank b.1) (rank cause)) refl

module _ (p : PairView) (marks : List Bool) (n : ℕ) (moved : List (Option Moved)) (first : Option (ℕ × Break)) (so : SoFar p marks n moved first) (mark : Bool) (at : slice_get marks n ≡ Some mark) where
  kept_more : (o : Option Moved) → IsKeptOf p marks n o → AreKept p marks n moved → AreKept p marks (n + 1) (moved ++ o ∷ [])
  kept_more o is k = record {
    long = length_push moved o ∙ (let l = k.long in omega (arith, l));
    each = λ i x there. elim (get_cases moved o i x there) [
      | inl before ↦ k.each i x before
      | inr last ↦ (let e : i ≡ n = (let l = k.long in omega (arith, last.0, l)) in subst (λ (j : ℕ). IsKeptOf p marks j x) (sym e) (subst (IsKeptOf p marks n) last.1 is))
    ];
  }

  long_more : (o : Option Moved) → length (moved ++ o ∷ []) ≡ n + 1
  long_more o = length_push moved o ∙ (let l = so.long in omega (arith, l))

  -- ---- one declaration more

  pub one_more : (more : List (Option Moved)) (after : Option (ℕ × Break)) → NotesOne p mark n moved first more after → SoFar p marks (n + 1) more after
  one_more more after (skipped off is same) =
      subst (λ (ms : List (Option Moved)). SoFar p marks (n + 1) ms after) (sym is) (subst (SoFar p marks (n + 1) (moved ++ None ∷ [])) (sym same) (record {
        long = long_more None;
        breaks = first_kept p marks n mark at (λ m other h. true≢false (sym (marked_here p marks n mark at m) ∙ off)) first so.breaks;
        each = λ none. kept_more None (λ m. true≢false (sym (marked_here p marks n mark at m) ∙ off)) (so.each none);
      }))
  one_more more after (kept m on to whole is same) =
      subst (λ (ms : List (Option Moved)). SoFar p marks (n + 1) ms after) (sym is) (subst (SoFar p marks (n + 1) (moved ++ Some m ∷ [])) (sym same) (record {
        long = long_more (Some m);
        breaks = first_kept p marks n mark at (λ _ other h. whole other h) first so.breaks;
        each = λ none. kept_more (Some m) (here_marked p marks n mark at on, to) (so.each none);
      }))
  one_more more after (broken cause on has is same) =
      subst (λ (ms : List (Option Moved)). SoFar p marks (n + 1) ms after) (sym is) (subst (SoFar p marks (n + 1) (moved ++ None ∷ [])) (sym same) (record {
        long = long_more None;
        breaks = first_broken p marks n mark at cause (here_marked p marks n mark at on) has first so.breaks;
        each = λ none. absurd (none-some (earlier first n cause) (sym none));
      }))

-- ---- all of them

module _ (p : PairView) (marks : List Bool) (n : ℕ) (moved : List (Option Moved)) (first : Option (ℕ × Break)) (so : SoFar p marks n moved first) (low : n ≤ length p.old.decls) (high : length p.old.decls ≤ n) where
  whole_is : n ≡ length p.old.decls
  whole_is = omega (arith, low, high)

  pub all_broken : (b : ℕ × Break) → first ≡ Some b → IsFirstOf p marks (length p.old.decls) (Some b)
  all_broken b is = subst (λ (m : ℕ). IsFirstOf p marks m (Some b)) whole_is (subst (IsFirstOf p marks n) is so.breaks)

  pub all_kept : first ≡ None → AreKept p marks (length p.old.decls) moved × IsFirstOf p marks (length p.old.decls) None
  all_kept is = (subst (λ (m : ℕ). AreKept p marks m moved) whole_is (so.each is), subst (λ (m : ℕ). IsFirstOf p marks m None) whole_is (subst (IsFirstOf p marks n) is so.breaks))

-- ---- how many are marked

module _ (marks : List Bool) (i : ℕ) where
  pub count_step : (m : Bool) → slice_get marks i ≡ Some m → (n r : ℕ) → n ≡ count_by (λ b. b) (take i marks) → n ≤ i → r ≡ (if m then 1 else 0) → (n + r ≡ count_by (λ b. b) (take (i + 1) marks)) × (n + r ≤ i + 1)
  count_step true at n r is few one =
      let more = count_by_more_yes (λ (b : Bool). b) marks i true (slice_get_within marks i true at) (get_or_from_slice_get marks i true true at) in (omega (arith, is, more, one), omega (arith, few, one))
  count_step false at n r is few one =
      let more = count_by_more_no (λ (b : Bool). b) marks i false (slice_get_within marks i false at) (get_or_from_slice_get marks i false false at) in (omega (arith, is, more, one), omega (arith, few, one))

  pub count_all : (n : ℕ) → length marks ≤ i → n ≡ count_by (λ b. b) (take i marks) → n ≡ count_by (λ b. b) marks
  count_all n past is = is ∙ ap (count_by (λ (b : Bool). b)) (take_all i marks past)

-- what is told of a declaration that breaks
pub broken_first : (p : PairView) (i k : ℕ) (cause : Break) (fault : LayerFault) → fault ≡ Broken k cause → TellsMoved p i (Err fault) → IsFirstBreak p i (Some cause)
broken_first p i k cause fault is tells = (subst (λ (f : LayerFault). TellsMoved p i (Err f)) is tells).1
