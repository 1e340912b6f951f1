-- Which declaration has a number, as declarations come.
use Rattle.std.proofs.Common.{◌≡◌, ◌⊎◌, inl, inr, ℕ, ◌+◌, ◌<◌, Bool, true, false, cond, List, [], ◌∷◌, length, slice_get, Option, Some, None, refl, ap, sym, subst, ◌∙◌, true≢false, arith, nat_eq, nat_lt, if◌then◌else◌}
use Rattle.indexmap.specs.IndexMap.{insert_entry}
use borrow.Author.Tests.{ltb-true}
use Rattle.std.proofs.lemmas.Bool.{ltb-false}
use Rattle.std.proofs.lemmas.Option.{none-some, same_Some, slice_get_within}
use Rattle.tl_program.specs.Program.{DeclText}
use Rattle.tl_names.specs.Writing.{At}
use Rattle.tl_schema.specs.CheckedPrograms.{FindsNumber}
use Rattle.tl_schema.specs.Numbers.{IsNumberOf, IsNumbered}
use Rattle.tl_schema.specs.inner.SchemaParts.{AreNumbers, number_in}
use Rattle.tl_schema.proofs.KnownNumbers.{one_number}
use Rattle.tl_schema.proofs.NumberTests.{same_number, number_same, number_other}

-- ---- one number more in a map

module _ (key v n : ℕ) where
  abbrev inserted : List (ℕ × ℕ) → List (ℕ × ℕ)
  inserted es = insert_entry nat_eq es key v

  abbrev placed : ℕ × ℕ → List (ℕ × ℕ) → Bool → List (ℕ × ℕ)
  placed e es b = if b then (e.0, v) ∷ es else e ∷ insert_entry nat_eq es key v

  -- a number at the head of a map
  here : (k w : ℕ) (es : List (ℕ × ℕ)) → n ≡ k → number_in ((k, w) ∷ es) n ≡ Some w
  here k w es same = ap (λ b. cond b (Some w) (number_in es n)) (number_same n k same)

  later : (k w : ℕ) (es : List (ℕ × ℕ)) → (n ≡ k → ⊥) → number_in ((k, w) ∷ es) n ≡ number_in es n
  later k w es other = ap (λ b. cond b (Some w) (number_in es n)) (number_other n k other)

  -- the number that was put in
  pub found_there : n ≡ key → (es : List (ℕ × ℕ)) → number_in (inserted es) n ≡ Some v
  found_there same [] = here key v [] same
  found_there same (e ∷ es) = by (nat_eq key e.0) refl (found_there same es)
    where
      by : (b : Bool) → nat_eq key e.0 ≡ b → number_in (inserted es) n ≡ Some v → number_in (placed e es (nat_eq key e.0)) n ≡ Some v
      by true h rest =
          ap (λ b. number_in (placed e es b) n) h ∙ here e.0 v es (same ∙ same_number key e.0 h)
      by false h rest =
          ap (λ b. number_in (placed e es b) n) h ∙ later e.0 e.1 (inserted es) (λ is. true≢false (sym (number_same key e.0 (sym same ∙ is)) ∙ h)) ∙ rest

  -- each other number
  pub found_elsewhere : (n ≡ key → ⊥) → (es : List (ℕ × ℕ)) → number_in (inserted es) n ≡ number_in es n
  found_elsewhere other [] = later key v [] other
  found_elsewhere other (e ∷ es) = by (nat_eq key e.0) refl (found_elsewhere other es)
    where
      by : (b : Bool) → nat_eq key e.0 ≡ b → number_in (inserted es) n ≡ number_in es n → number_in (placed e es (nat_eq key e.0)) n ≡ number_in (e ∷ es) n
      by true h rest =
          let apart : n ≡ e.0 → ⊥ = λ is. other (is ∙ sym (same_number key e.0 h)) in
          ap (λ b. number_in (placed e es b) n) h ∙ later e.0 v es apart ∙ sym (later e.0 e.1 es apart)
      by false h rest =
          ap (λ b. number_in (placed e es b) n) h ∙ ap (cond (nat_eq n e.0) (Some e.1)) rest

-- ---- the first declarations

pub record AreNumbersSoFar (ds : List DeclText) (at : ℕ) (numbers : List (ℕ × ℕ)) : Type 0 where
  pub found : (n i : ℕ) → number_in numbers n ≡ Some i → IsNumbered ds i n
  pub all : (n i : ℕ) → i < at → IsNumbered ds i n → number_in numbers n ≡ None → ⊥

pub no_numbers : (ds : List DeclText) (numbers : List (ℕ × ℕ)) → numbers ≡ [] → AreNumbersSoFar ds 0 numbers
no_numbers ds numbers none = record {
  found = λ n i at. absurd (none-some i (ap (λ ns. number_in ns n) (sym none) ∙ at));
  all = λ n i below _ _. absurd (omega (arith, below));
}

below_more : (i at : ℕ) → i < at + 1 → (i < at) ⊎ (i ≡ at)
below_more i at below = by (nat_lt i at) refl
  where
    by : (b : Bool) → nat_lt i at ≡ b → (i < at) ⊎ (i ≡ at)
    by true h = inl (ltb-true i at h)
    by false h = inr (omega (arith, below, ltb-false i at h))

module _ (ds : List DeclText) (at : ℕ) (d : DeclText) (there : At ds at d) (numbers : List (ℕ × ℕ)) (before : AreNumbersSoFar ds at numbers) where
  -- the line of a built-in type
  pub line_more : d.builtin ≡ true → AreNumbersSoFar ds (at + 1) numbers
  line_more line = record {
    found = before.found;
    all = λ n i below has none.
        elim (below_more i at below) [
          | inl earlier ↦ before.all n i earlier has none
          | inr last ↦
              let same = same_Some d has.d (sym there ∙ ap (slice_get ds) (sym last) ∙ has.here) in
              true≢false (sym line ∙ ap (λ (c : DeclText). c.builtin) same ∙ has.own)
        ];
  }

  -- a declaration with a number
  pub number_more : (key : ℕ) → d.builtin ≡ false → IsNumberOf d key → AreNumbersSoFar ds (at + 1) (insert_entry nat_eq numbers key at)
  number_more key own is = record { found = found_more; all = all_more }
    where
      here_is : IsNumbered ds at key
      here_is = record { d = d; here = there; own = own; number = is }

      found_more : (n i : ℕ) → number_in (insert_entry nat_eq numbers key at) n ≡ Some i → IsNumbered ds i n
      found_more n i found = by (nat_eq n key) refl
        where
          by : (b : Bool) → nat_eq n key ≡ b → IsNumbered ds i n
          by true h =
              let same = same_number n key h in
              subst (IsNumbered ds i) (sym same) (subst (λ j. IsNumbered ds j key) (same_Some at i (sym (found_there key at n same numbers) ∙ found)) here_is)
          by false h =
              before.found n i (sym (found_elsewhere key at n (λ same. true≢false (sym (number_same n key same) ∙ h)) numbers) ∙ found)

      all_more : (n i : ℕ) → i < at + 1 → IsNumbered ds i n → number_in (insert_entry nat_eq numbers key at) n ≡ None → ⊥
      all_more n i below has none = by (nat_eq n key) refl
        where
          by : (b : Bool) → nat_eq n key ≡ b → ⊥
          by true h = none-some at (sym none ∙ found_there key at n (same_number n key h) numbers)
          by false h =
              let other : n ≡ key → ⊥ = λ same. true≢false (sym (number_same n key same) ∙ h) in
              elim (below_more i at below) [
                | inl earlier ↦ before.all n i earlier has (sym (found_elsewhere key at n other numbers) ∙ none)
                | inr last ↦
                    let same = same_Some has.d d (sym has.here ∙ ap (slice_get ds) last ∙ there) in
                    other (one_number d n key (subst (λ (c : DeclText). IsNumberOf c n) same has.number) is)
              ]

-- all declarations
pub are_numbers : (ds : List DeclText) (numbers : List (ℕ × ℕ)) → AreNumbersSoFar ds (length ds) numbers → AreNumbers ds numbers
are_numbers ds numbers so_far n = by (number_in numbers n) refl
  where
    by : (o : Option ℕ) → number_in numbers n ≡ o → FindsNumber ds n o
    by (Some i) at = so_far.found n i at
    by None at = λ i has. so_far.all n i (slice_get_within ds i has.d has.here) has at
