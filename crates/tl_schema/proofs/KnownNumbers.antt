-- Numbers of declarations: which are known, and whether one more is taken.
use Rattle.std.proofs.Common.{◌≡◌, ◌⊎◌, inl, inr, ℕ, nat_eq, ◌+◌, ◌<◌, Bool, true, false, cond, not, List, length, Option, Some, None, ap, sym, ◌∙◌, subst, true≢false, arith}
use Rattle.std.specs.Bool.{Decides}
use Rattle.std.proofs.lemmas.Bool.{cases_eq}
use Rattle.std.proofs.lemmas.Option.{same_Some, slice_get_within}
use Rattle.indexmap.specs.IndexSet.{IndexSet, contains}
use Rattle.tl_numbers.proofs.Division.{one_crc}
use Rattle.tl_program.specs.Program.{DeclText}
use Rattle.tl_names.specs.Writing.{At}
use Rattle.tl_schema.specs.inner.TakenNumbers.{IsTaken}
use Rattle.tl_schema.specs.Numbers.{IsWrittenOrCrc, IsNumberOf, IsNumbered}
use Rattle.tl_schema.specs.SameNumber.{SameNumber, earlier, packed, vector}
use Rattle.tl_schema.proofs.NumberTests.{number_same, number_other, was_there, was_new}

-- ---- a declaration has one number

one_written : (written : Option ℕ) (text : List ℕ) (m n : ℕ) → IsWrittenOrCrc written text m → IsWrittenOrCrc written text n → m ≡ n
one_written (Some w) text m n first second = first ∙ sym second
one_written None text m n first second = one_crc text m n first second

pub one_number : (d : DeclText) (m n : ℕ) → IsNumberOf d m → IsNumberOf d n → m ≡ n
one_number d m n first second = one_written d.number d.text m n first second

-- ---- numbers that are known

-- one of the first i declarations has this number
abbrev pub IsKnown : List DeclText → ℕ → ℕ → Type 0
IsKnown ds i n = (j : ℕ) × (j < i) × IsNumbered ds j n

-- the test tells which numbers the first i declarations have
abbrev pub Knows : List DeclText → ℕ → (ℕ → Bool) → Type 0
Knows ds i has = (n : ℕ) → Decides (has n) (IsKnown ds i n)

abbrev pub KnowsNumbers : {S : Type 0} → List DeclText → ℕ → IndexSet ℕ S → Type 0
KnowsNumbers ds i known = Knows ds i (contains nat_eq known)

pub knows_none : (ds : List DeclText) (has : ℕ → Bool) → ((n : ℕ) → has n ≡ false) → Knows ds 0 has
knows_none ds has empty n = (λ h. absurd (true≢false (sym h ∙ empty n)), λ k. absurd (omega (arith, k.1)))

module _ (ds : List DeclText) (i : ℕ) (d : DeclText) (at : At ds i d) where
  same_here : (c : DeclText) → At ds i c → c ≡ d
  same_here c there = same_Some c d (sym there ∙ at)

  -- what is known of one more is known of those before it, or is its own
  earlier_or_own : (q : ℕ) → IsKnown ds (i + 1) q → IsKnown ds i q ⊎ IsNumbered ds i q
  earlier_or_own q (j, below, has) =
      elim (cases_eq j i) [ inl e ↦ inr (subst (λ k. IsNumbered ds k q) e has) | inr other ↦ inl (j, omega (arith, below, other), has) ]

  one_later : (q : ℕ) → IsKnown ds i q → IsKnown ds (i + 1) q
  one_later q (j, below, has) = (j, omega (arith, below), has)

  -- ---- the line of a built-in type

  module _ (built : d.builtin ≡ true) where
    uncounted : (q : ℕ) → IsNumbered ds i q → ⊥
    uncounted q x = true≢false (sym built ∙ sym (ap (λ (c : DeclText). c.builtin) (same_here x.d x.here)) ∙ x.own)

    pub knows_uncounted : (has : ℕ → Bool) → Knows ds i has → Knows ds (i + 1) has
    knows_uncounted has knows q = (
      λ h. one_later q ((knows q).0 h),
      λ k. (knows q).1 (elim (earlier_or_own q k) [ inl before ↦ before | inr own ↦ absurd (uncounted q own) ]),
    )

    pub free_uncounted : ¬ SameNumber ds i
    free_uncounted (earlier j q below there here) = uncounted q here
    free_uncounted (packed here) = uncounted _ here
    free_uncounted (vector here) = uncounted _ here

  -- ---- any other declaration

  module _ (own : d.builtin ≡ false) (n : ℕ) (number : IsNumberOf d n) where
    has_number : IsNumbered ds i n
    has_number = record { d = d; here = at; own = own; number = number }

    only_number : (q : ℕ) → IsNumbered ds i q → n ≡ q
    only_number q x = one_number d n q number (subst (λ (c : DeclText). IsNumberOf c q) (same_here x.d x.here) x.number)

    pub knows_more : (old new : ℕ → Bool) → ((q : ℕ) → new q ≡ cond (nat_eq n q) true (old q)) → Knows ds i old → Knows ds (i + 1) new
    knows_more old new adds knows q =
        elim (cases_eq n q) [
          | inl e ↦ (λ h. (i, omega arith, subst (IsNumbered ds i) e has_number), λ k. adds q ∙ ap (λ b. cond b true (old q)) (number_same n q e))
          | inr other ↦ let same : new q ≡ old q = adds q ∙ ap (λ b. cond b true (old q)) (number_other n q other) in (
            λ h. one_later q ((knows q).0 (sym same ∙ h)),
            λ k. same ∙ (knows q).1 (elim (earlier_or_own q k) [ inl before ↦ before | inr mine ↦ absurd (other (only_number q mine)) ]),
          )
        ]

    pub taken_before : (has : ℕ → Bool) (is_new : Bool) → Knows ds i has → is_new ≡ not (has n) → is_new ≡ false → SameNumber ds i
    taken_before has is_new knows told old =
        let k = (knows n).0 (was_there (has n) is_new told old) in earlier k.0 n k.1 k.2 has_number

    pub taken_always : IsTaken n → SameNumber ds i
    taken_always (inl e) = packed (subst (IsNumbered ds i) e has_number)
    taken_always (inr e) = vector (subst (IsNumbered ds i) e has_number)

    pub free : (has : ℕ → Bool) (is_new : Bool) → Knows ds i has → is_new ≡ not (has n) → is_new ≡ true → (IsTaken n → ⊥) → ¬ SameNumber ds i
    free has is_new knows told new other (earlier j q below there here) =
        true≢false (sym ((knows n).1 (j, below, subst (IsNumbered ds j) (sym (only_number q here)) there)) ∙ was_new (has n) is_new told new)
    free has is_new knows told new other (packed here) = other (inl (only_number _ here))
    free has is_new knows told new other (vector here) = other (inr (only_number _ here))

numbered_within : (ds : List DeclText) (k n : ℕ) → IsNumbered ds k n → k < length ds
numbered_within ds k n x = slice_get_within ds k x.d x.here

pub same_number_within : (ds : List DeclText) (k : ℕ) → SameNumber ds k → k < length ds
same_number_within ds k (earlier j n below there here) = numbered_within ds k n here
same_number_within ds k (packed here) = numbered_within ds k _ here
same_number_within ds k (vector here) = numbered_within ds k _ here
