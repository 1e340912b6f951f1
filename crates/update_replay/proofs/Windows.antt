-- What is looked at of a journal.
use Rattle.std.proofs.Common.{◌≡◌, inl, inr, ℕ, ◌<◌, ◌≤◌, min, List, [], ◌++◌, length, length-append, take, append-nil, Bool, ltb, Option, Ok, sym, ap, ◌∙◌, subst, arith, lt-ltb}
use Rattle.std.specs.Prelude.{Vec}
use Rattle.std.specs.declared.alloc.Global.{Global}
use Rattle.std.proofs.lemmas.Bool.{cases_lt}
use Rattle.std.proofs.lemmas.List.{length-take, take_all, take-append-le}
use Rattle.tl_numbers.specs.Bytes.{AreBytes}
use Rattle.tl_base.specs.LimitLaws.{prefix_bytes}
use Rattle.tl_base.specs.Taking.{TakesText}
use Rattle.update_replay.specs.Replays.{goes_on, seen_of}
use Rattle.update_replay.specs.declared.limits.TheConstants.{MAX_JOURNAL_BYTES}

pub seen_bytes : (journal : List ℕ) → AreBytes journal → AreBytes (seen_of journal)
unfolding seen_of
seen_bytes journal are = prefix_bytes MAX_JOURNAL_BYTES journal are

pub goes_by : (journal : List ℕ) (k : ℕ) → k ≡ length journal → ltb MAX_JOURNAL_BYTES k ≡ goes_on journal
unfolding goes_on
goes_by journal k is = ap (ltb MAX_JOURNAL_BYTES) is

pub seen_few : (journal : List ℕ) → length (seen_of journal) ≤ MAX_JOURNAL_BYTES
unfolding seen_of
seen_few journal = omega (arith, length-take MAX_JOURNAL_BYTES journal)

seen_by : (journal : List ℕ) (end : ℕ) → end ≡ min (length journal) MAX_JOURNAL_BYTES → take end journal ≡ take MAX_JOURNAL_BYTES journal
seen_by journal end is = elim (cases_lt (length journal) MAX_JOURNAL_BYTES) [
  | inl lt ↦ take_all end journal (omega (arith, is, lt)) ∙ sym (take_all MAX_JOURNAL_BYTES journal (omega (arith, lt)))
  | inr ge ↦ (let same : end ≡ MAX_JOURNAL_BYTES = omega (arith, is, ge) in ap (λ (k : ℕ). take k journal) same)
]

pub seen_taken : (journal : List ℕ) (end : ℕ) → end ≡ min (length journal) MAX_JOURNAL_BYTES → take end journal ≡ seen_of journal
unfolding seen_of
seen_taken journal end is = seen_by journal end is

-- ---- a journal of which one byte past the limit was taken

pub seen_alike : (front rest : List ℕ) → MAX_JOURNAL_BYTES < length front → seen_of front ≡ seen_of (front ++ rest)
unfolding seen_of
seen_alike front rest long = sym (take-append-le MAX_JOURNAL_BYTES front rest (omega (arith, long)))

pub goes_alike : (front rest : List ℕ) → MAX_JOURNAL_BYTES < length front → goes_on front ≡ goes_on (front ++ rest)
unfolding goes_on
goes_alike front rest long = lt-ltb MAX_JOURNAL_BYTES (length front) long ∙ sym (lt-ltb MAX_JOURNAL_BYTES (length (front ++ rest)) (omega (arith, long, length-append front rest)))

taken_alike : (text rest : List ℕ) → (length text ≤ MAX_JOURNAL_BYTES → rest ≡ []) → (seen_of text ≡ seen_of (text ++ rest)) × (goes_on text ≡ goes_on (text ++ rest))
taken_alike text rest all = elim (cases_lt MAX_JOURNAL_BYTES (length text)) [
  | inl long ↦ (seen_alike text rest long, goes_alike text rest long)
  | inr few ↦ (let same : text ≡ text ++ rest = sym (append-nil text) ∙ ap (λ (z : List ℕ). text ++ z) (sym (all (omega (arith, few)))) in (ap seen_of same, ap goes_on same))
]

-- what holds of what was taken, holds of the journal
pub of_taken : (P : List ℕ → Bool → Type 0) (journal : List ℕ) (after : Option (List ℕ)) (text : Vec ℕ Global) → TakesText MAX_JOURNAL_BYTES journal after (Ok text) → P (seen_of text.items) (goes_on text.items) → P (seen_of journal) (goes_on journal)
of_taken P journal after text took h =
    let alike = taken_alike text.items took.0 took.4 in
    subst (λ (z : List ℕ). P (seen_of z) (goes_on z)) (sym took.2) (subst (P (seen_of (text.items ++ took.0))) alike.1 (subst (λ (z : List ℕ). P z (goes_on text.items)) alike.0 h))
