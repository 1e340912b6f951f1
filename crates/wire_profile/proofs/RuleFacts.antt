-- What a rule that isn't broken says of numbers, and back.
use Rattle.std.specs.Prelude.{nat_le, ◌==◌, ◌||◌, ◌&&◌, not}
use Rattle.std.proofs.Common.{◌≡◌, ◌⊎◌, inl, inr, ℕ, ◌+◌, ◌-◌, ◌≤◌, ◌^◌, None, Bool, true, false, refl, ap, arith}
use Rattle.std.proofs.lemmas.Bool.{leb-true, le-leb, eqb-true, not-true}
use Rattle.std.proofs.lemmas.Bool.Decides.{nat_tests}
use Rattle.tl_types.specs.Values.{ValueView, ValueViews, no_values, value, count}
use Rattle.box_events.specs.declared.limits.TheConstants.{MAX_END, MAX_IDS}
use Rattle.wire_forms.specs.Forms.{is_request}
use Rattle.wire_forms.specs.Parts.{at, parts_of, entry_of, word_of}
use Rattle.wire_forms.specs.declared.numbers.TheConstants.{EVENT_READ, CLIENT, INVOKE}
use Rattle.wire_profile.specs.Ranges.{unless, is_between, bad_number, bad_end, bad_date, bad_seq, not_one, are_few, not_of_ids, bad_ids}
use Rattle.wire_profile.specs.Updates.{settings, unordered, is_pack, bad_pack, is_other, wrong_among, wrong_update}
use Rattle.wire_profile.specs.Rules.{stands_among, is_known, version_fault, not_served}
use Rattle.wire_profile.specs.Causes.{call_cause, cause_of}
use Rattle.wire_profile.specs.Clear.{IsClear}
use Rattle.wire_profile.specs.declared.rule.Root.TheVariants.{Call}
use Rattle.wire_profile.specs.declared.wire_fault.WireFault.TheVariants.{NotServed}
use Rattle.wire_profile.proofs.ClearValues.{first_none, second_none, both_none, holds, none_of, clear_of, no_cause}

-- ---- tests

pub left_true : (a b : Bool) → (a && b) ≡ true → a ≡ true
left_true true b e = refl
left_true false b e = e

pub right_true : (a b : Bool) → (a && b) ≡ true → b ≡ true
right_true true b e = e
right_true false b e = absurd cc

pub both_true : (a b : Bool) → a ≡ true → b ≡ true → (a && b) ≡ true
both_true true b e d = d
both_true false b e d = e

pub either_true : (a b : Bool) → (a || b) ≡ true → (a ≡ true) ⊎ (b ≡ true)
either_true true b e = inl refl
either_true false b e = inr e

pub or_left : (a b : Bool) → a ≡ true → (a || b) ≡ true
or_left true b e = refl
or_left false b e = absurd cc

pub or_right : (a b : Bool) → b ≡ true → (a || b) ≡ true
or_right true b e = refl
or_right false b e = e

pub same : (a b : ℕ) → a ≡ b → (a == b) ≡ true
same a b e = grind (arith, nat_tests)

pub between : (least most : ℕ) (v : ValueView) → is_between least most v ≡ true → (least ≤ word_of v) × (word_of v ≤ most)
between least most v e =
    let n : ℕ = word_of v in
    (leb-true _ _ (left_true (nat_le least n) (nat_le n most) e), leb-true _ _ (right_true (nat_le least n) (nat_le n most) e))

pub is_between_of : (least most : ℕ) (v : ValueView) → least ≤ word_of v → word_of v ≤ most → is_between least most v ≡ true
is_between_of least most v a b =
    let n : ℕ = word_of v in
    both_true (nat_le least n) (nat_le n most) (le-leb _ _ a) (le-leb _ _ b)

-- ---- numbers

pub number_is : (least : ℕ) (v : ValueView) → bad_number least v ≡ None → (least ≤ word_of v) × (word_of v ≤ 2 ^ 31 - 1)
number_is least v e = between least (2 ^ 31 - 1) v (holds _ _ e)

pub number_of : (least : ℕ) (v : ValueView) → least ≤ word_of v → word_of v ≤ 2 ^ 31 - 1 → bad_number least v ≡ None
number_of least v a b = none_of _ _ (is_between_of least (2 ^ 31 - 1) v a b)

pub end_is : (least : ℕ) (v : ValueView) → bad_end least v ≡ None → (least ≤ word_of v) × (word_of v ≤ MAX_END)
end_is least v e = between least MAX_END v (holds _ _ e)

pub end_of : (least : ℕ) (v : ValueView) → least ≤ word_of v → word_of v ≤ MAX_END → bad_end least v ≡ None
end_of least v a b = none_of _ _ (is_between_of least MAX_END v a b)

pub date_is : (v : ValueView) → bad_date v ≡ None → word_of v ≤ 2 ^ 31 - 1
date_is v e = (between 0 (2 ^ 31 - 1) v (holds _ _ e)).1

pub date_of : (v : ValueView) → word_of v ≤ 2 ^ 31 - 1 → bad_date v ≡ None
date_of v b = none_of _ _ (is_between_of 0 (2 ^ 31 - 1) v (omega arith) b)

pub seq_is : (v : ValueView) → bad_seq v ≡ None → word_of v ≤ MAX_END
seq_is v e = (between 0 MAX_END v (holds _ _ e)).1

pub seq_of : (v : ValueView) → word_of v ≤ MAX_END → bad_seq v ≡ None
seq_of v b = none_of _ _ (is_between_of 0 MAX_END v (omega arith) b)

-- ---- counts

pub one_is : (pts stated : ValueView) → not_one pts stated ≡ None → word_of stated ≡ 1
one_is pts stated e = eqb-true _ _ (holds _ _ e)

pub one_of : (pts stated : ValueView) → word_of stated ≡ 1 → not_one pts stated ≡ None
one_of pts stated e = none_of _ _ (same _ _ e)

few_are : (n : ℕ) → are_few n ≡ true → (1 ≤ n) × (n ≤ MAX_IDS)
few_are n e = (leb-true _ _ (left_true (nat_le 1 n) (nat_le n MAX_IDS) e), leb-true _ _ (right_true (nat_le 1 n) (nat_le n MAX_IDS) e))

few_of : (n : ℕ) → 1 ≤ n → n ≤ MAX_IDS → are_few n ≡ true
few_of n a b = both_true (nat_le 1 n) (nat_le n MAX_IDS) (le-leb _ _ a) (le-leb _ _ b)

pub ids_are : (ids pts stated : ValueView) → not_of_ids ids pts stated ≡ None → (1 ≤ count (parts_of ids)) × (count (parts_of ids) ≤ MAX_IDS) × (word_of stated ≡ count (parts_of ids))
ids_are ids pts stated e =
    let n : ℕ = count (parts_of ids) in
    let h = holds _ _ e in
    let few = few_are n (left_true (are_few n) (word_of stated == n) h) in
    (few.0, few.1, eqb-true _ _ (right_true (are_few n) (word_of stated == n) h))

pub ids_of : (ids pts stated : ValueView) → 1 ≤ count (parts_of ids) → count (parts_of ids) ≤ MAX_IDS → word_of stated ≡ count (parts_of ids) → not_of_ids ids pts stated ≡ None
ids_of ids pts stated a b e =
    let n : ℕ = count (parts_of ids) in
    none_of _ _ (both_true (are_few n) (word_of stated == n) (few_of n a b) (same _ _ e))

pub saved_ids_are : (ids : ValueView) → bad_ids ids ≡ None → (1 ≤ count (parts_of ids)) × (count (parts_of ids) ≤ MAX_IDS)
saved_ids_are ids e = few_are _ (holds _ _ e)

pub saved_ids_of : (ids : ValueView) → 1 ≤ count (parts_of ids) → count (parts_of ids) ≤ MAX_IDS → bad_ids ids ≡ None
saved_ids_of ids a b = none_of _ _ (few_of _ a b)

-- ---- containers

-- so many settings have the seqs from `start` to `seq`
pub record Pack (many start seq : ℕ) : Type 0 where
  pub starts : 1 ≤ start
  pub ends : start ≤ seq
  pub low : seq ≤ MAX_END
  pub same : many + start ≡ seq + 1

pack_is : (many start seq : ℕ) → is_pack many start seq ≡ true → (seq ≡ 0) ⊎ Pack many start seq
pack_is many start seq e = elim (either_true (seq == 0) ((nat_le 1 start && nat_le start seq) && (nat_le seq MAX_END && (many + start == seq + 1))) e) [
  | inl z ↦ inl (eqb-true _ _ z)
  | inr r ↦
      let a = left_true (nat_le 1 start && nat_le start seq) (nat_le seq MAX_END && (many + start == seq + 1)) r in
      let b = right_true (nat_le 1 start && nat_le start seq) (nat_le seq MAX_END && (many + start == seq + 1)) r in
      inr (record {
        starts = leb-true _ _ (left_true (nat_le 1 start) (nat_le start seq) a);
        ends = leb-true _ _ (right_true (nat_le 1 start) (nat_le start seq) a);
        low = leb-true _ _ (left_true (nat_le seq MAX_END) (many + start == seq + 1) b);
        same = eqb-true _ _ (right_true (nat_le seq MAX_END) (many + start == seq + 1) b);
      })
]

pack_of : (many start seq : ℕ) → (seq ≡ 0) ⊎ Pack many start seq → is_pack many start seq ≡ true
pack_of many start seq (inl z) = or_left (seq == 0) _ (same _ _ z)
pack_of many start seq (inr p) =
    or_right (seq == 0) _ (both_true (nat_le 1 start && nat_le start seq) (nat_le seq MAX_END && (many + start == seq + 1))
    (both_true (nat_le 1 start) (nat_le start seq) (le-leb _ _ p.starts) (le-leb _ _ p.ends))
    (both_true (nat_le seq MAX_END) (many + start == seq + 1) (le-leb _ _ p.low) (same _ _ p.same)))

pub container_is : (updates start seq : ValueView) → bad_pack updates start seq ≡ None → (word_of seq ≡ 0) ⊎ Pack (settings (parts_of updates)) (word_of start) (word_of seq)
container_is updates start seq e = pack_is _ _ _ (holds _ _ e)

pub container_of : (updates start seq : ValueView) → (word_of seq ≡ 0) ⊎ Pack (settings (parts_of updates)) (word_of start) (word_of seq) → bad_pack updates start seq ≡ None
container_of updates start seq p = none_of _ _ (pack_of _ _ _ p)

pub unordered_is : (updates seq : ValueView) → unordered updates seq ≡ None → word_of seq ≡ 0 → settings (parts_of updates) ≡ 0
unordered_is updates seq e z = elim (either_true (nat_le 1 (word_of seq)) (settings (parts_of updates) == 0) (holds _ _ e)) [
  | inl a ↦ absurd (let le = leb-true _ _ a in omega arith)
  | inr b ↦ eqb-true _ _ b
]

pub unordered_of : (updates seq : ValueView) → (1 ≤ word_of seq) ⊎ (settings (parts_of updates) ≡ 0) → unordered updates seq ≡ None
unordered_of updates seq (inl a) = none_of _ _ (or_left (nat_le 1 (word_of seq)) _ (le-leb _ _ a))
unordered_of updates seq (inr b) = none_of _ _ (or_right (nat_le 1 (word_of seq)) _ (same _ _ b))

-- ---- a difference's other updates

-- each may stand there
abbrev pub AreOther : Bool → ValueViews → Type 0
AreOther with_settings no_values = Unit {0}
AreOther with_settings (value v vs) = (is_other with_settings (entry_of v) ≡ true) × AreOther with_settings vs

others_from : (with_settings : Bool) (place : ℕ) (vs : ValueViews) → wrong_among with_settings place vs ≡ None → AreOther with_settings vs
others_from s p no_values e = tt
others_from s p (value v vs) e = (holds _ _ (first_none _ (wrong_among s (p + 1) vs) e), others_from s (p + 1) vs (second_none (unless _ _) (wrong_among s (p + 1) vs) e))

others_to : (with_settings : Bool) (place : ℕ) (vs : ValueViews) → AreOther with_settings vs → wrong_among with_settings place vs ≡ None
others_to s p no_values o = refl
others_to s p (value v vs) o = both_none _ (wrong_among s (p + 1) vs) (none_of _ _ o.0) (others_to s (p + 1) vs o.1)

pub others_are : (with_settings : Bool) (others : ValueView) → wrong_update with_settings others ≡ None → AreOther with_settings (parts_of others)
others_are s v e = others_from s 0 (parts_of v) e

pub others_of : (with_settings : Bool) (others : ValueView) → AreOther with_settings (parts_of others) → wrong_update with_settings others ≡ None
others_of s v o = others_to s 0 (parts_of v) o

-- ---- versions

known_is : (version : ℕ) (vs : ValueViews) → is_known version vs ≡ true → (version ≡ 2) ⊎ ((version ≡ 1) × (stands_among EVENT_READ vs ≡ false))
known_is version vs e = elim (either_true (version == 2) ((version == 1) && not (stands_among EVENT_READ vs)) e) [
  | inl a ↦ inl (eqb-true _ _ a)
  | inr b ↦ inr (eqb-true _ _ (left_true (version == 1) (not (stands_among EVENT_READ vs)) b), not-true _ (right_true (version == 1) (not (stands_among EVENT_READ vs)) b))
]

known_of : (version : ℕ) (vs : ValueViews) → (version ≡ 2) ⊎ ((version ≡ 1) × (stands_among EVENT_READ vs ≡ false)) → is_known version vs ≡ true
known_of version vs (inl a) = or_left (version == 2) _ (same _ _ a)
known_of version vs (inr b) = or_right (version == 2) _ (both_true (version == 1) (not (stands_among EVENT_READ vs)) (same _ _ b.0) (ap not b.1))

pub version_is : (vs : ValueViews) → version_fault CLIENT vs ≡ None → (word_of (at 0 vs) ≡ 2) ⊎ ((word_of (at 0 vs) ≡ 1) × (stands_among EVENT_READ vs ≡ false))
version_is vs e = known_is _ vs (holds _ _ e)

pub version_of : (vs : ValueViews) → (word_of (at 0 vs) ≡ 2) ⊎ ((word_of (at 0 vs) ≡ 1) × (stands_among EVENT_READ vs ≡ false)) → version_fault CLIENT vs ≡ None
version_of vs a = none_of _ _ (known_of _ vs a)

-- ---- calls

pub served_is : (v : ValueView) → not_served v ≡ None → (entry_of v ≡ INVOKE) × (is_request (entry_of (at 1 (parts_of v))) ≡ true)
served_is v e = (eqb-true _ _ (holds _ _ (first_none _ (unless (is_request (entry_of (at 1 (parts_of v)))) (NotServed 8)) e)), holds _ _ (second_none (unless (entry_of v == INVOKE) (NotServed 0)) _ e))

pub served_of : (v : ValueView) → entry_of v ≡ INVOKE → is_request (entry_of (at 1 (parts_of v))) ≡ true → not_served v ≡ None
served_of v a b = both_none _ _ (none_of _ _ (same _ _ a)) (none_of _ _ b)

pub clear_of_call : (v : ValueView) → call_cause v ≡ None → (not_served v ≡ None) × IsClear Call v
clear_of_call v e = (first_none (not_served v) (cause_of Call v) e, clear_of Call v (second_none (not_served v) (cause_of Call v) e))

pub no_call_cause : (v : ValueView) → not_served v ≡ None → IsClear Call v → call_cause v ≡ None
no_call_cause v a c = both_none (not_served v) (cause_of Call v) a (no_cause Call v c)
