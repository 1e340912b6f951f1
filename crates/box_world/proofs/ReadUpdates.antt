-- Updates of a value without a cause are in a client's range.
use Rattle.std.specs.Prelude.{IsTrue, ◌==◌, pos, if◌then◌else◌}
use Rattle.std.proofs.Common.{◌≡◌, ℕ, suc, ◌+◌, ◌≤◌, ℤ, List, ◌∷◌, length, None, Bool, true, false, refl, ap, ◌∙◌, subst, arith}
use Rattle.tl_types.specs.Values.{ValueView, ValueViews, no_values, value, count}
use Rattle.box_events.specs.declared.limits.TheConstants.{MAX_END}
use Rattle.box_events.specs.declared.updates.Update.{Update}
use Rattle.box_events.specs.Events.{deleted, read, count_of}
use Rattle.box_client.specs.Pushes.{settings_in}
use Rattle.box_client.specs.Ranges.{IsUpdateInRange, AreUpdatesInRange}
use Rattle.wire_forms.specs.declared.form.Cell.{Cell}
use Rattle.wire_forms.specs.declared.form.Cell.TheVariants.{One}
use Rattle.wire_forms.specs.declared.numbers.TheConstants.{UPDATE_TYPE, UPDATE_SETTING}
use Rattle.wire_forms.specs.Forms.{forms, constructs, cells_of}
use Rattle.wire_forms.specs.Parts.{at, parts_of, entry_of, int_of, word_of, each}
use Rattle.wire_forms.specs.IsOf.{IsOf, EachOf}
use Rattle.wire_forms.proofs.Records.{opened, by_member, length_each}
use Rattle.wire_values.specs.Updates.{update_at, update_in, deletion, has_ids, ids_in}
use Rattle.wire_profile.specs.Updates as checks
use Rattle.wire_profile.specs.Causes.{is_for, broken}
use Rattle.wire_profile.specs.Clear.{IsClear, AreClear}
use Rattle.wire_profile.specs.declared.rule.Rule.{Rule}
use Rattle.wire_profile.specs.declared.rule.Rule.TheVariants.{Count, End}
use Rattle.wire_profile.specs.declared.rule.Root.TheVariants.{Frame}
use Rattle.wire_profile.proofs.ClearValues.{clear_here, clear_first, clear_rest}
use Rattle.wire_profile.proofs.RuleFacts.{end_is, one_is, ids_are}

-- a frame's record of form k breaks no rule
abbrev pub Holds : ℕ → ValueViews → Type 0
Holds k ts = (rule : Rule) → IsTrue (is_for Frame rule) → broken rule k ts ≡ None

-- ---- one form each

one_ends : (pts stated : ValueView) → word_of stated ≡ 1 → (word_of stated ≤ word_of pts) × (word_of pts ≤ MAX_END) → (1 ≤ word_of pts) × (word_of pts ≤ MAX_END)
one_ends pts stated one ends = (subst (λ (n : ℕ). n ≤ word_of pts) one ends.0, ends.1)

deletion_by : (ids : List ℤ) (n : ℕ) (b : Bool) → length ids ≤ n → 1 ≤ n → count_of (if b then deleted ids else read (pos 0)) ≤ n
deletion_by ids n true le some = le
deletion_by ids n false le some = some

ids_ends : (ids pts stated : ValueView) → (1 ≤ count (parts_of ids)) × (count (parts_of ids) ≤ 4096) × (word_of stated ≡ count (parts_of ids)) → (word_of stated ≤ word_of pts) × (word_of pts ≤ MAX_END) → (count_of (deletion (ids_in ids)) ≤ word_of pts) × (word_of pts ≤ MAX_END)
ids_ends ids pts stated are ends =
    let many = length_each int_of (parts_of ids) in
    let some = are.0 in
    let same = are.2 in
    let low = ends.0 in
    (deletion_by (ids_in ids) (word_of pts) (has_ids (length (ids_in ids))) (omega (arith, many, same, low)) (omega (arith, some, same, low)), ends.1)

abbrev Taken : ℕ → List Cell → Type 0
Taken k cs = (ts : ValueViews) → Holds k ts → IsUpdateInRange (update_at k ts)

update_forms : (k : ℕ) → IsTrue (constructs UPDATE_TYPE k) → Taken k (cells_of k)
unfolding forms
update_forms = by_member Taken UPDATE_TYPE (
  (λ ts h. one_ends (at 1 ts) (at 2 ts) (one_is (at 1 ts) (at 2 ts) (h Count refl)) (end_is (word_of (at 2 ts)) (at 1 ts) (h End refl))),
  (
    (λ ts h. one_ends (at 1 ts) (at 2 ts) (one_is (at 1 ts) (at 2 ts) (h Count refl)) (end_is (word_of (at 2 ts)) (at 1 ts) (h End refl))),
    (
      (λ ts h. ids_ends (at 0 ts) (at 1 ts) (at 2 ts) (ids_are (at 0 ts) (at 1 ts) (at 2 ts) (h Count refl)) (end_is (word_of (at 2 ts)) (at 1 ts) (h End refl))),
      (
        (λ ts h. end_is 1 (at 1 ts) (h End refl)),
        (
          (λ ts h. one_ends (at 2 ts) (at 3 ts) (one_is (at 2 ts) (at 3 ts) (h Count refl)) (end_is (word_of (at 3 ts)) (at 2 ts) (h End refl))),
          (
            (λ ts h. one_ends (at 2 ts) (at 3 ts) (one_is (at 2 ts) (at 3 ts) (h Count refl)) (end_is (word_of (at 3 ts)) (at 2 ts) (h End refl))),
            (
              (λ ts h. ids_ends (at 1 ts) (at 2 ts) (at 3 ts) (ids_are (at 1 ts) (at 2 ts) (at 3 ts) (h Count refl)) (end_is (word_of (at 3 ts)) (at 2 ts) (h End refl))),
              (
                (λ ts h. tt),
                (
                  (λ ts h. tt),
                  (
                    (λ ts h. one_ends (at 1 ts) (at 2 ts) (one_is (at 1 ts) (at 2 ts) (h Count refl)) (end_is (word_of (at 2 ts)) (at 1 ts) (h End refl))),
                    (
                      (λ ts h. one_ends (at 2 ts) (at 3 ts) (one_is (at 2 ts) (at 3 ts) (h Count refl)) (end_is (word_of (at 3 ts)) (at 2 ts) (h End refl))),
                      tt,
                    ),
                  ),
                ),
              ),
            ),
          ),
        ),
      ),
    ),
  ),
)

update_taken : (t : ValueView) → IsOf (One UPDATE_TYPE) t → IsClear Frame t → IsUpdateInRange (update_in t)
update_taken t s c =
    let o = opened UPDATE_TYPE t s in
    update_forms (entry_of t) o.member (parts_of t) (clear_here Frame (entry_of t) (parts_of t) (subst (IsClear Frame) o.is c))

pub updates_taken : (ts : ValueViews) → EachOf (One UPDATE_TYPE) ts → AreClear Frame ts → AreUpdatesInRange (each update_in ts)
updates_taken no_values s c = tt
updates_taken (value t ts) s c = (update_taken t s.0 (clear_first Frame (value t ts) c), updates_taken ts s.1 (clear_rest Frame (value t ts) c))

-- ---- settings

same_count : (n : ℕ) → n ≡ 0 + n
same_count n = omega arith

one_count : (n : ℕ) → suc n ≡ 1 + n
one_count n = omega arith

abbrev Counts : ℕ → List Cell → Type 0
Counts k cs = (ts : ValueViews) (us : List Update) → length (settings_in (update_at k ts ∷ us)) ≡ (if k == UPDATE_SETTING then 1 else 0) + length (settings_in us)

count_forms : (k : ℕ) → IsTrue (constructs UPDATE_TYPE k) → Counts k (cells_of k)
unfolding forms
count_forms = by_member Counts UPDATE_TYPE (
  (λ ts us. same_count (length (settings_in us))),
  (
    (λ ts us. same_count (length (settings_in us))),
    (
      (λ ts us. same_count (length (settings_in us))),
      (
        (λ ts us. same_count (length (settings_in us))),
        (
          (λ ts us. same_count (length (settings_in us))),
          (
            (λ ts us. same_count (length (settings_in us))),
            (
              (λ ts us. same_count (length (settings_in us))),
              (
                (λ ts us. same_count (length (settings_in us))),
                (
                  (λ ts us. one_count (length (settings_in us))),
                  (
                    (λ ts us. same_count (length (settings_in us))),
                    (
                      (λ ts us. same_count (length (settings_in us))),
                      tt,
                    ),
                  ),
                ),
              ),
            ),
          ),
        ),
      ),
    ),
  ),
)

-- the settings among the updates are those that the rules count
pub settings_counted : (ts : ValueViews) → EachOf (One UPDATE_TYPE) ts → length (settings_in (each update_in ts)) ≡ checks.settings ts
settings_counted no_values s = refl
settings_counted (value t ts) s =
    let o = opened UPDATE_TYPE t s.0 in
    count_forms (entry_of t) o.member (parts_of t) (each update_in ts) ∙ ap (λ (n : ℕ). (if entry_of t == UPDATE_SETTING then 1 else 0) + n) (settings_counted ts s.1)
