-- Values of which a message keeps all: their counts are those of their events, and their other updates are of the right forms.
-- This project's own.
use Rattle.std.specs.Prelude.{◌≡◌, ℕ, true, false, IsTrue}
use Rattle.tl_types.specs.Values.{ValueView, list, node, call, ValueViews, no_values, value, count}
use Rattle.wire_forms.specs.Parts.{at, parts_of, word_of}
use Rattle.wire_forms.specs.declared.numbers.TheConstants.{UPDATE_NEW_MESSAGE, UPDATE_EDIT_MESSAGE, UPDATE_DELETE_MESSAGES, UPDATE_NEW_CHANNEL_MESSAGE, UPDATE_EDIT_CHANNEL_MESSAGE, UPDATE_DELETE_CHANNEL_MESSAGES, UPDATE_READ_HISTORY, UPDATE_READ_CHANNEL_HISTORY, DIFFERENCE, DIFFERENCE_SLICE, CHANNEL_DIFFERENCE, EVENT_DELETE}
use Rattle.wire_values.specs.Updates.{has_ids}
use Rattle.wire_values.specs.Others.{are_others}

-- a delete may have so many ids, and the count is theirs
abbrev pub CountsIds : ValueView → ℕ → Type 0
CountsIds ids n = IsTrue (has_ids (count (parts_of ids))) × (n ≡ count (parts_of ids))

-- one record
pub record IsKept (k : ℕ) (ts : ValueViews) : Type 0 where
  pub new : k ≡ UPDATE_NEW_MESSAGE → word_of (at 2 ts) ≡ 1
  pub edit : k ≡ UPDATE_EDIT_MESSAGE → word_of (at 2 ts) ≡ 1
  pub delete : k ≡ UPDATE_DELETE_MESSAGES → CountsIds (at 0 ts) (word_of (at 2 ts))
  pub read : k ≡ UPDATE_READ_HISTORY → word_of (at 2 ts) ≡ 1
  pub channel_new : k ≡ UPDATE_NEW_CHANNEL_MESSAGE → word_of (at 3 ts) ≡ 1
  pub channel_edit : k ≡ UPDATE_EDIT_CHANNEL_MESSAGE → word_of (at 3 ts) ≡ 1
  pub channel_delete : k ≡ UPDATE_DELETE_CHANNEL_MESSAGES → CountsIds (at 1 ts) (word_of (at 3 ts))
  pub channel_read : k ≡ UPDATE_READ_CHANNEL_HISTORY → word_of (at 3 ts) ≡ 1
  pub saved_delete : k ≡ EVENT_DELETE → IsTrue (has_ids (count (parts_of (at 0 ts))))
  pub difference : k ≡ DIFFERENCE → IsTrue (are_others true (parts_of (at 2 ts)))
  pub slice : k ≡ DIFFERENCE_SLICE → IsTrue (are_others false (parts_of (at 2 ts)))
  pub channel_difference : k ≡ CHANNEL_DIFFERENCE → IsTrue (are_others false (parts_of (at 4 ts)))

abbrev mutual
  -- each record in the value
  pub AllKept : ValueView → Type 0
  AllKept (list ts) = EachKept ts
  AllKept (node k ts) = IsKept k ts × EachKept ts
  AllKept (call k ts) = IsKept k ts × EachKept ts
  AllKept t = Unit {0}

  pub EachKept : ValueViews → Type 0
  EachKept no_values = Unit {0}
  EachKept (value t ts) = AllKept t × EachKept ts
