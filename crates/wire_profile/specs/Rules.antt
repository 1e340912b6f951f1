-- What one record of form k with these fields breaks of a rule: one definition for each cause. This project's own.
use Rattle.std.specs.Prelude.{ℕ, Option, None, Bool, true, false, not, ◌&&◌, ◌||◌, ◌==◌, if◌then◌else◌}
use Rattle.tl_types.specs.Values.{ValueView, list, node, call, ValueViews, no_values, value}
use Rattle.wire_forms.specs.Forms.{is_request}
use Rattle.wire_forms.specs.Parts.{at, parts_of, entry_of, int_of, word_of}
use Rattle.wire_forms.specs.declared.numbers.TheConstants.{UPDATE_NEW_MESSAGE, UPDATE_EDIT_MESSAGE, UPDATE_DELETE_MESSAGES, UPDATE_NEW_ENCRYPTED_MESSAGE, UPDATE_NEW_CHANNEL_MESSAGE, UPDATE_EDIT_CHANNEL_MESSAGE, UPDATE_DELETE_CHANNEL_MESSAGES, UPDATE_READ_HISTORY, UPDATE_READ_CHANNEL_HISTORY, UPDATES, UPDATES_COMBINED, STATE, DIFFERENCE_EMPTY, DIFFERENCE, DIFFERENCE_SLICE, CHANNEL_DIFFERENCE_EMPTY, CHANNEL_DIFFERENCE, CHANNEL_DIFFERENCE_TOO_LONG, STATE_REPLY, DIFFERENCE_REPLY, CHANNEL_REPLY, RECEIPT_REPLY, ERROR_REPLY, RECEIPT, STEP_DATE, STEP_SERVE, STEP_HEAR, STEP_TICK, STEP_WAKE, STEP_WATCH, STEP_RESTART, EVENT_DELETE, EVENT_READ, LANE, CLIENT, GET_DIFFERENCE, INVOKE}
use Rattle.wire_profile.specs.Ranges.{unless, before, bad_number, bad_end, bad_date, bad_seq, not_one, not_of_ids, bad_ids}
use Rattle.wire_profile.specs.Updates.{unordered, bad_pack, wrong_update}
use Rattle.wire_profile.specs.declared.wire_fault.WireFault.{WireFault}
use Rattle.wire_profile.specs.declared.wire_fault.WireFault.TheVariants.{NotServed, BadVersion}

-- a record or call of form k stands in a value
abbrev mutual
  pub stands_in : ℕ → ValueView → Bool
  stands_in k (list vs) = stands_among k vs
  stands_in k (node j vs) = (j == k) || stands_among k vs
  stands_in k (call j vs) = (j == k) || stands_among k vs
  stands_in k v = false

  pub stands_among : ℕ → ValueViews → Bool
  stands_among k no_values = false
  stands_among k (value v vs) = stands_in k v || stands_among k vs

-- a saved client of this version may have these fields: one of version 1 has no read marks
abbrev pub is_known : ℕ → ValueViews → Bool
is_known version vs = (version == 2) || ((version == 1) && not (stands_among EVENT_READ vs))

abbrev pub version_fault : ℕ → ValueViews → Option WireFault
version_fault k vs =
    if k == CLIENT then unless (is_known (word_of (at 0 vs)) vs) (BadVersion (int_of (at 0 vs)))
    else None

-- requests and their replies count from 1; a step's client and packet, and a saved client's next request, from 0
abbrev pub number_fault : ℕ → ValueViews → Option WireFault
number_fault k vs =
    if k == STATE_REPLY then bad_number 1 (at 0 vs)
    else if k == DIFFERENCE_REPLY then bad_number 1 (at 0 vs)
    else if k == CHANNEL_REPLY then bad_number 1 (at 0 vs)
    else if k == RECEIPT_REPLY then bad_number 1 (at 0 vs)
    else if k == ERROR_REPLY then bad_number 1 (at 0 vs)
    else if k == STEP_SERVE then bad_number 0 (at 0 vs)
    else if k == STEP_HEAR then before (bad_number 0 (at 0 vs)) (bad_number 0 (at 1 vs))
    else if k == STEP_TICK then bad_number 0 (at 0 vs)
    else if k == STEP_WAKE then bad_number 0 (at 0 vs)
    else if k == STEP_WATCH then bad_number 0 (at 0 vs)
    else if k == STEP_RESTART then bad_number 0 (at 0 vs)
    else if k == CLIENT then bad_number 0 (at 1 vs)
    else if k == INVOKE then bad_number 1 (at 0 vs)
    else None

-- settings stand in a final difference of the common box alone
abbrev pub update_fault : ℕ → ValueViews → Option WireFault
update_fault k vs =
    if k == DIFFERENCE then wrong_update true (at 2 vs)
    else if k == DIFFERENCE_SLICE then wrong_update false (at 2 vs)
    else if k == CHANNEL_DIFFERENCE then wrong_update false (at 4 vs)
    else None

abbrev pub count_fault : ℕ → ValueViews → Option WireFault
count_fault k vs =
    if k == UPDATE_NEW_MESSAGE then not_one (at 1 vs) (at 2 vs)
    else if k == UPDATE_EDIT_MESSAGE then not_one (at 1 vs) (at 2 vs)
    else if k == UPDATE_DELETE_MESSAGES then not_of_ids (at 0 vs) (at 1 vs) (at 2 vs)
    else if k == UPDATE_NEW_CHANNEL_MESSAGE then not_one (at 2 vs) (at 3 vs)
    else if k == UPDATE_EDIT_CHANNEL_MESSAGE then not_one (at 2 vs) (at 3 vs)
    else if k == UPDATE_DELETE_CHANNEL_MESSAGES then not_of_ids (at 1 vs) (at 2 vs) (at 3 vs)
    else if k == UPDATE_READ_HISTORY then not_one (at 1 vs) (at 2 vs)
    else if k == UPDATE_READ_CHANNEL_HISTORY then not_one (at 2 vs) (at 3 vs)
    else if k == EVENT_DELETE then bad_ids (at 0 vs)
    else None

-- an event doesn't end below its count; a secret message counts 1, a position nothing
abbrev pub end_fault : ℕ → ValueViews → Option WireFault
end_fault k vs =
    if k == UPDATE_NEW_MESSAGE then bad_end (word_of (at 2 vs)) (at 1 vs)
    else if k == UPDATE_EDIT_MESSAGE then bad_end (word_of (at 2 vs)) (at 1 vs)
    else if k == UPDATE_DELETE_MESSAGES then bad_end (word_of (at 2 vs)) (at 1 vs)
    else if k == UPDATE_NEW_ENCRYPTED_MESSAGE then bad_end 1 (at 1 vs)
    else if k == UPDATE_NEW_CHANNEL_MESSAGE then bad_end (word_of (at 3 vs)) (at 2 vs)
    else if k == UPDATE_EDIT_CHANNEL_MESSAGE then bad_end (word_of (at 3 vs)) (at 2 vs)
    else if k == UPDATE_DELETE_CHANNEL_MESSAGES then bad_end (word_of (at 3 vs)) (at 2 vs)
    else if k == UPDATE_READ_HISTORY then bad_end (word_of (at 2 vs)) (at 1 vs)
    else if k == UPDATE_READ_CHANNEL_HISTORY then bad_end (word_of (at 3 vs)) (at 2 vs)
    else if k == STATE then before (bad_end 0 (at 0 vs)) (bad_end 0 (at 1 vs))
    else if k == CHANNEL_DIFFERENCE_EMPTY then bad_end 0 (at 2 vs)
    else if k == CHANNEL_DIFFERENCE then bad_end 0 (at 2 vs)
    else if k == CHANNEL_DIFFERENCE_TOO_LONG then bad_end 0 (at 2 vs)
    else if k == RECEIPT then before (bad_end 0 (at 0 vs)) (bad_end 0 (at 1 vs))
    else if k == LANE then before (bad_end 0 (at 0 vs)) (bad_end 0 (at 1 vs))
    else None

abbrev pub date_fault : ℕ → ValueViews → Option WireFault
date_fault k vs =
    if k == UPDATES then bad_date (at 1 vs)
    else if k == UPDATES_COMBINED then bad_date (at 1 vs)
    else if k == STATE then bad_date (at 2 vs)
    else if k == DIFFERENCE_EMPTY then bad_date (at 0 vs)
    else if k == RECEIPT then bad_date (at 2 vs)
    else if k == STEP_DATE then bad_date (at 0 vs)
    else if k == CLIENT then bad_date (at 4 vs)
    else if k == GET_DIFFERENCE then bad_date (at 2 vs)
    else None

abbrev pub setting_fault : ℕ → ValueViews → Option WireFault
setting_fault k vs =
    if k == UPDATES then unordered (at 0 vs) (at 2 vs)
    else if k == UPDATES_COMBINED then unordered (at 0 vs) (at 3 vs)
    else None

abbrev pub seq_fault : ℕ → ValueViews → Option WireFault
seq_fault k vs =
    if k == UPDATES then bad_pack (at 0 vs) (at 2 vs) (at 2 vs)
    else if k == UPDATES_COMBINED then bad_pack (at 0 vs) (at 2 vs) (at 3 vs)
    else if k == STATE then bad_seq (at 3 vs)
    else if k == DIFFERENCE_EMPTY then bad_seq (at 1 vs)
    else if k == RECEIPT then bad_seq (at 3 vs)
    else if k == CLIENT then bad_seq (at 5 vs)
    else None

-- of a whole call: a server is asked by `peer.invoke`, whose query stands 8 bytes after its first
abbrev pub not_served : ValueView → Option WireFault
not_served v =
    before (unless (entry_of v == INVOKE) (NotServed 0))
    (unless (is_request (entry_of (at 1 (parts_of v)))) (NotServed 8))
