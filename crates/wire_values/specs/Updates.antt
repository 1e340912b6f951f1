-- The value of an update, and the update of a value.
-- From "Working with Updates" (core.telegram.org/api/updates); layouts and numbers are this project's own.
use Rattle.std.specs.Prelude.{ℕ, ℤ, pos, List, [], ◌∷◌, length, Bool, ◌&&◌, ◌==◌, nat_le, if◌then◌else◌}
use Rattle.tl_types.specs.Values.{ValueView, int, long, text, list, node, ValueViews, values_of}
use Rattle.box_events.specs.Events.{EventView, added, edited, deleted, read, body_of, ids_of}
use Rattle.box_events.specs.Views.{kind_of}
use Rattle.box_events.specs.declared.limits.TheConstants.{MAX_IDS}
use Rattle.box_events.specs.declared.event.EventKind.{EventKind}
use Rattle.box_events.specs.declared.event.EventKind.TheVariants.{New, Edit, Delete, Read}
use Rattle.box_events.specs.declared.settings.Setting as settings
use Rattle.box_events.specs.declared.updates.Placed as placed
use Rattle.box_events.specs.declared.updates.Update.{Update}
use Rattle.box_events.specs.declared.updates.Update.TheVariants.{Common, Secret, Channel, ChannelTooLong, Setting}
use Rattle.wire_forms.specs.Parts.{at, parts_of, entry_of, text_of, int_of, long_of, word_of, number, each, row, held}
use Rattle.wire_forms.specs.declared.numbers.TheConstants.{UPDATE_NEW_MESSAGE, UPDATE_EDIT_MESSAGE, UPDATE_DELETE_MESSAGES, UPDATE_NEW_ENCRYPTED_MESSAGE, UPDATE_NEW_CHANNEL_MESSAGE, UPDATE_EDIT_CHANNEL_MESSAGE, UPDATE_DELETE_CHANNEL_MESSAGES, UPDATE_CHANNEL_TOO_LONG, UPDATE_SETTING, UPDATE_READ_HISTORY, UPDATE_READ_CHANNEL_HISTORY}

-- an event of the common box and the number at which it ends, with the event's count
abbrev pub common_by : EventKind → List ℕ → List ℤ → ℕ → ValueView
common_by New body ids pts = node UPDATE_NEW_MESSAGE (values_of (text body ∷ number pts ∷ number 1 ∷ []))
common_by Edit body ids pts = node UPDATE_EDIT_MESSAGE (values_of (text body ∷ number pts ∷ number 1 ∷ []))
common_by Delete body ids pts = node UPDATE_DELETE_MESSAGES (values_of (list (row int ids) ∷ number pts ∷ number (held (length ids)) ∷ []))
common_by (Read id) body ids pts = node UPDATE_READ_HISTORY (values_of (int id ∷ number pts ∷ number 1 ∷ []))

-- likewise, of the event itself
abbrev pub common_tree : EventView → ℕ → ValueView
common_tree e pts = common_by (kind_of e) (body_of e) (ids_of e) pts

-- likewise of a channel's box
abbrev pub channel_by : ℤ → EventKind → List ℕ → List ℤ → ℕ → ValueView
channel_by id New body ids pts = node UPDATE_NEW_CHANNEL_MESSAGE (values_of (long id ∷ text body ∷ number pts ∷ number 1 ∷ []))
channel_by id Edit body ids pts = node UPDATE_EDIT_CHANNEL_MESSAGE (values_of (long id ∷ text body ∷ number pts ∷ number 1 ∷ []))
channel_by id Delete body ids pts = node UPDATE_DELETE_CHANNEL_MESSAGES (values_of (long id ∷ list (row int ids) ∷ number pts ∷ number (held (length ids)) ∷ []))
channel_by id (Read max_id) body ids pts = node UPDATE_READ_CHANNEL_HISTORY (values_of (long id ∷ int max_id ∷ number pts ∷ number 1 ∷ []))

-- likewise, of the event itself
abbrev pub channel_tree : ℤ → EventView → ℕ → ValueView
channel_tree id e pts = channel_by id (kind_of e) (body_of e) (ids_of e) pts

-- a setting, as an update
abbrev pub setting_tree : settings.Setting → ValueView
setting_tree s = node UPDATE_SETTING (values_of (text s.key ∷ text s.value ∷ []))

-- an update
abbrev pub update_tree : Update → ValueView
update_tree (Common e pts) = common_tree e pts
update_tree (Secret body qts) = node UPDATE_NEW_ENCRYPTED_MESSAGE (values_of (text body ∷ number qts ∷ []))
update_tree (Channel id e pts) = channel_tree id e pts
update_tree (ChannelTooLong id) = node UPDATE_CHANNEL_TOO_LONG (values_of (long id ∷ []))
update_tree (Setting s) = setting_tree s

-- an event of a difference: as an update of the common box, in a channel's difference too
abbrev pub placed_tree : placed.Placed → ValueView
placed_tree p = common_tree p.event p.pts

-- ---- back: the last form stands for whatever else there is

-- so many ids may stand in a delete
abbrev pub has_ids : ℕ → Bool
has_ids n = nat_le 1 n && nat_le n MAX_IDS

-- the delete of these ids; where no delete has so many, a read mark
abbrev pub deletion : List ℤ → EventView
deletion ids = if has_ids (length ids) then deleted ids else read (pos 0)

-- the ids in a list
abbrev pub ids_in : ValueView → List ℤ
ids_in t = each int_of (parts_of t)

-- the setting of a record's fields
abbrev pub setting_at : ValueViews → settings.Setting
setting_at ts = record { key = text_of (at 0 ts); value = text_of (at 1 ts) }

-- the update of a record of form k
abbrev pub update_at : ℕ → ValueViews → Update
update_at k ts =
    if k == UPDATE_NEW_MESSAGE then Common (added (text_of (at 0 ts))) (word_of (at 1 ts))
    else if k == UPDATE_EDIT_MESSAGE then Common (edited (text_of (at 0 ts))) (word_of (at 1 ts))
    else if k == UPDATE_DELETE_MESSAGES then Common (deletion (ids_in (at 0 ts))) (word_of (at 1 ts))
    else if k == UPDATE_NEW_ENCRYPTED_MESSAGE then Secret (text_of (at 0 ts)) (word_of (at 1 ts))
    else if k == UPDATE_NEW_CHANNEL_MESSAGE then Channel (long_of (at 0 ts)) (added (text_of (at 1 ts))) (word_of (at 2 ts))
    else if k == UPDATE_EDIT_CHANNEL_MESSAGE then Channel (long_of (at 0 ts)) (edited (text_of (at 1 ts))) (word_of (at 2 ts))
    else if k == UPDATE_DELETE_CHANNEL_MESSAGES then Channel (long_of (at 0 ts)) (deletion (ids_in (at 1 ts))) (word_of (at 2 ts))
    else if k == UPDATE_CHANNEL_TOO_LONG then ChannelTooLong (long_of (at 0 ts))
    else if k == UPDATE_READ_HISTORY then Common (read (int_of (at 0 ts))) (word_of (at 1 ts))
    else if k == UPDATE_READ_CHANNEL_HISTORY then Channel (long_of (at 0 ts)) (read (int_of (at 1 ts))) (word_of (at 2 ts))
    else Setting (setting_at ts)

-- the update of a value
abbrev pub update_in : ValueView → Update
update_in t = update_at (entry_of t) (parts_of t)

-- the event of an edit, a delete or a read mark
abbrev pub other_at : ℕ → ValueViews → EventView
other_at k ts =
    if k == UPDATE_EDIT_MESSAGE then edited (text_of (at 0 ts))
    else if k == UPDATE_DELETE_MESSAGES then deletion (ids_in (at 0 ts))
    else read (int_of (at 0 ts))

-- an event of a difference, with the number at which it ends
abbrev pub placed_in : ValueView → placed.Placed
placed_in t = record { event = other_at (entry_of t) (parts_of t); pts = word_of (at 1 (parts_of t)) }

-- the setting of a value
abbrev pub setting_in : ValueView → settings.Setting
setting_in t = setting_at (parts_of t)
