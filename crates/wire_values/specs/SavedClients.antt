-- The value of a saved client, and the saved client of a value. This project's own.
use Rattle.std.specs.Prelude.{ℕ, ℤ, List, [], ◌∷◌, ◌==◌, if◌then◌else◌}
use Rattle.tl_types.specs.Values.{ValueView, int, long, text, list, node, ValueViews, values_of}
use Rattle.box_events.specs.Events.{EventView, added, edited, read, body_of, ids_of}
use Rattle.box_events.specs.Views.{kind_of}
use Rattle.box_events.specs.declared.event.EventKind.{EventKind}
use Rattle.box_events.specs.declared.event.EventKind.TheVariants.{New, Edit, Delete, Read}
use Rattle.box_events.specs.declared.settings.Setting as settings
use Rattle.box_events.specs.declared.saved.Saved.{Saved}
use Rattle.box_events.specs.declared.saved.SavedLane.{SavedLane}
use Rattle.box_events.specs.declared.saved.SavedChannel.{SavedChannel}
use Rattle.wire_forms.specs.Parts.{at, parts_of, entry_of, text_of, int_of, long_of, word_of, number, each, row}
use Rattle.wire_forms.specs.declared.numbers.TheConstants.{EVENT_NEW, EVENT_EDIT, EVENT_DELETE, EVENT_READ, LANE, SETTING, CHANNEL, CLIENT}
use Rattle.wire_values.specs.Updates.{deletion, ids_in, setting_in}
use Rattle.wire_values.specs.Frames.{bodies_tree, bodies_in}
use Rattle.wire_values.specs.declared.saved_writer.TheConstants.{VERSION}

-- an event of a saved lane
abbrev pub event_by : EventKind → List ℕ → List ℤ → ValueView
event_by New body ids = node EVENT_NEW (values_of (text body ∷ []))
event_by Edit body ids = node EVENT_EDIT (values_of (text body ∷ []))
event_by Delete body ids = node EVENT_DELETE (values_of (list (row int ids) ∷ []))
event_by (Read id) body ids = node EVENT_READ (values_of (int id ∷ []))

-- likewise, of the event itself
abbrev pub event_tree : EventView → ValueView
event_tree e = event_by (kind_of e) (body_of e) (ids_of e)

-- a lane
abbrev pub lane_tree : SavedLane → ValueView
lane_tree l = node LANE (values_of (number l.restart ∷ number l.at ∷ list (row event_tree l.events) ∷ []))

-- a setting
abbrev pub saved_setting_tree : settings.Setting → ValueView
saved_setting_tree s = node SETTING (values_of (text s.key ∷ text s.value ∷ []))

-- a watched channel
abbrev pub saved_channel_tree : SavedChannel → ValueView
saved_channel_tree c = node CHANNEL (values_of (long c.id ∷ lane_tree c.lane ∷ bodies_tree c.recent ∷ []))

-- a saved client
abbrev pub saved_tree : Saved → ValueView
saved_tree s =
    node CLIENT (values_of
    (number VERSION ∷ number s.next ∷ lane_tree s.common ∷ lane_tree s.secret ∷ number s.date ∷ number s.seq
    ∷ list (row saved_setting_tree s.settings) ∷ list (row saved_channel_tree s.channels) ∷ []))

-- ---- back: the last form stands for whatever else there is; the version is not looked at

-- the event of a record of form k
abbrev pub event_at : ℕ → ValueViews → EventView
event_at k ts =
    if k == EVENT_NEW then added (text_of (at 0 ts))
    else if k == EVENT_EDIT then edited (text_of (at 0 ts))
    else if k == EVENT_DELETE then deletion (ids_in (at 0 ts))
    else read (int_of (at 0 ts))

-- the event of a value
abbrev pub event_in : ValueView → EventView
event_in t = event_at (entry_of t) (parts_of t)

-- the lane of a record's fields
abbrev pub lane_at : ValueViews → SavedLane
lane_at ts = record { restart = word_of (at 0 ts); at = word_of (at 1 ts); events = each event_in (parts_of (at 2 ts)) }

-- the channel of a record's fields
abbrev pub saved_channel_at : ValueViews → SavedChannel
saved_channel_at ts = record { id = long_of (at 0 ts); lane = lane_at (parts_of (at 1 ts)); recent = bodies_in (at 2 ts) }

-- the channel of a value
abbrev pub saved_channel_in : ValueView → SavedChannel
saved_channel_in t = saved_channel_at (parts_of t)

-- the saved client of a record's fields
abbrev pub saved_at : ValueViews → Saved
saved_at ts = record {
  next = word_of (at 1 ts);
  common = lane_at (parts_of (at 2 ts));
  secret = lane_at (parts_of (at 3 ts));
  date = word_of (at 4 ts);
  seq = word_of (at 5 ts);
  settings = each setting_in (parts_of (at 6 ts));
  channels = each saved_channel_in (parts_of (at 7 ts));
}

-- the saved client of a value
abbrev pub saved_in : ValueView → Saved
saved_in t = saved_at (parts_of t)
