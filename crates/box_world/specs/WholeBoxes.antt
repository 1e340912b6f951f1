-- The whole box of a channel: all events that were posted to it, of which the server keeps the last. This project's own.
use Rattle.std.specs.Prelude.{◌-◌, ℤ, List, [], ◌∷◌, ◌++◌, length, drop, cond}
use Rattle.std.specs.Ordering.{int_eq}
use Rattle.box_events.specs.declared.limits.TheConstants.{KEPT_EVENTS}
use Rattle.box_events.specs.declared.updates.Push.{Push}
use Rattle.box_events.specs.declared.updates.Push.TheVariants.{TooLong, Container}
use Rattle.box_events.specs.declared.updates.Update.{Update}
use Rattle.box_events.specs.declared.updates.Update.TheVariants.{Common, Secret, Channel, ChannelTooLong, Setting}
use Rattle.box_events.specs.Events.{EventView}
use Rattle.box_world.specs.Worlds.{Packet, push, request, reply}

-- the events of a channel among updates, in order
abbrev pub events_for : ℤ → List Update → List EventView
events_for id [] = []
events_for id (Common event pts ∷ us) = events_for id us
events_for id (Secret body qts ∷ us) = events_for id us
events_for id (Channel k event pts ∷ us) = cond (int_eq k id) (event ∷ events_for id us) (events_for id us)
events_for id (ChannelTooLong k ∷ us) = events_for id us
events_for id (Setting setting ∷ us) = events_for id us

abbrev pub events_pushed : ℤ → Push → List EventView
events_pushed id TooLong = []
events_pushed id (Container updates date seq_start seq) = events_for id updates

-- the events of a channel in the pushes of a pool, in order
abbrev pub whole_box : List Packet → ℤ → List EventView
whole_box [] id = []
whole_box (push p ∷ ms) id = events_pushed id p ++ whole_box ms id
whole_box (request k n ∷ ms) id = whole_box ms id
whole_box (reply k n r s ∷ ms) id = whole_box ms id

-- the events of a box that are kept: the last 500
abbrev pub kept_of : List EventView → List EventView
kept_of es = drop (length es - KEPT_EVENTS) es
