-- What posts bring to a server, apart from it, and the server that has it. This project's own.
use Rattle.std.specs.Prelude.{◌≡◌, ◌⊎◌, ℕ, ℤ, ◌+◌, ◌≤◌, List, [], ◌∷◌, ◌++◌, length, true, false, ltb, if◌then◌else◌, Option, Some, None, Result, Ok, Err}
use Rattle.std.specs.Ordering.{int_eq}
use Rattle.box_events.specs.declared.limits.TheConstants.{MAX_END}
use Rattle.box_events.specs.declared.positions.LaneName.{LaneName}
use Rattle.box_events.specs.declared.positions.LaneName.TheVariants.{Channel}
use Rattle.box_events.specs.Events.{EventView, count_of}
use Rattle.box_events.specs.Boxes.{ending}
use Rattle.box_server.specs.declared.fault.PostFault.{PostFault}
use Rattle.box_server.specs.declared.fault.PostFault.TheVariants.{BoxFull, Memory}
use Rattle.box_server.specs.declared.tail.Tail.TheInside.{Inside}
use Rattle.box_server.specs.Servers.{ChannelBox, channel_end, channel_in}
use Rattle.box_server.specs.Posting.{with_event}

-- a tail as the box that it would be: it begins where the box ends that it comes to
abbrev pub tail_view : Inside → ChannelBox
tail_view t = record { id = t.id; first = t.first; events = t.events.items }

pub record IsTail (t : Inside) : Type 0 where
  pub stop : t.end ≡ t.first + ending t.events.items
  pub limit : t.end ≤ MAX_END
  pub counted : length t.events.items ≤ ending t.events.items

-- out of memory, or a lane that would pass the limit, with where it ends
abbrev pub Refuses : LaneName → ℕ → ℕ → PostFault → Type 0
Refuses lane at raise f = (f ≡ Memory) ⊎ ((f ≡ BoxFull lane at) × (ltb MAX_END (at + raise) ≡ true))

-- an event is added to a tail
abbrev pub AddsTo : LaneName → ChannelBox → ChannelBox → EventView → Result ℕ PostFault → Type 0
AddsTo lane old new e (Ok end) = (new ≡ record old { events = old.events ++ e ∷ [] }) × (end ≡ channel_end old + count_of e) × (ltb MAX_END (channel_end old + count_of e) ≡ false)
AddsTo lane old new e (Err f) = Refuses lane (channel_end old) (count_of e) f

-- where the first with an id stands, from a number on
abbrev pub tail_index : ℕ → ℤ → List ChannelBox → Option ℕ
tail_index i id [] = None
tail_index i id (c ∷ cs) = if int_eq c.id id then Some i else tail_index (i + 1) id cs

-- an event is added to the tail of a channel
abbrev pub AddsToChannel : List ChannelBox → List ChannelBox → ℤ → EventView → Result ℕ PostFault → Type 0
AddsToChannel old new id e (Ok end) =
    (new ≡ with_event old id e) × (end ≡ channel_end (channel_in old id) + count_of e) × (ltb MAX_END (channel_end (channel_in old id) + count_of e) ≡ false)
AddsToChannel old new id e (Err f) = Refuses (Channel id) (channel_end (channel_in old id)) (count_of e) f
