-- The steps of the channels that a client watches.
-- From "Working with Updates" (core.telegram.org/api/updates): updateChannelTooLong, updates.getChannelDifference and its three answers. The
-- flags, and when a client asks, are this project's own.
use Rattle.std.specs.Prelude.{ℕ, ◌+◌, ℤ, pos, List, [], ◌∷◌, ◌++◌, length, map, Bool, true, false, ◌||◌, eqb, ltb, cond, is_some, Option, Some, None, Result, Ok, Err}
use Rattle.std.specs.FinMap as map_of
use Rattle.box_events.specs.Events.{EventView, count_of}
use Rattle.box_events.specs.declared.requests.Numbered.{Numbered}
use Rattle.box_events.specs.declared.requests.Request.TheVariants.{Channel}
use Rattle.box_events.specs.declared.replies.ChannelReply.{ChannelReply}
use Rattle.box_events.specs.declared.replies.ChannelReply.TheVariants.{Empty, Part, TooLong}
use Rattle.box_events.specs.declared.limits.TheConstants.{MAX_CHANNELS}
use Rattle.pts_machine.specs.declared.mode.Mode.{Mode}
use Rattle.pts_machine.specs.declared.mode.Mode.TheVariants.{Live, Asking, Again}
use Rattle.pts_machine.specs.declared.seen.Seen.{Seen}
use Rattle.pts_machine.specs.declared.seen.Seen.TheVariants.{Applied, Already, Held, Dropped}
use Rattle.pts_machine.specs.States.{LaneState}
use Rattle.pts_machine.specs.Steps.{Heard, hear, extend, restart_at, forget, asked, new_lane}
use Rattle.box_events.specs.Weaves.{woven_of}
use Rattle.box_events.specs.declared.difference_fault.WeaveFault.{WeaveFault}
use Rattle.channel_box.specs.States.{ChannelState, has_id, first}

-- the first channel of which something holds takes a step
abbrev pub at_first : (ChannelState → Bool) → (ChannelState → ChannelState) → List ChannelState → List ChannelState
at_first p f [] = []
at_first p f (c ∷ cs) = cond (p c) (f c ∷ cs) (c ∷ at_first p f cs)

-- watching

abbrev pub is_watched : List ChannelState → ℤ → Bool
is_watched cs id = is_some (first (has_id id) cs)

-- a channel that is watched from now on, its flag not set
abbrev pub channel_of : ℤ → LaneState EventView → List (List ℕ) → ChannelState
channel_of id lane recent = record { id = id; lane = lane; flag = false; recent = recent }

-- it is watched already, or there is no place for it
abbrev pub may_watch : List ChannelState → ℤ → Bool
may_watch cs id = cond (is_watched cs id) false (ltb (length cs) MAX_CHANNELS)

abbrev pub watched_if : Bool → List ChannelState → ChannelState → List ChannelState
watched_if true cs c = cs ++ c ∷ []
watched_if false cs c = cs

-- a channel is watched, last in order
abbrev pub added : List ChannelState → ChannelState → List ChannelState
added cs c = watched_if (may_watch cs c.id) cs c

abbrev pub watched : List ChannelState → ℤ → List ChannelState
watched cs id = added cs (channel_of id new_lane [])

-- updates

-- there was no room to hold the update
abbrev pub is_dropped : Seen → Bool
is_dropped (Applied to) = false
is_dropped Already = false
is_dropped Held = false
is_dropped Dropped = true

abbrev pub heard_by : ChannelState → Heard EventView → ChannelState
heard_by c h = record c { lane = h.state; flag = c.flag || is_dropped h.seen }

-- an update comes, with the numbers between which it stands in the channel's box; one that isn't watched changes nothing
abbrev pub heard : List ChannelState → ℤ → ℕ → ℕ → EventView → List ChannelState
heard cs id start end event = at_first (has_id id) (λ c. heard_by c (hear c.lane start end event)) cs

abbrev pub flagged : ChannelState → ChannelState
flagged c = record c { flag = true }

-- more is new in a channel than an update would carry
abbrev pub told_too_long : List ChannelState → ℤ → List ChannelState
told_too_long cs id = at_first (has_id id) flagged cs

-- each channel is to be asked about
abbrev pub woken : List ChannelState → List ChannelState
woken cs = map flagged cs

-- what is held goes, no answer is waited for, and no flag is set
abbrev pub forgot : ChannelState → ChannelState
forgot c = record c { lane = forget c.lane; flag = false }

abbrev pub forgotten : List ChannelState → List ChannelState
forgotten cs = map forgot cs

-- asking

abbrev pub is_asking : ℕ → Mode → Bool
is_asking n Live = false
is_asking n (Asking k) = eqb k n
is_asking n Again = false

-- whether a lane that isn't waiting is to ask: its flag is set, something is held, or the last answer was a part
abbrev pub is_due : Bool → ℕ → Mode → Bool
is_due flag held Live = flag || ltb 0 held
is_due flag held (Asking k) = false
is_due flag held Again = true

abbrev pub channel_is_due : ChannelState → Bool
channel_is_due c = is_due c.flag (map_of.len c.lane.held) c.lane.mode

abbrev pub channel_asks : ChannelState → ℕ → ChannelState
channel_asks c n = record c { lane = asked c.lane n; flag = false }

abbrev pub ask_of : ChannelState → ℕ → Numbered
ask_of c n = record { number = n; request = Channel c.id (pos c.lane.at) }

-- the next number, the channels, and what they ask
pub record Ticked : Type 0 where
  pub next : ℕ
  pub channels : List ChannelState
  pub asks : List Numbered

abbrev pub and_asks : ℕ → ChannelState → Ticked → Ticked
and_asks n c t = record { next = t.next; channels = channel_asks c n ∷ t.channels; asks = ask_of c n ∷ t.asks }

abbrev pub and_waits : ChannelState → Ticked → Ticked
and_waits c t = record t { channels = c ∷ t.channels }

-- each channel that is due asks, under numbers from n on, in order of watching
abbrev pub ticked : ℕ → List ChannelState → Ticked
ticked n [] = record { next = n; channels = []; asks = [] }
ticked n (c ∷ cs) = cond (channel_is_due c) (and_asks n c (ticked (n + 1) cs)) (and_waits c (ticked n cs))

-- answers

abbrev pub asks_number : ℕ → ChannelState → Bool
asks_number n c = is_asking n c.lane.mode

abbrev pub grown : ChannelState → Bool → Result (List EventView) WeaveFault → Result ChannelState WeaveFault
grown c last (Ok events) = Ok (record c { lane = extend count_of c.lane events last })
grown c last (Err cause) = Err cause

-- A channel after an answer. An empty one is woven of nothing. Where the channel was too far behind, its lane begins anew at the box's end,
-- and the messages are kept; whether that answer says that it is final isn't looked at.
abbrev pub replied : ChannelState → ChannelReply → Result ChannelState WeaveFault
replied c (Empty pts last) = grown c last (woven_of c.lane.at pts [] [])
replied c (Part pts news others last) = grown c last (woven_of c.lane.at pts news others)
replied c (TooLong pts recent last) = Ok (record c { lane = restart_at count_of c.lane pts; recent = recent })

-- what comes of an answer: nobody asks its number, it is refused, or it is taken
pub data Answered : Type 0 where
  stale : Answered
  refused : WeaveFault → Answered
  taken : List ChannelState → Answered

abbrev pub taken_by : List ChannelState → ℕ → Result ChannelState WeaveFault → Answered
taken_by cs n (Ok c) = taken (at_first (asks_number n) (λ _. c) cs)
taken_by cs n (Err cause) = refused cause

abbrev pub answered_by : List ChannelState → ℕ → ChannelReply → Option ChannelState → Answered
answered_by cs n r None = stale
answered_by cs n r (Some c) = taken_by cs n (replied c r)

-- the channel that asks the number takes the answer
abbrev pub answered : List ChannelState → ℕ → ChannelReply → Answered
answered cs n r = answered_by cs n r (first (asks_number n) cs)
