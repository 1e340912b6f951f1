-- What the calls do, by what they answer. This project's own.
use Rattle.std.specs.Prelude.{◌≡◌, ◌≢◌, ℕ, ◌≤◌, ◌<◌, ◌^◌, ℤ, List, [], ◌∷◌, ◌++◌, length, Bool, true, false, cond, None, Result, Ok, Err, suc}
use Rattle.std.specs.Ordering.{int_eq}
use Rattle.box_events.specs.declared.limits.TheConstants.{MAX_CHANNELS, MAX_END}
use Rattle.box_events.specs.declared.updates.Update.{Update}
use Rattle.box_events.specs.declared.updates.Update.TheVariants.{Common, Secret, Channel, ChannelTooLong, Setting}
use Rattle.box_events.specs.declared.replies.ChannelReply.{ChannelReply}
use Rattle.box_events.specs.declared.replies.ChannelReply.TheVariants.{Empty, Part, TooLong}
use Rattle.box_events.specs.declared.difference_fault.WeaveFault.{WeaveFault}
use Rattle.tl_base.specs.declared.fault.Fault.{Fault}
use Rattle.tl_base.specs.declared.fault.Fault.TheVariants.{Refused, Memory}
use Rattle.box_events.specs.Refusal.{AreOthers}
use Rattle.box_events.specs.DifferenceLaws.{AreCountedOthers}
use Rattle.channel_box.specs.declared.fault.WatchFault.{WatchFault}
use Rattle.channel_box.specs.declared.fault.WatchFault.TheVariants.{Already, TooMany, Memory as NoMemory}
use Rattle.channel_box.specs.States.{ChannelState, ChannelView, states, first, spare_of}
use Rattle.channel_box.specs.Steps.{is_watched, asks_number, stale, refused, taken, answered}

-- each cause of a refused watch, after which the channels are as before; else the channel is watched, last in order
abbrev pub Watches : List ChannelView → ChannelState → Result (Unit {0}) WatchFault → List ChannelView → Type 0
Watches old c (Ok done) new = (is_watched (states old) c.id ≡ false) × (length old < MAX_CHANNELS) × (states new ≡ states old ++ c ∷ [])
Watches old c (Err Already) new = (is_watched (states old) c.id ≡ true) × (new ≡ old)
Watches old c (Err TooMany) new = (is_watched (states old) c.id ≡ false) × (MAX_CHANNELS ≤ length old) × (new ≡ old)
Watches old c (Err NoMemory) new = (is_watched (states old) c.id ≡ false) × (length old < MAX_CHANNELS) × (new ≡ old)

-- An answer is taken; nobody asks its number; or it is refused, and only where somebody asks is memory asked for.
abbrev pub Replies : List ChannelView → ℕ → ChannelReply → Result Bool (Fault WeaveFault) → List ChannelView → Type 0
Replies old n r (Ok true) new = answered (states old) n r ≡ taken (states new)
Replies old n r (Ok false) new = (answered (states old) n r ≡ stale) × (new ≡ old)
Replies old n r (Err (Refused cause)) new = (answered (states old) n r ≡ refused cause) × (states new ≡ states old)
Replies old n r (Err Memory) new = (first (asks_number n) (states old) ≢ None) × (states new ≡ states old)

-- What comes of an answer to one channel, by what it makes of it: the channel that it makes, or its cause; else all is as before.
abbrev pub Comes : ChannelState → Result ChannelState WeaveFault → Result (Unit {0}) (Fault WeaveFault) → ChannelState → Type 0
Comes old made (Ok done) new = made ≡ Ok new
Comes old made (Err (Refused cause)) new = (made ≡ Err cause) × (new ≡ old)
Comes old made (Err Memory) new = new ≡ old

-- no channel has less room
abbrev pub KeepsRoom : List ChannelView → List ChannelView → Type 0
KeepsRoom old new = (id : ℤ) → spare_of old id ≤ spare_of new id

-- how many of the updates are for a channel
abbrev pub updates_for : ℤ → List Update → ℕ
updates_for id [] = 0
updates_for id (Common event pts ∷ us) = updates_for id us
updates_for id (Secret body qts ∷ us) = updates_for id us
updates_for id (Channel k event pts ∷ us) = cond (int_eq k id) (suc (updates_for id us)) (updates_for id us)
updates_for id (ChannelTooLong k ∷ us) = updates_for id us
updates_for id (Setting setting ∷ us) = updates_for id us

-- each watched channel has room for its updates
abbrev pub HasRoomFor : List ChannelView → List Update → Type 0
HasRoomFor vs us = (id : ℤ) → is_watched (states vs) id ≡ true → updates_for id us ≤ spare_of vs id

-- an answer's numbers are numbers of a box, its other events are no messages and count, and its messages are fewer than 2^31
abbrev pub IsInRange : ChannelReply → Type 0
IsInRange (Empty pts last) = pts ≤ MAX_END
IsInRange (Part pts news others last) = (pts ≤ MAX_END) × (length news < 2 ^ 31) × AreOthers others × AreCountedOthers others
IsInRange (TooLong pts recent last) = pts ≤ MAX_END
