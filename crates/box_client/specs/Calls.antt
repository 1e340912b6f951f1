-- What the calls do, by what they answer. This project's own.
use Rattle.std.specs.Prelude.{◌≡◌, ◌≢◌, ℤ, ◌<◌, ◌≤◌, [], ◌∷◌, ◌++◌, length, true, false, Result, Ok, Err}
use Rattle.box_events.specs.declared.limits.TheConstants.{MAX_CHANNELS}
use Rattle.tl_base.specs.declared.fault.Fault.{Fault}
use Rattle.tl_base.specs.declared.fault.Fault.TheVariants.{Refused, Memory}
use Rattle.pts_machine.specs.Steps.{new_lane}
use Rattle.channel_box.specs.declared.fault.WatchFault.{WatchFault}
use Rattle.channel_box.specs.declared.fault.WatchFault.TheVariants.{Already, TooMany, Memory as WatchMemory}
use Rattle.channel_box.specs.Steps.{is_watched, channel_of}
use Rattle.box_client.specs.declared.fault.ClientFault.{ClientFault}
use Rattle.box_client.specs.declared.fault.ReplyOutcome.{ReplyOutcome}
use Rattle.box_client.specs.declared.fault.ReplyOutcome.TheVariants.{Reply as Taken, Stale}
use Rattle.box_client.specs.States.{ClientState}
use Rattle.box_client.specs.Replies.{Outcome, ignored, refuses, becomes}

-- What a call answers, by what comes of the answer that it was handed. Only where somebody asks its number is memory asked for.
abbrev pub Answers : ClientState → Outcome → Result ReplyOutcome (Fault ClientFault) → ClientState → Type 0
Answers old o (Ok Taken) new = o ≡ becomes new
Answers old o (Ok Stale) new = (o ≡ ignored) × (new ≡ old)
Answers old o (Err (Refused cause)) new = (o ≡ refuses cause) × (new ≡ old)
Answers old o (Err Memory) new = (o ≢ ignored) × (new ≡ old)

-- each cause of a refused watch, after which the client is as before; else the channel is watched, last in order
abbrev pub WatchesOne : ClientState → ℤ → Result (Unit {0}) WatchFault → ClientState → Type 0
WatchesOne old id (Ok done) new = (is_watched old.channels id ≡ false) × (length old.channels < MAX_CHANNELS) × (new ≡ record old { channels = old.channels ++ channel_of id new_lane [] ∷ [] })
WatchesOne old id (Err Already) new = (is_watched old.channels id ≡ true) × (new ≡ old)
WatchesOne old id (Err TooMany) new = (is_watched old.channels id ≡ false) × (MAX_CHANNELS ≤ length old.channels) × (new ≡ old)
WatchesOne old id (Err WatchMemory) new = (is_watched old.channels id ≡ false) × (length old.channels < MAX_CHANNELS) × (new ≡ old)
