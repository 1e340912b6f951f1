-- Laws of channels. This project's own.
use Rattle.std.specs.Prelude.{◌≡◌, ℕ, List, Bool, Ok}
use Rattle.box_events.specs.Events.{EventView}
use Rattle.box_events.specs.declared.replies.ChannelReply.TheVariants.{TooLong}
use Rattle.channel_box.specs.States.{ChannelState}
use Rattle.channel_box.specs.Steps.{replied}

-- An answer that a channel was too far behind leaves none of its events: whatever they were, the channel after it is the same, and begins where the
-- answer says.
pub record LeavesNoEvents : Type 0 where
  pub same : (c : ChannelState) (events : List EventView) (pts : ℕ) (recent : List (List ℕ)) (last : Bool)
      → replied (record c { lane = record c.lane { events = events } }) (TooLong pts recent last) ≡ replied c (TooLong pts recent last)
  pub begins : (c : ChannelState) (pts : ℕ) (recent : List (List ℕ)) (last : Bool)
      → (d : ChannelState) × (replied c (TooLong pts recent last) ≡ Ok d) × (d.lane.restart ≡ pts)
