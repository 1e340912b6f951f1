-- Frames and calls that are read as they were spelled, and frames that a client can take. This project's own.
use Rattle.std.specs.Prelude.{◌≡◌, ℕ, ◌<◌, ◌≤◌, ◌^◌, None}
use Rattle.box_events.specs.declared.replies.Frame.{Frame}
use Rattle.box_events.specs.declared.replies.Frame.TheVariants.{Push, Reply}
use Rattle.box_events.specs.declared.requests.Numbered.{Numbered}
use Rattle.box_client.specs.Ranges.{IsPushInRange, IsReplyInRange}
use Rattle.wire_values.specs.Calls.{call_tree}
use Rattle.wire_values.specs.CarriedFrames.{IsFrame}
use Rattle.wire_values.specs.Frames.{frame_tree}
use Rattle.box_wire.specs.Kinds.{calls, frames}

-- a frame is its value's again, and has no cause
pub record FrameFits (f : Frame) : Type 0 where
  pub is : IsFrame f
  pub clear : frames.cause (frame_tree f) ≡ None

-- a call has no cause
abbrev pub CallFits : Numbered → Type 0
CallFits n = calls.cause (call_tree n) ≡ None

-- the number of a request: from 1, below 2 ^ 31
abbrev pub IsNumber : ℕ → Type 0
IsNumber n = (1 ≤ n) × (n < 2 ^ 31)

-- a client can take the frame
abbrev pub IsHearable : Frame → Type 0
IsHearable (Push p) = IsPushInRange p
IsHearable (Reply n r) = IsReplyInRange r
