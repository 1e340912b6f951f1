-- Messages that are spelled and put into a pool. This project's own.
use Rattle.std.specs.Prelude.{◌≡◌, ◌⊎◌, ℕ, List, [], ◌∷◌, Result, Err}
use Rattle.box_events.specs.declared.replies.Frame.{Frame}
use Rattle.box_events.specs.declared.requests.Numbered.{Numbered}
use Rattle.wire_profile.specs.Indexes.{ProfileView}
use Rattle.wire_values.specs.Calls.{call_tree}
use Rattle.wire_values.specs.Frames.{frame_tree}
use Rattle.box_wire.specs.Framing.{Framed}
use Rattle.box_wire.specs.Kinds.{calls, frames}
use Rattle.box_world.specs.declared.fault.StepFault.{StepFault}
use Rattle.tl_base.specs.declared.fault.Fault.{Fault}
use Rattle.tl_base.specs.declared.fault.Fault.TheVariants.{Memory}
use Rattle.update_world.specs.declared.sent.SentPacket.{SentPacket}
use Rattle.update_world.specs.declared.sent.End.{End}
use Rattle.update_world.specs.declared.sent.End.TheVariants.{Server}
use Rattle.update_world.specs.inner.Pools.{Sends}

-- a frame is sent to an end
abbrev pub SendsFrame : ProfileView → Frame → End → List SentPacket → Result ℕ (Fault StepFault) → List SentPacket → Type 0
SendsFrame p f to old result new = (result ≡ Err Memory) ⊎ ((b : List ℕ) × Framed p frames (frame_tree f) b × Sends old (record { bytes = b; to = to } ∷ []) result new)

-- packets are the requests of client k, one by one
abbrev pub AreAsked : ProfileView → ℕ → List Numbered → List SentPacket → Type 0
AreAsked p k [] [] = Unit {0}
AreAsked p k (n ∷ ns) (s ∷ ss) = (s.to ≡ Server k) × Framed p calls (call_tree n) s.bytes × AreAsked p k ns ss
AreAsked p k [] (s ∷ ss) = ⊥
AreAsked p k (n ∷ ns) [] = ⊥

-- the requests of client k are sent, all or none of them
abbrev pub SendsCalls : ProfileView → ℕ → List Numbered → List SentPacket → Result ℕ (Fault StepFault) → List SentPacket → Type 0
SendsCalls p k asks old result new = (result ≡ Err Memory) ⊎ ((more : List SentPacket) × AreAsked p k asks more × Sends old more result new)
