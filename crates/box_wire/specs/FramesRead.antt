-- What reading bytes as a frame answers. This project's own.
use Rattle.std.specs.Prelude.{List, ℕ, Result}
use Rattle.box_events.specs.declared.replies.Frame.{Frame}
use Rattle.wire_profile.specs.Indexes.{ProfileView}
use Rattle.wire_profile.specs.declared.wire_fault.WireFault.{WireFault}
use Rattle.wire_profile.specs.declared.wire_fault.WireFault.TheVariants as wire
use Rattle.wire_values.specs.CarriedFrames.{IsFrame}
use Rattle.wire_values.specs.Frames.{frame_tree}
use Rattle.tl_base.specs.declared.fault.Fault.{Fault}
use Rattle.tl_base.specs.declared.fault.Fault.TheVariants as fault
use Rattle.box_wire.specs.Answers.{Reads}
use Rattle.box_wire.specs.Framing.{Means, WireRefused}
use Rattle.box_wire.specs.Kinds.{frames}

-- bytes are no value: none begins them, or bytes follow it; or memory ran out
abbrev pub IsUnread : Fault WireFault → Type 0
IsUnread (fault.Refused (wire.Refused place cause)) = Unit {0}
IsUnread (fault.Refused (wire.Trailing place)) = Unit {0}
IsUnread (fault.Refused other) = ⊥
IsUnread fault.Memory = Unit {0}

abbrev pub ReadsFrame : ProfileView → List ℕ → Result Frame (Fault WireFault) → Type 0
ReadsFrame p bytes result = Reads IsFrame (λ m. Means p frames (frame_tree m) bytes) (WireRefused p frames bytes) result
