-- A client's session over the link in hand, packet by packet: what is asked is sent before the next packet is taken. This project's own.
use Rattle.std.specs.Prelude.{◌≡◌, ℕ, ◌+◌, ltb, List, [], Bool, true, false, Option, Some, None, Result, Ok, Err}
use Rattle.tl_base.specs.declared.host.Slot.TheVariants.{Link}
use Rattle.tl_base.specs.declared.fault.Fault.{Fault}
use Rattle.tl_base.specs.declared.fault.Fault.TheVariants.{Refused, Memory}
use Rattle.tl_base.specs.declared.packet.PacketCause.TheVariants.{Ended}
use Rattle.box_events.specs.declared.replies.Frame.{Frame}
use Rattle.box_client.specs.States.{ClientState}
use Rattle.box_client.specs.Asking.{ticks, wakes, is_one_asking}
use Rattle.box_client.specs.declared.fault.ClientFault.{ClientFault}
use Rattle.wire_profile.specs.declared.wire_fault.WireFault.{WireFault}
use Rattle.wire_profile.specs.Indexes.{ProfileView}
use Rattle.box_wire.specs.Kinds.{frames}
use Rattle.box_wire.specs.Framing.{WireRefused}
use Rattle.outside.specs.Events.{Event}
use Rattle.outside.specs.Packets.{PacketView, whole, none, wrong, broken, TakesPacket}
use Rattle.outside.specs.Steps.{Step, Turn, again, leave, Ends, Then, Loops}
use Rattle.update_sessions.specs.declared.fault.SessionFault.{SessionFault}
use Rattle.update_sessions.specs.declared.fault.SessionFault.TheVariants.{Packet, Wire, Client, TooManyFrames, LinkFault}
use Rattle.update_sessions.specs.declared.fault.TheConstants.{MAX_FRAMES}
use Rattle.update_sessions.specs.Hearing.{IsTaken, hears}
use Rattle.update_sessions.specs.Packed.{MeansFrame, SpellsCall}
use Rattle.update_sessions.specs.Turns.{RefusesFrame}
use Rattle.session_rooms.specs.Sending.{Sends}

-- the client after it, or why there was no more
abbrev pub Outcome : Type 0
Outcome = Result ClientState SessionFault

-- ---- one packet

-- what was due was sent, or the link failed
abbrev pub after_asking : ClientState → Bool → Step Outcome
after_asking d true = Ends (Ok d)
after_asking d false = Ends (Err LinkFault)

-- what is due is asked
abbrev pub Asks : ProfileView → ClientState → Step Outcome
Asks p c = Then (Sends (SpellsCall p) (ticks c).asks) (after_asking (ticks c).client)

-- A packet's bytes are no frame; or the client refuses their frame; or it takes it, and what is due then is asked.
pub data HearsBytes (p : ProfileView) (c : ClientState) (bytes : List ℕ) (t : List Event) (r : Outcome) : Type 0 where
  no_frame : (fault : WireFault) → WireRefused p frames bytes fault → t ≡ [] → r ≡ Err (Wire fault) → HearsBytes p c bytes t r
  refused : (fault : ClientFault) → RefusesFrame p c bytes fault → t ≡ [] → r ≡ Err (Client fault) → HearsBytes p c bytes t r
  heard : (f : Frame) → MeansFrame p f bytes → IsTaken c f → Asks p (hears c f) t r → HearsBytes p c bytes t r

-- what follows of the next packet, or of none
abbrev pub after_packet : ProfileView → ClientState → PacketView → Step Outcome
after_packet p c (whole bytes) = HearsBytes p c bytes
after_packet p c none = Ends (Err (Packet (Ended 0)))
after_packet p c (wrong cause) = Ends (Err (Packet cause))
after_packet p c broken = Ends (Err LinkFault)

abbrev pub HearsNext : ProfileView → ClientState → Step Outcome
HearsNext p c = Then (TakesPacket Link) (after_packet p c)

-- ---- the session

-- a client, after so many frames
abbrev pub Heard : Type 0
Heard = ClientState × ℕ

abbrev pub turn_of : ℕ → Outcome → Turn Heard Outcome
turn_of n (Ok d) = again (d, n + 1)
turn_of n (Err fault) = leave (Err fault)

-- where nothing is asked any more, that is the session's end; where so many frames were heard as a session has, it ends too; else the next packet is taken
abbrev pub hears_by : ProfileView → Bool → Bool → Heard → Step (Turn Heard Outcome)
hears_by p false more (c, n) = Ends (leave (Ok c))
hears_by p true false (c, n) = Ends (leave (Err TooManyFrames))
hears_by p true true (c, n) = Then (HearsNext p c) (λ r. Ends (turn_of n r))

abbrev pub HearsOn : ProfileView → Heard → Step (Turn Heard Outcome)
HearsOn p (c, n) = hears_by p (is_one_asking c) (ltb n MAX_FRAMES) (c, n)

abbrev pub after_begin : ProfileView → Outcome → Step Outcome
after_begin p (Ok c) = Loops (HearsOn p) (c, 0)
after_begin p (Err fault) = Ends (Err fault)

-- all that is new is asked, and then frames are heard until nothing is asked any more
abbrev pub Converses : ProfileView → ClientState → Step Outcome
Converses p c = Then (Asks p (wakes c)) (after_begin p)

-- ---- what calls answer; none where they ran out of memory

abbrev pub outcome : ClientState → Result (Unit {0}) (Fault SessionFault) → Option Outcome
outcome d (Ok u) = Some (Ok d)
outcome d (Err (Refused fault)) = Some (Err fault)
outcome d (Err Memory) = None
