-- A server's session over the link in hand, packet by packet: a new post is kept before anything is sent for it, and all that is sent for a call goes out before
-- the next packet is taken. This project's own.
use Rattle.std.specs.Prelude.{◌≡◌, ℕ, ◌+◌, ltb, List, [], ◌∷◌, Bool, true, false, Result, Ok, Err}
use Rattle.tl_base.specs.declared.host.Slot.TheVariants.{Link}
use Rattle.box_events.specs.declared.requests.Numbered.{Numbered}
use Rattle.box_server.specs.Servers.{ServerState}
use Rattle.box_server.specs.declared.entry.Entry.{Entry}
use Rattle.wire_profile.specs.declared.wire_fault.WireFault.{WireFault}
use Rattle.wire_profile.specs.Indexes.{ProfileView}
use Rattle.box_wire.specs.Kinds.{calls}
use Rattle.box_wire.specs.Framing.{WireRefused}
use Rattle.outside.specs.Packets.{PacketView, whole, none, wrong, broken, TakesPacket}
use Rattle.outside.specs.Steps.{StepOf, Turn, again, leave, Calls, Ends, Then, Loops}
use Rattle.update_sessions.specs.declared.fault.SessionFault.{SessionFault}
use Rattle.update_sessions.specs.declared.fault.SessionFault.TheVariants.{Packet, Wire, TooManyFrames, LinkFault}
use Rattle.update_sessions.specs.declared.fault.TheConstants.{MAX_FRAMES}
use Rattle.update_sessions.specs.Kept.{kept_for}
use Rattle.update_sessions.specs.Packed.{MeansCall, SpellsFrame}
use Rattle.update_sessions.specs.Serving.{after_request, sent_for}
use Rattle.session_rooms.specs.Sending.{Sends}
use Rattle.serve_rooms.specs.Acts.{Act, added}
use Rattle.serve_rooms.specs.Doing.{Hosted}

-- ---- one packet

-- the server goes on; the link has ended; the session fails; or the keeper failed
pub data Answered : Type 0 where
  goes_on : (server : ServerState) → Answered
  has_ended : (server : ServerState) → Answered
  fails : (server : ServerState) (fault : SessionFault) → Answered
  unkept : Answered

abbrev pub if_added : Bool → StepOf Act Bool → StepOf Act Bool
if_added true S = S
if_added false S = Ends false

-- entries are added in turn, until one isn't
abbrev pub Adds : List Entry → StepOf Act Bool
Adds [] = Ends true
Adds (e ∷ es) = Then (Calls (added e)) (λ ok. if_added ok (Adds es))

-- what is sent for a call was sent, or the link failed
abbrev pub after_sending : ServerState → Bool → StepOf Act Answered
after_sending t true = Ends (goes_on t)
after_sending t false = Ends (fails t LinkFault)

-- what a call adds to the entries was added; or that failed, and nothing is sent
abbrev pub after_adding : ProfileView → ServerState → Numbered → Bool → StepOf Act Answered
after_adding p s c true = Then (Hosted (Sends (SpellsFrame p) (sent_for s c.number c.request))) (after_sending (after_request s c.request))
after_adding p s c false = Ends unkept

-- a packet's bytes are no call; or they mean one, which is answered
pub data AnswersBytes (p : ProfileView) (s : ServerState) (bytes : List ℕ) (t : List Act) (r : Answered) : Type 0 where
  no_call : (fault : WireFault) → WireRefused p calls bytes fault → t ≡ [] → r ≡ fails s (Wire fault) → AnswersBytes p s bytes t r
  answers : (c : Numbered) → MeansCall p c bytes → Then (Adds (kept_for s c.request)) (after_adding p s c) t r → AnswersBytes p s bytes t r

-- what follows of the next packet, or of none
abbrev pub after_packet : ProfileView → ServerState → PacketView → StepOf Act Answered
after_packet p s (whole bytes) = AnswersBytes p s bytes
after_packet p s none = Ends (has_ended s)
after_packet p s (wrong cause) = Ends (fails s (Packet cause))
after_packet p s broken = Ends (fails s LinkFault)

abbrev pub AnswersNext : ProfileView → ServerState → StepOf Act Answered
AnswersNext p s = Then (Hosted (TakesPacket Link)) (after_packet p s)

-- ---- the session

-- the server after it, with the number of calls that were answered, or why there were no more; or the keeper failed
pub data Session : Type 0 where
  over : (server : ServerState) (end : Result ℕ SessionFault) → Session
  lost : Session

-- a server, after so many calls
abbrev pub Served : Type 0
Served = ServerState × ℕ

abbrev pub turn_of : ℕ → Answered → Turn Served Session
turn_of n (goes_on t) = again (t, n + 1)
turn_of n (has_ended t) = leave (over t (Ok n))
turn_of n (fails t fault) = leave (over t (Err fault))
turn_of n unkept = leave lost

-- after so many calls as a session has it ends; else the next packet is taken
abbrev pub answers_by : ProfileView → Bool → Served → StepOf Act (Turn Served Session)
answers_by p false (s, n) = Ends (leave (over s (Err TooManyFrames)))
answers_by p true (s, n) = Then (AnswersNext p s) (λ r. Ends (turn_of n r))

abbrev pub AnswersOn : ProfileView → Served → StepOf Act (Turn Served Session)
AnswersOn p (s, n) = answers_by p (ltb n MAX_FRAMES) (s, n)

-- calls are answered until the link ends
abbrev pub AnswersAll : ProfileView → ServerState → StepOf Act Session
AnswersAll p s = Loops (AnswersOn p) (s, 0)
