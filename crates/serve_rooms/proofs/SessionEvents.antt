-- Which events a server's session has: it reads and writes the link alone.
use Rattle.std.proofs.Common.{ℕ, ltb, List, [], ◌∷◌, map, Bool, true, false, sym, subst}
use Rattle.tl_base.specs.declared.host.Out.TheVariants as outs
use Rattle.tl_base.specs.declared.host.Slot.TheVariants as slots
use Rattle.box_events.specs.declared.requests.Numbered.{Numbered}
use Rattle.box_server.specs.Servers.{ServerState}
use Rattle.box_server.specs.declared.entry.Entry.{Entry}
use Rattle.wire_profile.specs.Indexes.{ProfileView}
use Rattle.outside.specs.Events.{Event, took, ended, read_failed, put, write_failed}
use Rattle.outside.specs.Laws.{Throughout, Keeps}
use Rattle.outside.specs.Packets.{PacketView, whole, TakesPacket}
use Rattle.outside.specs.Packets as packets
use Rattle.outside.specs.Steps.{Step, StepOf, Calls}
use Rattle.outside.proofs.Causing.{keeps_call, keeps_end, keeps_loop, keeps_then}
use Rattle.outside.proofs.TakenPackets.{keeps_packet}
use Rattle.update_sessions.specs.declared.fault.SessionFault.TheVariants as session
use Rattle.update_sessions.specs.declared.fault.TheConstants.{MAX_FRAMES}
use Rattle.update_sessions.specs.Kept.{kept_for}
use Rattle.update_sessions.specs.Packed.{SpellsFrame}
use Rattle.update_sessions.specs.Serving.{after_request, sent_for}
use Rattle.session_rooms.proofs.SentMessages.{keeps_send}
use Rattle.serve_rooms.specs.Acts.{Act, hosted, loaded, added, events_in}
use Rattle.serve_rooms.specs.Answering.{goes_on, fails, unkept, if_added, Adds, after_sending, after_adding, AnswersBytes, no_call, answers, after_packet, AnswersNext, Session, Served, turn_of, answers_by, AnswersOn, AnswersAll}
use Rattle.serve_rooms.specs.Doing.{Hosted}

module _ (P : Event → Type 0) where
  -- what the host does is such
  abbrev IsHosted : Act → Type 0
  IsHosted (hosted e) = P e
  IsHosted (loaded by) = Unit {0}
  IsHosted (added e ok) = Unit {0}

  hosted_all : (t : List Act) → Throughout IsHosted t → Throughout P (events_in t)
  hosted_all [] h = tt
  hosted_all (hosted e ∷ t) h = (h.0, hosted_all t h.1)
  hosted_all (loaded by ∷ t) h = hosted_all t h.1
  hosted_all (added e ok ∷ t) h = hosted_all t h.1

  all_hosted : (t : List Event) → Throughout P t → Throughout IsHosted (map (λ e. hosted e) t)
  all_hosted [] h = tt
  all_hosted (e ∷ t) h = (h.0, all_hosted t h.1)

  keeps_host : {A : Type 0} (S : Step A) → Keeps P S → Keeps IsHosted (Hosted S)
  keeps_host S keep t a (events, is, h) = subst (Throughout IsHosted) (sym is) (all_hosted events (keep events a h))

  keeps_if : (S : StepOf Act Bool) → Keeps IsHosted S → (ok : Bool) → Keeps IsHosted (if_added ok S)
  keeps_if S keep true = keep
  keeps_if S keep false = keeps_end IsHosted false

  keeps_adds : (es : List Entry) → Keeps IsHosted (Adds es)
  keeps_adds [] = keeps_end IsHosted true
  keeps_adds (e ∷ es) = keeps_then IsHosted (Calls (added e)) _ (keeps_call IsHosted (added e) (λ ok. tt)) (keeps_if (Adds es) (keeps_adds es))

  keeps_sent : (s : ServerState) (ok : Bool) → Keeps IsHosted (after_sending s ok)
  keeps_sent s true = keeps_end IsHosted (goes_on s)
  keeps_sent s false = keeps_end IsHosted (fails s session.LinkFault)

  module _ (sends : (piece : List ℕ) → P (put outs.Link piece)) (unsent : P (write_failed outs.Link)) (takes : (piece : List ℕ) → P (took slots.Link piece)) (last : P (ended slots.Link)) (untaken : P (read_failed slots.Link)) (p : ProfileView) where
    keeps_added : (s : ServerState) (c : Numbered) (ok : Bool) → Keeps IsHosted (after_adding p s c ok)
    keeps_added s c true = keeps_then IsHosted _ _ (keeps_host _ (keeps_send (SpellsFrame p) P sends unsent (sent_for s c.number c.request))) (keeps_sent (after_request s c.request))
    keeps_added s c false = keeps_end IsHosted unkept

    keeps_bytes : (s : ServerState) (bytes : List ℕ) → Keeps IsHosted (AnswersBytes p s bytes)
    keeps_bytes s bytes t r (no_call fault refuses none is) = subst (Throughout IsHosted) (sym none) tt
    keeps_bytes s bytes t r (answers c means h) = keeps_then IsHosted (Adds (kept_for s c.request)) (after_adding p s c) (keeps_adds (kept_for s c.request)) (keeps_added s c) t r h

    keeps_taken : (s : ServerState) (v : PacketView) → Keeps IsHosted (after_packet p s v)
    keeps_taken s (whole bytes) = keeps_bytes s bytes
    keeps_taken s packets.none = keeps_end IsHosted _
    keeps_taken s (packets.wrong cause) = keeps_end IsHosted _
    keeps_taken s packets.broken = keeps_end IsHosted _

    keeps_next : (s : ServerState) → Keeps IsHosted (AnswersNext p s)
    keeps_next s = keeps_then IsHosted _ _ (keeps_host (TakesPacket slots.Link) (keeps_packet slots.Link P takes last untaken)) (keeps_taken s)

    keeps_turn : (goes : Bool) (x : Served) → Keeps IsHosted (answers_by p goes x)
    keeps_turn false (s, n) = keeps_end IsHosted _
    keeps_turn true (s, n) = keeps_then IsHosted _ _ (keeps_next s) (λ r. keeps_end IsHosted (turn_of n r))

    keeps_on : (x : Served) → Keeps IsHosted (AnswersOn p x)
    keeps_on (s, n) = keeps_turn (ltb n MAX_FRAMES) (s, n)

    pub session_keeps : (s : ServerState) (t : List Act) (r : Session) → AnswersAll p s t r → Throughout P (events_in t)
    session_keeps s t r h = hosted_all t (keeps_loop IsHosted (AnswersOn p) keeps_on (s, 0) t r h)
