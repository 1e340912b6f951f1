-- How a session can end: something is told of each end.
use Rattle.std.proofs.Common.{◌≡◌, codes, ℕ, ◌+◌, ltb, List, Bool, true, false, Result, Ok, Err, refl, sym, subst}
use Rattle.tl_base.specs.declared.host.Slot.TheVariants.{Link}
use Rattle.box_events.specs.declared.requests.Numbered.{Numbered}
use Rattle.box_server.specs.Servers.{ServerState}
use Rattle.wire_profile.specs.Indexes.{ProfileView}
use Rattle.fault_lines.specs.Answers.{answer_line}
use Rattle.fault_lines.specs.Messages.{wire_line}
use Rattle.tl_base.specs.declared.packet.PacketCause.TheVariants.{BadLength, Ended}
use Rattle.outside.specs.Events.{Event, Outside}
use Rattle.outside.specs.Packets.{PacketView, whole, TakesPacket}
use Rattle.outside.specs.Packets as packets
use Rattle.outside.specs.Steps.{Turn, again, leave}
use Rattle.outside.specs.Fits.{Fits}
use Rattle.update_sessions.specs.declared.fault.SessionFault.{SessionFault}
use Rattle.update_sessions.specs.declared.fault.SessionFault.TheVariants as session
use Rattle.update_sessions.specs.declared.fault.TheConstants.{MAX_FRAMES}
use Rattle.update_sessions.specs.Serving.{after_request}
use Rattle.fault_lines.specs.Packets.{packet_line}
use Rattle.session_commands.specs.Serve.{served, peer_fault, link_fault, IsShortEnd, end_of}
use Rattle.session_commands.specs.SessionEnds.{IsShort, many_frames_line}
use Rattle.session_rooms.proofs.LeftPackets.{packet_left}
use Rattle.serve_rooms.specs.Acts.{Act, events_in}
use Rattle.serve_rooms.specs.Answering.{Answered, goes_on, has_ended, fails, unkept, after_sending, after_adding, AnswersBytes, no_call, answers, after_packet, AnswersNext, Session, over, lost, Served, turn_of, answers_by, AnswersAll}
use Rattle.serve_rooms.proofs.AnsweredBytes.{fits_hosted, fits_parts}

abbrev pub IsKnown : Session → Type 0
IsKnown (over s end) = IsShortEnd end
IsKnown lost = Unit {0}

abbrev CanEnd : Answered → Type 0
CanEnd (goes_on s) = Unit {0}
CanEnd (has_ended s) = Unit {0}
CanEnd (fails s fault) = IsShort fault
CanEnd unkept = Unit {0}

left_is : (r q : Session) → ◌≡◌ {A = Turn Served Session} (leave r) (leave q) → q ≡ r
left_is r q is = cc

module _ (p : ProfileView) where
  sent_known : (s : ServerState) (ok : Bool) (t : List Act) (r : Answered) → after_sending s ok t r → CanEnd r
  sent_known s true t r h = subst CanEnd (sym h.1) tt
  sent_known s false t r h = subst CanEnd (sym h.1) tt

  added_known : (s : ServerState) (c : Numbered) (ok : Bool) (t : List Act) (r : Answered) → after_adding p s c ok t r → CanEnd r
  added_known s c true t r h = sent_known (after_request s c.request) h.between h.rest r h.goes
  added_known s c false t r h = subst CanEnd (sym h.1) tt

  bytes_known : (s : ServerState) (bytes : List ℕ) (t : List Act) (r : Answered) → AnswersBytes p s bytes t r → CanEnd r
  bytes_known s bytes t r (no_call fault refuses none is) = subst CanEnd (sym is) tt
  bytes_known s bytes t r (answers c means h) = added_known s c h.between h.rest r h.goes

  packet_known : (s : ServerState) (v : PacketView) (t : List Event) (u : List Act) (r : Answered) (a m : Outside) → TakesPacket Link t v → Fits t a m → after_packet p s v u r → CanEnd r
  packet_known s (whole bytes) t u r a m takes f h = bytes_known s bytes u r h
  packet_known s packets.none t u r a m takes f h = subst CanEnd (sym h.1) tt
  packet_known s (packets.wrong (BadLength n)) t u r a m takes f h = subst CanEnd (sym h.1) (packet_left Link t (packets.wrong (BadLength n)) a m takes f).0
  packet_known s (packets.wrong (Ended had)) t u r a m takes f h = subst CanEnd (sym h.1) tt
  packet_known s packets.broken t u r a m takes f h = subst CanEnd (sym h.1) tt

  next_known : (s : ServerState) (t : List Act) (r : Answered) (a b : Outside) → AnswersNext p s t r → Fits (events_in t) a b → CanEnd r
  next_known s t r a b h f =
      let parts = fits_parts t h.first h.rest a b h.splits f in
      packet_known s h.between h.does.0 h.rest r a parts.0 h.does.2 (fits_hosted h.first h.does.0 a parts.0 h.does.1 parts.1) h.goes

  turn_known : (n : ℕ) (r : Answered) (q : Session) → CanEnd r → leave q ≡ turn_of n r → IsKnown q
  turn_known n (goes_on s) q known is = absurd (let no : ◌≡◌ {A = Turn Served Session} (leave q) (again (s, n + 1)) = is in cc)
  turn_known n (has_ended s) q known is = subst IsKnown (left_is q (over s (Ok n)) is) tt
  turn_known n (fails s fault) q known is = subst IsKnown (left_is q (over s (Err fault)) is) known
  turn_known n unkept q known is = subst IsKnown (left_is q lost is) tt

  by_known : (goes : Bool) (s : ServerState) (n : ℕ) (t : List Act) (q : Session) (a b : Outside) → answers_by p goes (s, n) t (leave q) → Fits (events_in t) a b → IsKnown q
  by_known false s n t q a b h f = subst IsKnown (left_is q (over s (Err session.TooManyFrames)) h.1) tt
  by_known true s n t q a b h f =
      let parts = fits_parts t h.first h.rest a b h.splits f in
      turn_known n h.between q (next_known s h.first h.between a parts.0 h.does parts.1) h.goes.1

  pub session_known : (s : ServerState) (t : List Act) (q : Session) (a b : Outside) → AnswersAll p s t q → Fits (events_in t) a b → IsKnown q
  session_known s t q a b h f =
      let parts = fits_parts t h.first h.rest a b h.splits f in
      by_known (ltb h.between.1 MAX_FRAMES) h.between.0 h.between.1 h.rest q parts.0 b h.goes parts.2

-- ---- a link's fault alone ends a session so

pub failed_end : (r : Result ℕ SessionFault) → end_of r ≡ link_fault → r ≡ Err session.LinkFault
failed_end (Ok n) is = absurd (let no : served n ≡ link_fault = is in cc)
failed_end (Err (session.Packet f)) is = absurd (let no : peer_fault (packet_line f) ≡ link_fault = is in cc)
failed_end (Err (session.Wire f)) is = absurd (let no : peer_fault (wire_line (codes "peer") f) ≡ link_fault = is in cc)
failed_end (Err (session.Client f)) is = absurd (let no : peer_fault (answer_line f) ≡ link_fault = is in cc)
failed_end (Err session.TooManyFrames) is = absurd (let no : peer_fault many_frames_line ≡ link_fault = is in cc)
failed_end (Err session.LinkFault) is = refl
