-- What is left of a client, and how a session's fault is told.
use Rattle.std.proofs.Common.{◌≡◌, ℕ, List, [], true, false, Option, Some, None, Ok, Err, Vec, Global, sym, ap, ◌∙◌, subst}
use Rattle.tl_base.specs.declared.host.Out.TheVariants as outs
use Rattle.box_client.specs.States.{ClientState}
use Rattle.wire_profile.specs.Indexes.{ProfileView}
use Rattle.outside.specs.Answer.{done, link_fault_line, memory_line, write_fault_line}
use Rattle.outside.specs.declared.status.Status.{Status}
use Rattle.outside.specs.declared.status.Status.TheVariants.{LinkFault, Memory, PeerFault, WriteFault}
use Rattle.outside.specs.declared.stop.Stop.TheVariants as stop
use Rattle.outside.specs.Events.{HostState, created}
use Rattle.outside.specs.Pieces.{Tells, Writes}
use Rattle.outside.specs.Printing.{Prints}
use Rattle.outside.specs.Begun.{Did, DidIn, to_link}
use Rattle.outside.specs.Steps.{Begins, Calls, Then}
use Rattle.outside.proofs.Growing.{did_any, did_both, did_none, did_stop, did_then}
use Rattle.outside.proofs.Piecewise.{can_tell}
use Rattle.codec_rooms.proofs.Typing.{did_as}
use Rattle.update_sessions.specs.declared.fault.SessionFault.{SessionFault}
use Rattle.update_sessions.specs.declared.fault.SessionFault.TheVariants as session
use Rattle.session_commands.specs.Client.{client_line}
use Rattle.session_commands.specs.SessionEnds.{TellsSession, session_line}
use Rattle.session_commands.specs.declared.saving.SavedState.{SavedState}
use Rattle.session_commands.specs.inner.Recovering.{LeavesOf}
use Rattle.session_rooms.proofs.Conversed.{may_converse}
use Rattle.session_rooms.specs.Client.{Leaves, no_memory, saves, after_connect, after_create, after_session, after_state, ends_by}
use Rattle.session_rooms.specs.Conversing.{Converses, Outcome, outcome}

-- memory may run out
pub can_leave : (p : ProfileView) (name : List ℕ) (c : ClientState) → Begins (Leaves p name c) []
can_leave p name c = let m = can_tell memory_line Memory in record { rest = m.rest; answer = m.answer; whole = no_memory m.whole }

pub left_so : (p : ProfileView) (name : List ℕ) (c : ClientState) (l : SavedState) → LeavesOf p c l → (q r : HostState) (status : Status) → Did (Then (Calls (created outs.State name)) (after_create c l.state)) q r (Some status) → DidIn to_link (Leaves p name c) q r (Some status)
left_so p name c l of q r status h = did_any _ q r status (did_as (Then (Calls (created outs.State name)) (after_create c l.state)) (Leaves p name c) q r (Some status) (λ t x w. saves l.state of.state w) h)

module _ (c : ClientState) (l : SavedState) (of : l.line.items ≡ client_line c) (q r s : HostState) where
  pub saved_and_told : (line : List ℕ) (status : Status) → line ≡ l.line.items → Did (Writes outs.State l.state) q r (Some true) → Did (Prints (done line)) r s (Some status) → Did (after_create c l.state true) q s (Some status)
  saved_and_told line status is h prints = did_both _ (after_state c) q r s true _ h (subst (λ (x : List ℕ). Did (Prints (done x)) r s (Some status)) (is ∙ of) prints)

  pub saved_not : (status : Status) → Did (Writes outs.State l.state) q r (Some false) → Did (Tells write_fault_line WriteFault) r s (Some status) → Did (after_create c l.state true) q s (Some status)
  saved_not status h tells = did_both _ (after_state c) q r s false _ h tells

-- ---- a session's fault

can_end_by : (o : Option (List ℕ)) → Begins (ends_by o) []
can_end_by (Some line) = can_tell line PeerFault
can_end_by None = can_tell link_fault_line LinkFault

-- it is the other end's, with this line
by_peer : (o : Option (List ℕ)) (line : List ℕ) (q r : HostState) (status : Status) → o ≡ Some line → Did (Tells line PeerFault) q r (Some status) → DidIn to_link (ends_by o) q r (Some status)
by_peer o line q r status is h = subst (λ (x : Option (List ℕ)). DidIn to_link (ends_by x) q r (Some status)) (sym is) (did_any _ q r status h)

module _ (q r : HostState) (status : Status) where
  pub peer_told : (fault : SessionFault) (line : Vec ℕ Global) (told : List ℕ) → TellsSession fault (stop.Peer line) → told ≡ line.items → Did (Tells told PeerFault) q r (Some status) → DidIn to_link (ends_by (session_line fault)) q r (Some status)
  peer_told (session.Packet f) line told is same h = by_peer (session_line (session.Packet f)) told q r status (ap Some (sym is ∙ sym same)) h
  peer_told (session.Wire f) line told is same h = by_peer (session_line (session.Wire f)) told q r status (ap Some (sym is ∙ sym same)) h
  peer_told (session.Client f) line told is same h = by_peer (session_line (session.Client f)) told q r status (ap Some (sym is ∙ sym same)) h
  peer_told session.TooManyFrames line told is same h = by_peer (session_line session.TooManyFrames) told q r status (ap Some (sym is ∙ sym same)) h
  peer_told session.LinkFault line told is same h = absurd (let no : stop.Peer line ≡ stop.LinkFault = is in cc)

  -- the link failed
  pub link_told : (fault : SessionFault) → TellsSession fault stop.LinkFault → Did (Tells link_fault_line LinkFault) q r (Some status) → DidIn to_link (ends_by (session_line fault)) q r (Some status)
  link_told (session.Packet f) is h = absurd is
  link_told (session.Wire f) is h = absurd is
  link_told (session.Client f) is h = absurd is
  link_told session.TooManyFrames is h = absurd is
  link_told session.LinkFault is h = did_any _ q r status h

-- there was no memory for its line
pub none_told : (fault : SessionFault) (q : HostState) → DidIn to_link (ends_by (session_line fault)) q q None
none_told fault q = did_none _ q (can_end_by (session_line fault))

-- ---- what follows of a session

can_after_session : (p : ProfileView) (name : List ℕ) (r : Outcome) → Begins (after_session p name r) []
can_after_session p name (Ok c) = can_leave p name c
can_after_session p name (Err fault) = can_end_by (session_line fault)

module _ (p : ProfileView) (name : List ℕ) (c d : ClientState) (q r s : HostState) where
  pub left_after : (answer : Option Status) → DidIn to_link (Converses p c) q r (outcome d (Ok tt)) → DidIn to_link (Leaves p name d) r s answer → DidIn to_link (after_connect p name c true) q s answer
  left_after answer h l = did_then (Converses p c) (after_session p name) q r s (Ok d) answer (may_converse p c) h l

  pub told_after : (fault : SessionFault) (answer : Option Status) → DidIn to_link (Converses p c) q r (Some (Err fault)) → DidIn to_link (ends_by (session_line fault)) r s answer → DidIn to_link (after_connect p name c true) q s answer
  told_after fault answer h e = did_then (Converses p c) (after_session p name) q r s (Err fault) answer (may_converse p c) h e

-- memory ran out in the session
pub stopped_after : (p : ProfileView) (name : List ℕ) (c : ClientState) (q r : HostState) → DidIn to_link (Converses p c) q r None → DidIn to_link (after_connect p name c true) q r None
stopped_after p name c q r h = did_stop (Converses p c) (after_session p name) q r (can_after_session p name) h
