-- What a client's session does.
use Rattle.std.proofs.Common.{ℕ, ltb, List, Bool, true, false, Ok, Err, refl, sym, subst, inl}
use Rattle.tl_base.specs.declared.host.Out.TheVariants as outs
use Rattle.tl_base.specs.declared.host.Slot.TheVariants.{Link}
use Rattle.box_client.specs.Asking.{ticks, wakes, is_one_asking}
use Rattle.box_client.specs.States.{ClientState}
use Rattle.outside.specs.Begun.{WritesOnly, to_link}
use Rattle.outside.specs.Events.{Event, ended, put, read_failed, took, write_failed}
use Rattle.outside.specs.Laws.{Keeps, Throughout}
use Rattle.outside.specs.Packets.{PacketView, whole}
use Rattle.outside.specs.Packets as packets
use Rattle.outside.proofs.Causing.{keeps_end, keeps_loop, keeps_then}
use Rattle.outside.proofs.TakenPackets.{keeps_packet}
use Rattle.update_sessions.specs.declared.fault.SessionFault.TheVariants as session
use Rattle.update_sessions.specs.declared.fault.TheConstants.{MAX_FRAMES}
use Rattle.update_sessions.specs.Hearing.{hears}
use Rattle.update_sessions.specs.Packed.{SpellsCall}
use Rattle.wire_profile.specs.Indexes.{ProfileView}
use Rattle.session_rooms.specs.Conversing.{Outcome, Asks, after_asking, HearsBytes, no_frame, refused, heard, after_packet, HearsNext, Heard, turn_of, hears_by, HearsOn, after_begin, Converses}
use Rattle.session_rooms.proofs.SentMessages.{keeps_send}

module _ (P : Event → Type 0) (each : (bytes : List ℕ) → P (put outs.Link bytes)) (lost : P (write_failed outs.Link)) (some : (bytes : List ℕ) → P (took Link bytes)) (end : P (ended Link)) (fail : P (read_failed Link)) (p : ProfileView) where
  keeps_asked : (d : ClientState) (ok : Bool) → Keeps P (after_asking d ok)
  keeps_asked d true = keeps_end P (Ok d)
  keeps_asked d false = keeps_end P (Err session.LinkFault)

  pub keeps_ask : (c : ClientState) → Keeps P (Asks p c)
  keeps_ask c = keeps_then P _ _ (keeps_send (SpellsCall p) P each lost (ticks c).asks) (keeps_asked (ticks c).client)

  keeps_bytes : (c : ClientState) (bytes : List ℕ) → Keeps P (HearsBytes p c bytes)
  keeps_bytes c bytes t r (no_frame fault h none is) = subst (Throughout P) (sym none) tt
  keeps_bytes c bytes t r (refused fault h none is) = subst (Throughout P) (sym none) tt
  keeps_bytes c bytes t r (heard f means taken h) = keeps_ask (hears c f) t r h

  keeps_after : (c : ClientState) (m : PacketView) → Keeps P (after_packet p c m)
  keeps_after c (whole bytes) = keeps_bytes c bytes
  keeps_after c packets.none = keeps_end P _
  keeps_after c (packets.wrong cause) = keeps_end P _
  keeps_after c packets.broken = keeps_end P _

  pub keeps_next : (c : ClientState) → Keeps P (HearsNext p c)
  keeps_next c = keeps_then P _ _ (keeps_packet Link P some end fail) (keeps_after c)

  keeps_turn : (asks more : Bool) (h : Heard) → Keeps P (hears_by p asks more h)
  keeps_turn false more (c, n) = keeps_end P _
  keeps_turn true false (c, n) = keeps_end P _
  keeps_turn true true (c, n) = keeps_then P _ _ (keeps_next c) (λ r. keeps_end P (turn_of n r))

  keeps_hears : (h : Heard) → Keeps P (HearsOn p h)
  keeps_hears (c, n) = keeps_turn (is_one_asking c) (ltb n MAX_FRAMES) (c, n)

  keeps_begin : (r : Outcome) → Keeps P (after_begin p r)
  keeps_begin (Ok c) = keeps_loop P (HearsOn p) keeps_hears (c, 0)
  keeps_begin (Err fault) = keeps_end P (Err fault)

  pub keeps_converse : (c : ClientState) → Keeps P (Converses p c)
  keeps_converse c = keeps_then P _ _ (keeps_ask (wakes c)) keeps_begin

-- nothing is written but to the link
module _ (p : ProfileView) where
  pub may_ask : (c : ClientState) → Keeps (WritesOnly to_link) (Asks p c)
  may_ask c = keeps_ask (WritesOnly to_link) (λ _. inl refl) (inl refl) (λ _. tt) tt tt p c

  pub may_hear : (h : Heard) → Keeps (WritesOnly to_link) (HearsOn p h)
  may_hear h = keeps_hears (WritesOnly to_link) (λ _. inl refl) (inl refl) (λ _. tt) tt tt p h

  pub may_converse : (c : ClientState) → Keeps (WritesOnly to_link) (Converses p c)
  may_converse c = keeps_converse (WritesOnly to_link) (λ _. inl refl) (inl refl) (λ _. tt) tt tt p c
