-- A session ends by its link's fault only where that failed.
use Rattle.std.proofs.Common.{◌≡◌, ℕ, ◌+◌, ltb, List, ◌++◌, Bool, true, false, Ok, Err, sym, subst}
use Rattle.tl_base.specs.declared.counts.Kind.TheVariants as kinds
use Rattle.tl_base.specs.declared.host.Slot.TheVariants as slots
use Rattle.box_events.specs.declared.requests.Numbered.{Numbered}
use Rattle.box_server.specs.Servers.{ServerState}
use Rattle.wire_profile.specs.Indexes.{ProfileView}
use Rattle.outside.specs.Laws.{IsFailure}
use Rattle.outside.specs.Packets.{PacketView, whole, TakesPacket}
use Rattle.outside.specs.Packets as packets
use Rattle.outside.specs.Steps.{Turn, again, leave}
use Rattle.outside.proofs.Causing.{happened_first, happened_last}
use Rattle.outside.proofs.TakenPackets.{broken_packet}
use Rattle.update_sessions.specs.declared.fault.SessionFault.{SessionFault}
use Rattle.update_sessions.specs.declared.fault.SessionFault.TheVariants as session
use Rattle.update_sessions.specs.declared.fault.TheConstants.{MAX_FRAMES}
use Rattle.update_sessions.specs.Packed.{SpellsFrame}
use Rattle.update_sessions.specs.Serving.{after_request, sent_for}
use Rattle.session_rooms.specs.Sending.{Sends}
use Rattle.session_rooms.proofs.SentMessages.{unsent}
use Rattle.serve_rooms.specs.Acts.{Act, events_in}
use Rattle.serve_rooms.specs.Answering.{Answered, goes_on, has_ended, fails, unkept, after_sending, after_adding, AnswersBytes, no_call, answers, after_packet, AnswersNext, Session, over, lost, Served, turn_of, answers_by, AnswersAll}
use Rattle.serve_rooms.specs.Doing.{Hosted}
use Rattle.serve_rooms.proofs.Acting.{events_more}
use Rattle.run_laws.specs.Ended.{ErrorsFailed, IsUntold, LinkFailed, WriteFailed}
use Rattle.run_laws.proofs.serving.Beginnings.{hosted_events}

-- ---- what happened in a part

pub link_first : (t u : List Act) → LinkFailed (events_in t) → LinkFailed (events_in (t ++ u))
link_first t u h = subst LinkFailed (sym (events_more t u)) (happened_first (IsFailure kinds.Links) (events_in t) (events_in u) h)

pub link_last : (t u : List Act) → LinkFailed (events_in u) → LinkFailed (events_in (t ++ u))
link_last t u h = subst LinkFailed (sym (events_more t u)) (happened_last (IsFailure kinds.Links) (events_in t) (events_in u) h)

pub write_last : (t u : List Act) → WriteFailed (events_in u) → WriteFailed (events_in (t ++ u))
write_last t u h = subst WriteFailed (sym (events_more t u)) (happened_last (IsFailure kinds.Writes) (events_in t) (events_in u) h)

pub errors_first : (t u : List Act) → ErrorsFailed (events_in t) → ErrorsFailed (events_in (t ++ u))
errors_first t u h = subst ErrorsFailed (sym (events_more t u)) (happened_first IsUntold (events_in t) (events_in u) h)

pub errors_last : (t u : List Act) → ErrorsFailed (events_in u) → ErrorsFailed (events_in (t ++ u))
errors_last t u h = subst ErrorsFailed (sym (events_more t u)) (happened_last IsUntold (events_in t) (events_in u) h)

-- ---- one packet

-- this fault, where it is the link's, came of one
abbrev IsBlamed : SessionFault → List Act → Type 0
IsBlamed fault t = fault ≡ session.LinkFault → LinkFailed (events_in t)

abbrev IsCaused : Answered → List Act → Type 0
IsCaused (goes_on s) t = Unit {0}
IsCaused (has_ended s) t = Unit {0}
IsCaused (fails s fault) t = IsBlamed fault t
IsCaused unkept t = Unit {0}

caused_first : (r : Answered) (t u : List Act) → IsCaused r t → IsCaused r (t ++ u)
caused_first (goes_on s) t u h = tt
caused_first (has_ended s) t u h = tt
caused_first (fails s fault) t u h = λ is. link_first t u (h is)
caused_first unkept t u h = tt

caused_last : (r : Answered) (t u : List Act) → IsCaused r u → IsCaused r (t ++ u)
caused_last (goes_on s) t u h = tt
caused_last (has_ended s) t u h = tt
caused_last (fails s fault) t u h = λ is. link_last t u (h is)
caused_last unkept t u h = tt

wire_other : (f : _) → session.Wire f ≡ session.LinkFault → ⊥
wire_other f is = cc

packet_other : (f : _) → session.Packet f ≡ session.LinkFault → ⊥
packet_other f is = cc

module _ (p : ProfileView) where
  sending_cause : (s : ServerState) (c : Numbered) (x : ServerState) (ok : Bool) (r : Answered) (t u : List Act) → Hosted (Sends (SpellsFrame p) (sent_for x c.number c.request)) t ok → after_sending s ok u r → IsCaused r (t ++ u)
  sending_cause s c x true r t u sent h = subst (λ (a : Answered). IsCaused a (t ++ u)) (sym h.1) tt
  sending_cause s c x false r t u (events, is, sent) h =
      subst (λ (a : Answered). IsCaused a (t ++ u)) (sym h.1) (λ _. link_first t u (subst LinkFailed (sym (hosted_events t events is)) (unsent (SpellsFrame p) (sent_for x c.number c.request) events sent)))

  adding_cause : (s : ServerState) (c : Numbered) (ok : Bool) (r : Answered) (u : List Act) → after_adding p s c ok u r → IsCaused r u
  adding_cause s c true r u h = subst (IsCaused r) (sym h.splits) (sending_cause (after_request s c.request) c s h.between r h.first h.rest h.does h.goes)
  adding_cause s c false r u h = subst (λ (a : Answered). IsCaused a u) (sym h.1) tt

  bytes_cause : (s : ServerState) (bytes : List ℕ) (r : Answered) (u : List Act) → AnswersBytes p s bytes u r → IsCaused r u
  bytes_cause s bytes r u (no_call f refuses none is) = subst (λ (a : Answered). IsCaused a u) (sym is) (λ same. absurd (wire_other f same))
  bytes_cause s bytes r u (answers c means h) = subst (IsCaused r) (sym h.splits) (caused_last r h.first h.rest (adding_cause s c h.between r h.rest h.goes))

  packet_cause : (s : ServerState) (m : PacketView) (r : Answered) (t u : List Act) → Hosted (TakesPacket slots.Link) t m → after_packet p s m u r → IsCaused r (t ++ u)
  packet_cause s (whole bytes) r t u taken h = caused_last r t u (bytes_cause s bytes r u h)
  packet_cause s packets.none r t u taken h = subst (λ (a : Answered). IsCaused a (t ++ u)) (sym h.1) tt
  packet_cause s (packets.wrong cause) r t u taken h = subst (λ (a : Answered). IsCaused a (t ++ u)) (sym h.1) (λ same. absurd (packet_other cause same))
  packet_cause s packets.broken r t u (events, is, taken) h = subst (λ (a : Answered). IsCaused a (t ++ u)) (sym h.1) (λ _. link_first t u (subst LinkFailed (sym (hosted_events t events is)) (broken_packet slots.Link events taken)))

  answer_cause : (s : ServerState) (r : Answered) (t : List Act) → AnswersNext p s t r → IsCaused r t
  answer_cause s r t h = subst (IsCaused r) (sym h.splits) (packet_cause s h.between r h.first h.rest h.does h.goes)

  -- ---- a session

  over_fault : (v u : ServerState) (fault : SessionFault) → ◌≡◌ {A = Turn Served Session} (leave (over v (Err session.LinkFault))) (leave (over u (Err fault))) → fault ≡ session.LinkFault
  over_fault v u fault is = let one : ◌≡◌ {A = Session} (over v (Err session.LinkFault)) (over u (Err fault)) = cc in cc

  turned_cause : (n : ℕ) (r : Answered) (v : ServerState) (t : List Act) → IsCaused r t → leave (over v (Err session.LinkFault)) ≡ turn_of n r → LinkFailed (events_in t)
  turned_cause n (goes_on u) v t caused is = absurd (let no : ◌≡◌ {A = Turn Served Session} (leave (over v (Err session.LinkFault))) (again (u, n + 1)) = is in cc)
  turned_cause n (has_ended u) v t caused is = absurd (let no : ◌≡◌ {A = Turn Served Session} (leave (over v (Err session.LinkFault))) (leave (over u (Ok n))) = is in cc)
  turned_cause n (fails u fault) v t caused is = caused (over_fault v u fault is)
  turned_cause n unkept v t caused is = absurd (let no : ◌≡◌ {A = Turn Served Session} (leave (over v (Err session.LinkFault))) (leave lost) = is in cc)

  by_cause : (goes : Bool) (s : ServerState) (n : ℕ) (v : ServerState) (t : List Act) → answers_by p goes (s, n) t (leave (over v (Err session.LinkFault))) → LinkFailed (events_in t)
  by_cause false s n v t h = absurd (let no : ◌≡◌ {A = Turn Served Session} (leave (over v (Err session.LinkFault))) (leave (over s (Err session.TooManyFrames))) = h.1 in cc)
  by_cause true s n v t h =
      let caused = answer_cause s h.between h.first h.does in
      subst (λ (l : List Act). LinkFailed (events_in l)) (sym h.splits) (link_first h.first h.rest (turned_cause n h.between v h.first caused h.goes.1))

  pub session_cause : (s v : ServerState) (t : List Act) → AnswersAll p s t (over v (Err session.LinkFault)) → LinkFailed (events_in t)
  session_cause s v t h = subst (λ (l : List Act). LinkFailed (events_in l)) (sym h.splits) (link_last h.first h.rest (by_cause (ltb h.between.1 MAX_FRAMES) h.between.0 h.between.1 v h.rest h.goes))
