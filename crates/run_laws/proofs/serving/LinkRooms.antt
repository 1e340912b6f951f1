-- Where a reliable outside fails at a session's link, there is no room for what a session sends whose link doesn't fail.
use Rattle.std.proofs.Common.{◌≡◌, inl, inr, ℕ, ◌+◌, ◌-◌, ◌<◌, ◌≤◌, ltb, List, [], ◌∷◌, ◌++◌, length, length-append, append-nil, append_assoc, Bool, true, false, Some, None, Ok, Err, refl, sym, ap, ◌∙◌, subst, arith}
use Rattle.std.proofs.lemmas.Bool.{ltb-true}
use Rattle.std.proofs.lemmas.List.{get_or_at}
use Rattle.tl_numbers.specs.Bytes.{AreBytes}
use Rattle.tl_base.specs.Outside.{last_or, left_of, written_of}
use Rattle.tl_base.specs.declared.counts.Kind.TheVariants as kinds
use Rattle.tl_base.specs.declared.host.Out.TheVariants as outs
use Rattle.tl_base.specs.declared.host.Slot.TheVariants.{Link}
use Rattle.box_events.specs.declared.requests.Numbered.{Numbered}
use Rattle.box_server.specs.Servers.{ServerState, dated_at}
use Rattle.box_server.specs.declared.entry.Entry.{Entry}
use Rattle.wire_profile.specs.Indexes.{ProfileView}
use Rattle.wire_profile.specs.Profiles.{IsProfile}
use Rattle.outside.specs.Events.{Event, Outside, opened, took, ended, read_failed, created, put, write_failed, listened, connected, accepted, told}
use Rattle.outside.specs.Laws.{Happened, IsFailure, Throughout}
use Rattle.outside.specs.Packets.{PacketView, whole, TakesPacket}
use Rattle.outside.specs.Packets as packets
use Rattle.outside.specs.Steps.{StepOf, Turn, again, leave, Reaches, here, turn}
use Rattle.outside.proofs.TakenPackets.{broken_packet, keeps_packet, whole_packet}
use Rattle.outside.specs.Fits.{Fits, Happens}
use Rattle.outside.specs.Reliable.{IsReliable}
use Rattle.outside.proofs.Fitting.{fits_keeps, reliable_on, writes_append, writes_fail_full}
use Rattle.outside.proofs.Sparing.{writes_leave}
use Rattle.update_sessions.specs.declared.fault.SessionFault.{SessionFault}
use Rattle.update_sessions.specs.declared.fault.SessionFault.TheVariants as session
use Rattle.update_sessions.specs.declared.fault.TheConstants.{MAX_FRAMES}
use Rattle.update_sessions.specs.Exchanges.{Exchanged}
use Rattle.update_sessions.specs.Kept.{kept_for}
use Rattle.update_sessions.specs.Packed.{MeansCall, SpellsFrame}
use Rattle.update_sessions.specs.Receiving.{ComesFirst}
use Rattle.update_sessions.specs.Serving.{after_request, sent_for, server_side}
use Rattle.update_sessions.proofs.Exchanging.{exchanged_none, exchanged_one, exchanged_then}
use Rattle.session_commands.specs.Serve.{SessionEnd, IsWhole}
use Rattle.session_commands.specs.Serve as commands
use Rattle.session_rooms.specs.Sending.{PartlySent, Sends}
use Rattle.session_rooms.proofs.ConversedBytes.{given_by, sent_by, taking_sent}
use Rattle.session_rooms.proofs.LeftPackets.{packet_left}
use Rattle.serve_rooms.specs.Acts.{Act, events_in}
use Rattle.serve_rooms.specs.Answering.{Answered, goes_on, has_ended, fails, unkept, if_added, Adds, after_sending, after_adding, no_call, answers, after_packet, AnswersNext, Session, over, lost, Served, turn_of, answers_by, AnswersOn, AnswersAll}
use Rattle.serve_rooms.specs.Doing.{Hosted}
use Rattle.serve_rooms.proofs.Acting.{events_more}
use Rattle.serve_rooms.proofs.AnsweredBytes.{fits_hosted, fits_none, fits_parts}
use Rattle.run_laws.proofs.serving.WholeSessions.{sends_more}
use Rattle.session_rooms.proofs.PostUnfailing.{IsTaken}

pub none_sent : (before : List ℕ) (links : List (List ℕ)) → last_or before (links ++ [] ∷ []) ≡ []
none_sent before links = get_or_at links [] [] before (length (links ++ [] ∷ []) - 1) (omega (arith, length-append links ([] ∷ [])))

-- ---- a reliable outside doesn't fail where a packet is taken

taken_fails : (e : Event) (s n : Outside) → Happens e s n → IsReliable s → IsTaken e → IsFailure kinds.Links e → ⊥
taken_fails (opened slot name ok) s n h r is failing = is
taken_fails (took slot bytes) s n h r is failing = let no : None ≡ Some kinds.Links = failing in cc
taken_fails (ended slot) s n h r is failing = let no : None ≡ Some kinds.Links = failing in cc
taken_fails (read_failed slot) s n h r is failing = absurd (omega (arith, h.1.1, r))
taken_fails (created out name ok) s n h r is failing = is
taken_fails (put out bytes) s n h r is failing = is
taken_fails (write_failed out) s n h r is failing = is
taken_fails (listened address ok) s n h r is failing = is
taken_fails (connected address ok) s n h r is failing = is
taken_fails (accepted ok) s n h r is failing = is
taken_fails (told moment) s n h r is failing = is

taken_never : (t : List Event) (s n : Outside) → Fits t s n → IsReliable s → Throughout IsTaken t → Happened (IsFailure kinds.Links) t → ⊥
taken_never [] s n f r are broke = broke
taken_never (e ∷ t) s n f r are (inl first) = taken_fails e s f.0 f.1 r are.0 first
taken_never (e ∷ t) s n f r are (inr later) = taken_never t f.0 n f.2 (reliable_on s f.0 (fits_keeps (e ∷ []) s f.0 (f.0, f.1, refl)) r) are.1 later

-- ---- one call

if_silent : (S : StepOf Act Bool) → ((u : List Act) (r : Bool) → S u r → events_in u ≡ []) → (sure : Bool) (u : List Act) (r : Bool) → if_added sure S u r → events_in u ≡ []
if_silent S silent true u r g = silent u r g
if_silent S silent false u r g = ap events_in g.0

adds_silent : (es : List Entry) (t : List Act) (ok : Bool) → Adds es t ok → events_in t ≡ []
adds_silent [] t ok h = ap events_in h.0
adds_silent (e ∷ es) t ok h =
    ap events_in h.splits ∙ events_more h.first h.rest ∙ ap (λ (l : List Event). l ++ events_in h.rest) (ap events_in h.does) ∙ if_silent (Adds es) (λ u r g. adds_silent es u r g) h.between h.rest ok h.goes

module _ (p : ProfileView) where
  -- a call came, and all that is due was sent
  record OneCall (u x : ServerState) (k j : Outside) : Type 0 where
    out : List ℕ
    call : Numbered
    exchanged : Exchanged (server_side p) u (given_by k) (given_by j) out x (call ∷ [])
    wrote : sent_by j ≡ sent_by k ++ out

  goes_is : (x y : ServerState) → goes_on x ≡ goes_on y → x ≡ y
  goes_is x y is = cc

  sent_one : (u x : ServerState) (c : Numbered) (ok : Bool) (t v : List Act) (k m y j : Outside) → ComesFirst (MeansCall p) c (given_by k) (given_by m) → sent_by m ≡ sent_by k → Hosted (Sends (SpellsFrame p) (sent_for u c.number c.request)) t ok → after_sending (after_request u c.request) ok v (goes_on x)
      → Fits (events_in t) m y → Fits (events_in v) y j → OneCall u x k j
  sent_one u x c true t v k m y j comes unsent (events, is, (out, packed, pieces)) goes f g =
      let fits = fits_hosted t events m y is f in
      let stays : j ≡ y = fits_none v y j (ap events_in goes.0) g in
      let left : given_by j ≡ given_by m = ap given_by stays ∙ writes_leave outs.Link (left_of Link) (λ bytes w. refl) out events true m y pieces fits in
      record {
        out = out;
        call = c;
        exchanged = exchanged_one (server_side p) u x (given_by k) (given_by j) out c (subst (ComesFirst (MeansCall p) c (given_by k)) (sym left) comes) tt packed (goes_is x (after_request u c.request) goes.1);
        wrote = ap sent_by stays ∙ writes_append outs.Link out events m y pieces fits ∙ ap (λ (l : List ℕ). l ++ out) unsent;
      }
  sent_one u x c false t v k m y j comes unsent sends goes f g = absurd (let no : goes_on x ≡ fails (after_request u c.request) session.LinkFault = goes.1 in cc)

  added_one : (u x : ServerState) (c : Numbered) (ok : Bool) (t : List Act) (k m j : Outside) → ComesFirst (MeansCall p) c (given_by k) (given_by m) → sent_by m ≡ sent_by k → after_adding p u c ok t (goes_on x) → Fits (events_in t) m j → OneCall u x k j
  added_one u x c true t k m j comes unsent h f =
      let parts = fits_parts t h.first h.rest m j h.splits f in
      sent_one u x c h.between h.first h.rest k m parts.0 j comes unsent h.does h.goes parts.1 parts.2
  added_one u x c false t k m j comes unsent h f = absurd (let no : goes_on x ≡ unkept = h.1 in cc)

  -- a packet was taken
  came_first : (bytes : List ℕ) (c : Numbered) (t : List Event) (k m : Outside) → TakesPacket Link t (whole bytes) → MeansCall p c bytes → Fits t k m → ComesFirst (MeansCall p) c (given_by k) (given_by m)
  came_first bytes c t k m takes means f = record { body = bytes; fits = (whole_packet Link t bytes takes).0; parts = packet_left Link t (whole bytes) k m takes f; means = means }

  packet_one : (u x : ServerState) (v : PacketView) (t : List Event) (w : List Act) (k m j : Outside) → TakesPacket Link t v → after_packet p u v w (goes_on x) → Fits t k m → Fits (events_in w) m j → OneCall u x k j
  packet_one u x (whole bytes) t w k m j takes (no_call fault refuses none is) f g = absurd (let no : goes_on x ≡ fails u (session.Wire fault) = is in cc)
  packet_one u x (whole bytes) t w k m j takes (answers c means h) f g =
      let parts = fits_parts w h.first h.rest m j h.splits g in
      let stays : parts.0 ≡ m = fits_none h.first m parts.0 (adds_silent (kept_for u c.request) h.first h.between h.does) parts.1 in
      added_one u x c h.between h.rest k m j (came_first bytes c t k m takes means f) (taking_sent t (whole bytes) k m takes f) h.goes (subst (λ (o : Outside). Fits (events_in h.rest) o j) stays parts.2)
  packet_one u x packets.none t w k m j takes h f g = absurd (let no : goes_on x ≡ has_ended u = h.1 in cc)
  packet_one u x (packets.wrong cause) t w k m j takes h f g = absurd (let no : goes_on x ≡ fails u (session.Packet cause) = h.1 in cc)
  packet_one u x packets.broken t w k m j takes h f g = absurd (let no : goes_on x ≡ fails u session.LinkFault = h.1 in cc)

  next_one : (u x : ServerState) (t : List Act) (k j : Outside) → AnswersNext p u t (goes_on x) → Fits (events_in t) k j → OneCall u x k j
  next_one u x t k j h f =
      let parts = fits_parts t h.first h.rest k j h.splits f in
      packet_one u x h.between h.does.0 h.rest k parts.0 j h.does.2 h.goes (fits_hosted h.first h.does.0 k parts.0 h.does.1 parts.1) parts.2

  -- ---- the calls that were answered

  record Walked (s : ServerState) (x : Served) (k j : Outside) : Type 0 where
    out : List ℕ
    calls : List Numbered
    count : length calls ≡ x.1
    exchanged : Exchanged (server_side p) s (given_by k) (given_by j) out x.0 calls
    wrote : sent_by j ≡ sent_by k ++ out

  again_is : (x : Served) (v : ServerState) (n : ℕ) → ◌≡◌ {A = Turn Served Session} (again x) (again (v, n + 1)) → (v, n + 1) ≡ x
  again_is x v n is = cc

  walked_one : (s : ServerState) (x y : Served) (r : Answered) (t : List Act) (k m j : Outside) → Walked s x k m → AnswersNext p x.0 t r → again y ≡ turn_of x.1 r → Fits (events_in t) m j → Walked s y k j
  walked_one s x y (goes_on v) t k m j so next is f =
      let one = next_one x.0 v t m j next f in
      subst (λ (z : Served). Walked s z k j) (again_is y v x.1 is)
      (record {
        out = so.out ++ one.out;
        calls = so.calls ++ one.call ∷ [];
        count = omega (arith, so.count, length-append so.calls (one.call ∷ []));
        exchanged = exchanged_then (server_side p) s x.0 v (given_by k) (given_by m) (given_by j) so.out one.out so.calls (one.call ∷ []) so.exchanged one.exchanged;
        wrote = one.wrote ∙ ap (λ (l : List ℕ). l ++ one.out) so.wrote ∙ append_assoc (sent_by k) so.out one.out;
      })
  walked_one s x y (has_ended v) t k m j so next is f = absurd (let no : ◌≡◌ {A = Turn Served Session} (again y) (leave (over v (Ok x.1))) = is in cc)
  walked_one s x y (fails v fault) t k m j so next is f = absurd (let no : ◌≡◌ {A = Turn Served Session} (again y) (leave (over v (Err fault))) = is in cc)
  walked_one s x y unkept t k m j so next is f = absurd (let no : ◌≡◌ {A = Turn Served Session} (again y) (leave lost) = is in cc)

  walked_turn : (s : ServerState) (x y : Served) (goes : Bool) (t : List Act) (k m j : Outside) → Walked s x k m → answers_by p goes x t (again y) → Fits (events_in t) m j → Walked s y k j
  walked_turn s x y false t k m j so h f = absurd (let no : ◌≡◌ {A = Turn Served Session} (again y) (leave (over x.0 (Err session.TooManyFrames))) = h.1 in cc)
  walked_turn s x y true t k m j so h f =
      let parts = fits_parts t h.first h.rest m j h.splits f in
      let stays : j ≡ parts.0 = fits_none h.rest parts.0 j (ap events_in h.goes.0) parts.2 in
      subst (λ (o : Outside). Walked s y k o) (sym stays) (walked_one s x y h.between h.first k m parts.0 so h.does h.goes.1 parts.1)

  walked_none : (s : ServerState) (x : Served) (k : Outside) → x ≡ (s, 0) → Walked s x k k
  walked_none s x k is = subst (λ (y : Served). Walked s y k k) (sym is) (record { out = []; calls = []; count = refl; exchanged = exchanged_none (server_side p) s (given_by k); wrote = sym (append-nil (sent_by k)) })

  walked : (s : ServerState) (t : List Act) (x : Served) (k j : Outside) → Reaches (AnswersOn p) (s, 0) t x → Fits (events_in t) k j → Walked s x k j
  walked s t x k j (here _ _ empty is) f = subst (λ (o : Outside). Walked s x k o) (sym (fits_none t k j (ap events_in empty) f)) (walked_none s x k is)
  walked s t x k j (turn _ first rest between _ splits before this) f =
      let parts = fits_parts t first rest k j splits f in
      walked_turn s between x (ltb between.1 MAX_FRAMES) rest k parts.0 j (walked s first between k parts.0 before parts.1) this parts.2

  -- ---- the call at which the link failed

  -- a part of what is due was sent, and there is no room for more
  record Cut (u : ServerState) (k : Outside) : Type 0 where
    call : Numbered
    rest : List ℕ
    comes : ComesFirst (MeansCall p) call (given_by k) rest
    part : List ℕ
    sent : PartlySent (SpellsFrame p) (sent_for u call.number call.request) part
    full : k.view.room ≤ length (sent_by k) + length part

  sent_cut : (u x : ServerState) (c : Numbered) (ok : Bool) (t v : List Act) (k m y : Outside) → ComesFirst (MeansCall p) c (given_by k) (given_by m) → sent_by m ≡ sent_by k → m.view.room ≡ k.view.room → IsReliable m → Hosted (Sends (SpellsFrame p) (sent_for u c.number c.request)) t ok
      → after_sending (after_request u c.request) ok v (fails x session.LinkFault) → Fits (events_in t) m y → Cut u k
  sent_cut u x c true t v k m y comes unsent room reliable sends goes f = absurd (let no : fails x session.LinkFault ≡ goes_on (after_request u c.request) = goes.1 in cc)
  sent_cut u x c false t v k m y comes unsent room reliable (events, is, (part, sent, pieces)) goes f =
      let full = writes_fail_full outs.Link (part ++ 0 ∷ []) events m y (part, 0 ∷ [], pieces, refl, omega arith) (fits_hosted t events m y is f) reliable in
      record { call = c; rest = given_by m; comes = comes; part = part; sent = sent; full = omega (arith, full, ap length unsent, room, length-append part (0 ∷ [])) }

  added_cut : (u x : ServerState) (c : Numbered) (ok : Bool) (t : List Act) (k m j : Outside) → ComesFirst (MeansCall p) c (given_by k) (given_by m) → sent_by m ≡ sent_by k → m.view.room ≡ k.view.room → IsReliable m → after_adding p u c ok t (fails x session.LinkFault) → Fits (events_in t) m j → Cut u k
  added_cut u x c true t k m j comes unsent room reliable h f =
      let parts = fits_parts t h.first h.rest m j h.splits f in
      sent_cut u x c h.between h.first h.rest k m parts.0 comes unsent room reliable h.does h.goes parts.1
  added_cut u x c false t k m j comes unsent room reliable h f = absurd (let no : fails x session.LinkFault ≡ unkept = h.1 in cc)

  packet_cut : (u x : ServerState) (v : PacketView) (t : List Event) (w : List Act) (k m j : Outside) → TakesPacket Link t v → after_packet p u v w (fails x session.LinkFault) → Fits t k m → Fits (events_in w) m j → IsReliable k → Cut u k
  packet_cut u x (whole bytes) t w k m j takes (no_call fault refuses none is) f g reliable = absurd (other_fault fault is)
    where
      other_fault : (e : _) → fails x session.LinkFault ≡ fails u (session.Wire e) → ⊥
      other_fault e same = let one : session.LinkFault ≡ session.Wire e = cc in cc
  packet_cut u x (whole bytes) t w k m j takes (answers c means h) f g reliable =
      let kept = fits_keeps t k m f in
      let parts = fits_parts w h.first h.rest m j h.splits g in
      let stays : parts.0 ≡ m = fits_none h.first m parts.0 (adds_silent (kept_for u c.request) h.first h.between h.does) parts.1 in
      added_cut u x c h.between h.rest k m j (came_first bytes c t k m takes means f) (taking_sent t (whole bytes) k m takes f) kept.room (reliable_on k m kept reliable) h.goes (subst (λ (o : Outside). Fits (events_in h.rest) o j) stays parts.2)
  packet_cut u x packets.none t w k m j takes h f g reliable = absurd (let no : fails x session.LinkFault ≡ has_ended u = h.1 in cc)
  packet_cut u x (packets.wrong cause) t w k m j takes h f g reliable = absurd (let one : session.LinkFault ≡ session.Packet cause = (let same : fails x session.LinkFault ≡ fails u (session.Packet cause) = h.1 in cc) in cc)
  packet_cut u x packets.broken t w k m j takes h f g reliable = absurd (taken_never t k m f reliable (keeps_packet Link IsTaken (λ _. tt) tt tt t packets.broken takes) (broken_packet Link t takes))

  next_cut : (u x : ServerState) (t : List Act) (k j : Outside) → AnswersNext p u t (fails x session.LinkFault) → Fits (events_in t) k j → IsReliable k → Cut u k
  next_cut u x t k j h f reliable =
      let parts = fits_parts t h.first h.rest k j h.splits f in
      packet_cut u x h.between h.does.0 h.rest k parts.0 j h.does.2 h.goes (fits_hosted h.first h.does.0 k parts.0 h.does.1 parts.1) parts.2 reliable

  over_is : (x v : ServerState) (fault : SessionFault) → ◌≡◌ {A = Turn Served Session} (leave (over x (Err session.LinkFault))) (leave (over v (Err fault))) → fault ≡ session.LinkFault
  over_is x v fault is = let one : ◌≡◌ {A = Session} (over x (Err session.LinkFault)) (over v (Err fault)) = cc in cc

  turned_cut : (x : ServerState) (y : Served) (r : Answered) (t : List Act) (k j : Outside) → AnswersNext p y.0 t r → leave (over x (Err session.LinkFault)) ≡ turn_of y.1 r → Fits (events_in t) k j → IsReliable k → Cut y.0 k
  turned_cut x y (goes_on v) t k j h is f reliable = absurd (let no : ◌≡◌ {A = Turn Served Session} (leave (over x (Err session.LinkFault))) (again (v, y.1 + 1)) = is in cc)
  turned_cut x y (has_ended v) t k j h is f reliable = absurd (let no : ◌≡◌ {A = Turn Served Session} (leave (over x (Err session.LinkFault))) (leave (over v (Ok y.1))) = is in cc)
  turned_cut x y (fails v fault) t k j h is f reliable = next_cut y.0 v t k j (subst (λ (z : SessionFault). AnswersNext p y.0 t (fails v z)) (over_is x v fault is) h) f reliable
  turned_cut x y unkept t k j h is f reliable = absurd (let no : ◌≡◌ {A = Turn Served Session} (leave (over x (Err session.LinkFault))) (leave lost) = is in cc)

  record LastCut (y : Served) (k : Outside) : Type 0 where
    few : y.1 < MAX_FRAMES
    cut : Cut y.0 k

  last_cut : (x : ServerState) (y : Served) (goes : Bool) (t : List Act) (k j : Outside) → ltb y.1 MAX_FRAMES ≡ goes → answers_by p goes y t (leave (over x (Err session.LinkFault))) → Fits (events_in t) k j → IsReliable k → LastCut y k
  last_cut x y false t k j is h f reliable = absurd (let no : ◌≡◌ {A = Turn Served Session} (leave (over x (Err session.LinkFault))) (leave (over y.0 (Err session.TooManyFrames))) = h.1 in cc)
  last_cut x y true t k j is h f reliable =
      let parts = fits_parts t h.first h.rest k j h.splits f in
      record { few = ltb-true y.1 MAX_FRAMES is; cut = turned_cut x y h.between h.first k parts.0 h.does h.goes.1 parts.1 reliable }

  pub link_short : IsProfile p → (s : ServerState) (now : ℕ) (t : List Act) (x : ServerState) (k j : Outside) → AnswersAll p (dated_at s now) t (over x (Err session.LinkFault)) → Fits (events_in t) k j → written_of outs.Link k.view ≡ [] → IsReliable k
      → AreBytes (left_of Link k.view) → (out : List ℕ) (v : ServerState) (new : List Entry) (e : SessionEnd) → commands.Session p s now (left_of Link k.view) out v new e → IsWhole e → k.view.room < length out
  link_short good s now t x k j h f none reliable bytes out v new e other is_whole =
      let parts = fits_parts t h.first h.rest k j h.splits f in
      let m = parts.0 in
      let kept = fits_keeps (events_in h.first) k m parts.1 in
      let so = walked (dated_at s now) h.first h.between k m h.does parts.1 in
      let last = last_cut x h.between (ltb h.between.1 MAX_FRAMES) h.rest m j refl h.goes parts.2 (reliable_on k m kept reliable) in
      let cut = last.cut in
      let less = sends_more p good s now (left_of Link k.view) bytes out v new e other is_whole (given_by m) so.out cut.part h.between.0 so.calls so.exchanged (omega (arith, so.count, last.few)) cut.call cut.rest cut.comes cut.sent in
      omega (arith, less, cut.full, kept.room, ap length so.wrote, ap length none, length-append (sent_by k) so.out)
