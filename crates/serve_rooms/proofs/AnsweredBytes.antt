-- A server's session over a link that gives bytes is one over them.
use Rattle.std.proofs.Common.{◌≡◌, ◌≢◌, inl, inr, ℕ, ◌+◌, ◌<◌, ◌≤◌, ltb, List, [], ◌∷◌, ◌++◌, length, append-nil, map, Bool, true, false, Some, Ok, Err, refl, sym, ap, ◌∙◌, subst, arith}
use Rattle.std.proofs.lemmas.Bool.{ltb-true, ltb-false}
use Rattle.tl_base.specs.Outside.{left_of}
use Rattle.tl_base.specs.declared.host.Out.TheVariants as outs
use Rattle.tl_base.specs.declared.host.Slot.TheVariants.{Link}
use Rattle.tl_base.specs.declared.packet.PacketCause.TheVariants.{BadLength, Ended}
use Rattle.box_events.specs.declared.replies.Frame.{Frame}
use Rattle.box_events.specs.declared.requests.Numbered.{Numbered}
use Rattle.box_server.specs.Servers.{ServerState}
use Rattle.box_server.specs.declared.entry.Entry.{Entry}
use Rattle.box_server.specs.Keeping.{with_more}
use Rattle.wire_profile.specs.Indexes.{ProfileView}
use Rattle.box_wire.specs.Framing.{WireRefused}
use Rattle.box_wire.specs.Kinds.{calls}
use Rattle.outside.specs.Events.{Event, Outside, put, write_failed}
use Rattle.outside.specs.Packets.{PacketView, whole, TakesPacket}
use Rattle.outside.specs.Packets as packets
use Rattle.outside.specs.Pieces.{InPieces}
use Rattle.outside.specs.Steps.{Turn, again, leave, Ends, Then, Reaches, here, turn}
use Rattle.outside.proofs.TakenPackets.{whole_packet}
use Rattle.outside.specs.Fits.{Fits}
use Rattle.outside.proofs.Fitting.{fits_both, writes_append}
use Rattle.outside.proofs.Sparing.{writes_leave}
use Rattle.update_sessions.specs.declared.fault.SessionFault.TheVariants as session
use Rattle.update_sessions.specs.declared.fault.SessionFault.{SessionFault}
use Rattle.update_sessions.specs.declared.fault.TheConstants.{MAX_FRAMES}
use Rattle.update_sessions.specs.Kept.{EndsSession, StoreEnd, Stores, ended, keeper_failed, kept_for, kept_in}
use Rattle.update_sessions.specs.Packed.{MeansCall, Packed, SpellsFrame}
use Rattle.update_sessions.specs.Receiving.{ComesFirst, Receives}
use Rattle.update_sessions.specs.Serving.{after_request, sent_for, server_side}
use Rattle.update_sessions.specs.inner.StoreSteps.{StoresNext, StoreSoFar}
use Rattle.update_sessions.proofs.Exchanging.{cut_one}
use Rattle.update_sessions.proofs.ServerSteps.{next_done, next_ended, next_failed, next_none, so_far_first, so_far_next, stores_ended, stores_failed, stores_full, stores_stopped}
use Rattle.session_rooms.specs.Sending.{PartlySent, Sends}
use Rattle.session_rooms.proofs.ConversedBytes.{given_by, sent_by, part_put, partly, taking_sent}
use Rattle.session_rooms.proofs.LeftPackets.{packet_left}
use Rattle.serve_rooms.specs.Acts.{Act, hosted, loaded, added, events_in}
use Rattle.serve_rooms.specs.Answering.{Answered, goes_on, has_ended, fails, unkept, if_added, Adds, after_sending, after_adding, AnswersBytes, no_call, answers, after_packet, AnswersNext, Session, over, lost, Served, turn_of, answers_by, AnswersOn}
use Rattle.serve_rooms.specs.Doing.{Hosted}
use Rattle.serve_rooms.specs.ServedBytes.{EndsAs, SessionsAnswer, added_in}
use Rattle.serve_rooms.proofs.Acting.{events_hosted, events_more}
use Rattle.serve_rooms.proofs.Keepers.{OneAtMost, one_for}

-- ---- acts

pub added_more : (t u : List Act) → added_in (t ++ u) ≡ added_in t ++ added_in u
added_more [] u = refl
added_more (hosted e ∷ t) u = added_more t u
added_more (loaded by ∷ t) u = added_more t u
added_more (added e true ∷ t) u = ap (λ (l : List Entry). e ∷ l) (added_more t u)
added_more (added e false ∷ t) u = added_more t u

added_hosted : (t : List Event) → added_in (map (λ e. hosted e) t) ≡ []
added_hosted [] = refl
added_hosted (e ∷ t) = added_hosted t

pub nothing_added : (t : List Act) (events : List Event) → t ≡ map (λ e. hosted e) events → added_in t ≡ []
nothing_added t events is = ap added_in is ∙ added_hosted events

pub fits_hosted : (t : List Act) (events : List Event) (x y : Outside) → t ≡ map (λ e. hosted e) events → Fits (events_in t) x y → Fits events x y
fits_hosted t events x y is f = subst (λ (l : List Event). Fits l x y) (ap events_in is ∙ events_hosted events) f

pub fits_parts : (t first rest : List Act) (x y : Outside) → t ≡ first ++ rest → Fits (events_in t) x y → (m : Outside) × Fits (events_in first) x m × Fits (events_in rest) m y
fits_parts t first rest x y is f = fits_both (events_in first) (events_in rest) x y (subst (λ (l : List Event). Fits l x y) (ap events_in is ∙ events_more first rest) f)

pub fits_none : (t : List Act) (x y : Outside) → events_in t ≡ [] → Fits (events_in t) x y → y ≡ x
fits_none t x y is f = subst (λ (l : List Event). Fits l x y) is f

-- ---- the keeper

-- entries were added, and the host did nothing
record AllAdded (es : List Entry) (t : List Act) : Type 0 where
  entries : added_in t ≡ es
  events : events_in t ≡ []

one_added : (e : Entry) (es : List Entry) → ((t : List Act) → Adds es t true → AllAdded es t) → (ok : Bool) (t first rest : List Act) → t ≡ first ++ rest → first ≡ added e ok ∷ [] → if_added ok (Adds es) rest true → AllAdded (e ∷ es) t
one_added e es later true t first rest splits is h =
    let all : t ≡ added e true ∷ rest = splits ∙ ap (λ (l : List Act). l ++ rest) is in
    let others = later rest h in
    record { entries = ap added_in all ∙ ap (λ (l : List Entry). e ∷ l) others.entries; events = ap events_in all ∙ others.events }
one_added e es later false t first rest splits is h = absurd (let no : true ≡ false = h.1 in cc)

all_added : (es : List Entry) (t : List Act) → Adds es t true → AllAdded es t
all_added [] t h = record { entries = ap added_in h.0; events = ap events_in h.0 }
all_added (e ∷ es) t h = one_added e es (all_added es) h.between t h.first h.rest h.splits h.does h.goes

-- the one entry wasn't added, and the host did nothing
record NotAdded (es : List Entry) (t : List Act) : Type 0 where
  some : es ≢ []
  entries : added_in t ≡ []
  events : events_in t ≡ []

not_all : (t : List Act) → Adds [] t false → ⊥
not_all t h = let no : false ≡ true = h.1 in cc

one_lost : (e : Entry) (ok : Bool) (t first rest : List Act) → t ≡ first ++ rest → first ≡ added e ok ∷ [] → if_added ok (Adds []) rest false → NotAdded (e ∷ []) t
one_lost e true t first rest splits is h = absurd (not_all rest h)
one_lost e false t first rest splits is h =
    let all : t ≡ added e false ∷ rest = splits ∙ ap (λ (l : List Act). l ++ rest) is in
    record { some = λ none. cc; entries = ap added_in all ∙ ap added_in h.0; events = ap events_in all ∙ ap events_in h.0 }

not_added : (es : List Entry) (t : List Act) → OneAtMost es → Adds es t false → NotAdded es t
not_added es t (inl is) h = absurd (not_all t (subst (λ (l : List Entry). Adds l t false) is h))
not_added es t (inr (e, is)) h =
    let one : Adds (e ∷ []) t false = subst (λ (l : List Entry). Adds l t false) is h in
    subst (λ (l : List Entry). NotAdded l t) (sym is) (one_lost e one.between t one.first one.rest one.splits one.does one.goes)

module _ (p : ProfileView) where
  -- ---- one packet

  -- as a step of a store's session
  abbrev step_end : ServerState → Answered → StoreEnd Bool
  step_end s (goes_on t) = ended t (Ok true)
  step_end s (has_ended t) = ended t (Ok false)
  step_end s (fails t fault) = ended t (Err fault)
  step_end s unkept = keeper_failed s

  module _ (es : List Entry) where
    -- a step over what an outside's link gives, in which these entries were added
    abbrev StepOver : ServerState → Answered → List Entry → Outside → Outside → Type 0
    StepOver s r more a b = StoresNext p s (Some (given_by a)) (Some (sent_by a)) (Some (given_by b)) (Some (sent_by b)) (Some es) (Some (es ++ more)) (step_end s r)

    none_more : Some (es ++ []) ≡ Some es
    none_more = ap (λ (l : List Entry). Some l) (append-nil es)

    some_more : (more new : List Entry) → more ≡ new → Some (es ++ more) ≡ with_more new (Some es)
    some_more more new is = ap (λ (l : List Entry). Some (es ++ l)) is

    -- nothing happens after that
    still : (s : ServerState) (r q : Answered) (u : List Act) (a m b : Outside) → u ≡ [] → r ≡ q → Fits (events_in u) m b → StepOver s q [] a m → StepOver s r (added_in u) a b
    still s r q u a m b none is g h =
        let stays : b ≡ m = fits_none u m b (ap events_in none) g in
        let here : StepOver s q (added_in u) a b = subst (λ (o : Outside). StepOver s q (added_in u) a o) (sym stays) (subst (λ (l : List Entry). StepOver s q l a m) (sym (ap added_in none)) h) in
        subst (λ (x : Answered). StepOver s x (added_in u) a b) (sym is) here

    module _ (s : ServerState) (a m : Outside) (unsent : sent_by m ≡ sent_by a) where
      abbrev same_sent : Type 0
      same_sent = Some (sent_by a) ≡ Some (sent_by m)

      unmoved : same_sent
      unmoved = ap (λ (l : List ℕ). Some l) (sym unsent)

      failed : (fault : SessionFault) → Receives (MeansCall p) (WireRefused p calls) (given_by a) (Some (given_by m)) (Err fault) → StepOver s (fails s fault) [] a m
      failed fault h = next_none p s (Some (given_by a)) (Some (sent_by a)) (Some (given_by m)) (Some (sent_by m)) (Some es) (Some (es ++ [])) fault h unmoved none_more

      link_ended : given_by a ≡ [] → StepOver s (has_ended s) [] a m
      link_ended h = next_ended p s (Some (given_by a)) (Some (sent_by a)) (Some (given_by m)) (Some (sent_by m)) (Some es) (Some (es ++ [])) h unmoved none_more

      -- a call came
      module _ (c : Numbered) (comes : ComesFirst (MeansCall p) c (given_by a) (given_by m)) where
        abbrev later : ServerState
        later = after_request s c.request

        abbrev frames_for : List Frame
        frames_for = sent_for s c.number c.request

        all_sent : (more : List Entry) (out : List ℕ) (t : List Event) (k : Outside) → more ≡ kept_for s c.request → Packed (SpellsFrame p) frames_for out → InPieces (put outs.Link) out [] t → Fits t m k → StepOver s (goes_on later) more a k
        all_sent more out t k is packed pieces f =
            next_done p s c (Some (given_by a)) (Some (sent_by a)) (Some (given_by m)) (Some (sent_by m)) (given_by m, comes, refl) unmoved (Some es) (Some (es ++ more)) later refl (some_more more (kept_for s c.request) is)
            out (Some (given_by k)) (Some (sent_by k)) packed (ap (λ (l : List ℕ). Some l) (sym (writes_leave outs.Link (left_of Link) (λ bytes v. refl) out t true m k pieces f))) (writes_append outs.Link out t m k pieces f)

        part_sent : (more : List Entry) (part : List ℕ) (t : List Event) (k : Outside) → more ≡ kept_for s c.request → PartlySent (SpellsFrame p) frames_for part → InPieces (put outs.Link) part (write_failed outs.Link ∷ []) t → Fits t m k
            → StepOver s (fails later session.LinkFault) more a k
        part_sent more part t k is sent pieces f = record {
          calls = c ∷ [];
          link = (
            part,
            part_put part t m k pieces f ∙ ap (λ (l : List ℕ). l ++ part) unsent,
            (omega arith, cut_one (server_side p) s later (given_by a) (given_by m) part c comes tt (partly (SpellsFrame p) frames_for part sent) refl),
          );
          appended = some_more more (kept_in s (c ∷ [])) (is ∙ sym (append-nil (kept_for s c.request)));
        }

        sent_so : (ok : Bool) (more : List Entry) (r : Answered) (t : List Event) (u : List Act) (k b : Outside) → more ≡ kept_for s c.request → Sends (SpellsFrame p) frames_for t ok → after_sending later ok u r → Fits t m k → Fits (events_in u) k b → StepOver s r more a b
        sent_so true more r t u k b is (out, packed, pieces) h f g =
            let stays : b ≡ k = fits_none u k b (ap events_in h.0) g in
            subst (λ (x : Answered). StepOver s x more a b) (sym h.1) (subst (λ (o : Outside). StepOver s (goes_on later) more a o) (sym stays) (all_sent more out t k is packed pieces f))
        sent_so false more r t u k b is (part, sent, pieces) h f g =
            let stays : b ≡ k = fits_none u k b (ap events_in h.0) g in
            subst (λ (x : Answered). StepOver s x more a b) (sym h.1) (subst (λ (o : Outside). StepOver s (fails later session.LinkFault) more a o) (sym stays) (part_sent more part t k is sent pieces f))

        ends_sending : (ok : Bool) (t : List Act) (r : Answered) → after_sending later ok t r → t ≡ []
        ends_sending true t r h = h.0
        ends_sending false t r h = h.0

        sending : (more : List Entry) (r : Answered) (t : List Act) (b : Outside) → more ≡ kept_for s c.request → Then (Hosted (Sends (SpellsFrame p) frames_for)) (after_sending later) t r → Fits (events_in t) m b → StepOver s r (more ++ added_in t) a b
        sending more r t b is h f =
            let parts = fits_parts t h.first h.rest m b h.splits f in
            let none : added_in t ≡ [] = ap added_in h.splits ∙ added_more h.first h.rest ∙ ap (λ (l : List Entry). l ++ added_in h.rest) (nothing_added h.first h.does.0 h.does.1) ∙ ap added_in (ends_sending h.between h.rest r h.goes) in
            let all : more ++ added_in t ≡ kept_for s c.request = ap (λ (l : List Entry). more ++ l) none ∙ append-nil more ∙ is in
            sent_so h.between (more ++ added_in t) r h.does.0 h.rest parts.0 b all h.does.2 h.goes (fits_hosted h.first h.does.0 m parts.0 h.does.1 parts.1) parts.2

        adding : (ok : Bool) (r : Answered) (t u : List Act) (k b : Outside) → Adds (kept_for s c.request) t ok → after_adding p s c ok u r → Fits (events_in t) m k → Fits (events_in u) k b → StepOver s r (added_in t ++ added_in u) a b
        adding true r t u k b adds h f g =
            let all = all_added (kept_for s c.request) t adds in
            let stays : k ≡ m = fits_none t m k all.events f in
            sending (added_in t) r u b all.entries h (subst (λ (o : Outside). Fits (events_in u) o b) stays g)
        adding false r t u k b adds h f g =
            let no = not_added (kept_for s c.request) t (one_for s c.request) adds in
            let stays : k ≡ m = fits_none t m k no.events f in
            let here : StepOver s unkept (added_in t) a m =
            next_failed p s c (Some (given_by a)) (Some (sent_by a)) (Some (given_by m)) (Some (sent_by m)) (given_by m, comes, refl) unmoved (Some es) (Some (es ++ added_in t)) s no.some refl (ap (λ (l : List Entry). Some (es ++ l)) no.entries ∙ none_more) in
            let more : added_in t ++ added_in u ≡ added_in t = ap (λ (l : List Entry). added_in t ++ l) (ap added_in h.0) ∙ append-nil (added_in t) in
            let last : b ≡ m = fits_none u k b (ap events_in h.0) g ∙ stays in
            subst (λ (x : Answered). StepOver s x (added_in t ++ added_in u) a b) (sym h.1) (subst (λ (l : List Entry). StepOver s unkept l a b) (sym more) (subst (λ (o : Outside). StepOver s unkept (added_in t) a o) (sym last) here))

        called : (r : Answered) (t : List Act) (b : Outside) → Then (Adds (kept_for s c.request)) (after_adding p s c) t r → Fits (events_in t) m b → StepOver s r (added_in t) a b
        called r t b h f =
            let parts = fits_parts t h.first h.rest m b h.splits f in
            subst (λ (l : List Entry). StepOver s r l a b) (sym (ap added_in h.splits ∙ added_more h.first h.rest)) (adding h.between r h.first h.rest parts.0 b h.does h.goes parts.1 parts.2)

    -- what follows of a packet
    module _ (s : ServerState) (r : Answered) (t : List Event) (u : List Act) (a m b : Outside) (f : Fits t a m) (g : Fits (events_in u) m b) where
      of_bytes : (bytes : List ℕ) → TakesPacket Link t (whole bytes) → AnswersBytes p s bytes u r → StepOver s r (added_in u) a b
      of_bytes bytes takes (no_call fault refuses none is) =
          let refused : Receives (MeansCall p) (WireRefused p calls) (given_by a) (Some (given_by m)) (Err (session.Wire fault)) =
          record { body = bytes; rest = given_by m; fits = (whole_packet Link t bytes takes).0; parts = packet_left Link t (whole bytes) a m takes f; refused = refuses } in
          still s r (fails s (session.Wire fault)) u a m b none is g (failed s a m (taking_sent t (whole bytes) a m takes f) (session.Wire fault) refused)
      of_bytes bytes takes (answers c means h) =
          let comes : ComesFirst (MeansCall p) c (given_by a) (given_by m) = record { body = bytes; fits = (whole_packet Link t bytes takes).0; parts = packet_left Link t (whole bytes) a m takes f; means = means } in
          called s a m (taking_sent t (whole bytes) a m takes f) c comes r u b h g

      of_packet : (v : PacketView) → TakesPacket Link t v → after_packet p s v u r → StepOver s r (added_in u) a b
      of_packet (whole bytes) takes h = of_bytes bytes takes h
      of_packet packets.none takes h = still s r (has_ended s) u a m b h.0 h.1 g (link_ended s a m (taking_sent t packets.none a m takes f) (packet_left Link t packets.none a m takes f))
      of_packet (packets.wrong (BadLength n)) takes h =
          let left = packet_left Link t (packets.wrong (BadLength n)) a m takes f in
          still s r (fails s (session.Packet (BadLength n))) u a m b h.0 h.1 g (failed s a m (taking_sent t (packets.wrong (BadLength n)) a m takes f) (session.Packet (BadLength n)) (given_by m, left.2, left.1))
      of_packet (packets.wrong (Ended had)) takes h =
          let left = packet_left Link t (packets.wrong (Ended had)) a m takes f in
          let many : length (given_by a) ≡ had = sym left.1 in
          still s r (fails s (session.Packet (Ended had))) u a m b h.0 h.1 g (failed s a m (taking_sent t (packets.wrong (Ended had)) a m takes f) (session.Packet (Ended had)) (many, omega (arith, left.0, many), left.2))
      of_packet packets.broken takes h = still s r (fails s session.LinkFault) u a m b h.0 h.1 g (failed s a m (taking_sent t packets.broken a m takes f) session.LinkFault tt)

    next_over : (s : ServerState) (r : Answered) (t : List Act) (a b : Outside) → AnswersNext p s t r → Fits (events_in t) a b → StepOver s r (added_in t) a b
    next_over s r t a b h f =
        let parts = fits_parts t h.first h.rest a b h.splits f in
        let more : added_in t ≡ added_in h.rest = ap added_in h.splits ∙ added_more h.first h.rest ∙ ap (λ (l : List Entry). l ++ added_in h.rest) (nothing_added h.first h.does.0 h.does.1) in
        subst (λ (l : List Entry). StepOver s r l a b) (sym more) (of_packet s r h.does.0 h.rest a parts.0 b (fits_hosted h.first h.does.0 a parts.0 h.does.1 parts.1) parts.2 h.between h.does.2 h.goes)

  -- ---- turns

  abbrev ManyOver : ServerState → Served → List Act → Outside → Outside → Type 0
  ManyOver s x t a b = StoreSoFar p s x.1 (Some (given_by a)) (Some (sent_by a)) (Some (given_by b)) (Some (sent_by b)) (Some []) (Some (added_in t)) x.0

  -- so many calls were answered
  record Reached (s : ServerState) (x : Served) (t : List Act) (a b : Outside) : Type 0 where
    many : ManyOver s x t a b
    few : x.1 ≤ MAX_FRAMES

  again_is : (x : Served) (v : ServerState) (n : ℕ) → ◌≡◌ {A = Turn Served Session} (again x) (again (v, n + 1)) → (v, n + 1) ≡ x
  again_is x v n is = cc

  -- as a session of a store ends, with this server where its keeper failed
  abbrev store_end : ServerState → Session → StoreEnd ℕ
  store_end u (over t end) = ended t end
  store_end u lost = keeper_failed u

  ends_as_one : (s u : ServerState) (bytes out : List ℕ) (cs : List Numbered) (r : Session) → EndsSession p s bytes out cs (store_end u r) → EndsAs p s bytes out cs r
  ends_as_one s u bytes out cs (over t end) h = h
  ends_as_one s u bytes out cs lost h = h.0

  abbrev EndsOver : ServerState → Session → List Act → Outside → Outside → Type 0
  EndsOver s r t a b = (u : ServerState) × Stores p s (Some (given_by a)) (Some (sent_by a)) (Some (sent_by b)) (Some []) (Some (added_in t)) (store_end u r)

  left_is : (r q : Session) → ◌≡◌ {A = Turn Served Session} (leave r) (leave q) → q ≡ r
  left_is r q is = cc

  -- the turn after those
  module _ (s u : ServerState) (n : ℕ) (t first rest : List Act) (splits : t ≡ first ++ rest) (a m b : Outside) (so : Reached s (u, n) first a m) where
    abbrev all_added_is : Type 0
    all_added_is = added_in t ≡ added_in first ++ added_in rest

    joined : all_added_is
    joined = ap added_in splits ∙ added_more first rest

    module _ (less : n < MAX_FRAMES) (step : List Act) (none : List Act) (parts : rest ≡ step ++ none) (k : Outside) (f : Fits (events_in step) m k) (g : Fits (events_in none) k b) where
      more_is : none ≡ [] → added_in first ++ added_in step ≡ added_in t
      more_is is =
          let last : added_in rest ≡ added_in step = ap added_in parts ∙ added_more step none ∙ ap (λ (l : List Entry). added_in step ++ l) (ap added_in is) ∙ append-nil (added_in step) in
          sym (joined ∙ ap (λ (l : List Entry). added_in first ++ l) last)

      one_on : (x : Served) (r : Answered) → AnswersNext p u step r → Ends (turn_of n r) none (again x) → Reached s x t a b
      one_on x (goes_on v) next ends =
          let stays : b ≡ k = fits_none none k b (ap events_in ends.0) g in
          let more : StoreSoFar p s (n + 1) (Some (given_by a)) (Some (sent_by a)) (Some (given_by k)) (Some (sent_by k)) (Some []) (Some (added_in first ++ added_in step)) v =
          so_far_next p s u n (Some (given_by a)) (Some (sent_by a)) (Some (given_by m)) (Some (sent_by m)) (Some []) (Some (added_in first)) so.many v (Some (given_by k)) (Some (sent_by k)) (Some (added_in first ++ added_in step)) (next_over (added_in first) u (goes_on v) step m k next f) in
          let here : ManyOver s (v, n + 1) t a k = subst (λ (l : List Entry). StoreSoFar p s (n + 1) (Some (given_by a)) (Some (sent_by a)) (Some (given_by k)) (Some (sent_by k)) (Some []) (Some l) v) (more_is ends.0) more in
          subst (λ (y : Served). Reached s y t a b) (again_is x v n ends.1) (subst (λ (o : Outside). Reached s (v, n + 1) t a o) (sym stays) (record { many = here; few = omega (arith, less) }))
      one_on x (has_ended v) next ends = absurd (let no : ◌≡◌ {A = Turn Served Session} (again x) (leave (over v (Ok n))) = ends.1 in cc)
      one_on x (fails v fault) next ends = absurd (let no : ◌≡◌ {A = Turn Served Session} (again x) (leave (over v (Err fault))) = ends.1 in cc)
      one_on x unkept next ends = absurd (let no : ◌≡◌ {A = Turn Served Session} (again x) (leave lost) = ends.1 in cc)

      step_over : (q : Answered) → AnswersNext p u step q → StepOver (added_in first) u q (added_in step) m k
      step_over q next = next_over (added_in first) u q step m k next f

      -- it ends here
      ends_as : (r q : Session) (v : ServerState) → none ≡ [] → ◌≡◌ {A = Turn Served Session} (leave r) (leave q)
          → Stores p s (Some (given_by a)) (Some (sent_by a)) (Some (sent_by k)) (Some []) (Some (added_in first ++ added_in step)) (store_end v q) → EndsOver s r t a b
      ends_as r q v empty is h =
          let stays : b ≡ k = fits_none none k b (ap events_in empty) g in
          let here : EndsOver s q t a k = (v, subst (λ (l : List Entry). Stores p s (Some (given_by a)) (Some (sent_by a)) (Some (sent_by k)) (Some []) (Some l) (store_end v q)) (more_is empty) h) in
          subst (λ (x : Session). EndsOver s x t a b) (left_is r q is) (subst (λ (o : Outside). EndsOver s q t a o) (sym stays) here)

      ended_on : (r : Session) (q : Answered) → AnswersNext p u step q → Ends (turn_of n q) none (leave r) → EndsOver s r t a b
      ended_on r (goes_on v) next ends = absurd (let no : ◌≡◌ {A = Turn Served Session} (leave r) (again (v, n + 1)) = ends.1 in cc)
      ended_on r (has_ended v) next ends =
          ends_as r (over v (Ok n)) v ends.0 ends.1
          (stores_ended p s u n (Some (given_by a)) (Some (sent_by a)) (Some (given_by m)) (Some (sent_by m)) (Some []) (Some (added_in first)) so.many less (Some (given_by k)) (Some (sent_by k)) (Some (added_in first ++ added_in step)) v (step_over (has_ended v) next))
      ended_on r (fails v fault) next ends =
          ends_as r (over v (Err fault)) v ends.0 ends.1
          (stores_stopped p s u n (Some (given_by a)) (Some (sent_by a)) (Some (given_by m)) (Some (sent_by m)) (Some []) (Some (added_in first)) so.many less (Some (given_by k)) (Some (sent_by k)) (Some (added_in first ++ added_in step)) v fault (step_over (fails v fault) next))
      ended_on r unkept next ends =
          ends_as r lost u ends.0 ends.1
          (stores_failed p s u n (Some (given_by a)) (Some (sent_by a)) (Some (given_by m)) (Some (sent_by m)) (Some []) (Some (added_in first)) so.many less (Some (given_by k)) (Some (sent_by k)) (Some (added_in first ++ added_in step)) u (step_over unkept next))

    turn_on : (x : Served) (more : Bool) → ltb n MAX_FRAMES ≡ more → answers_by p more (u, n) rest (again x) → Fits (events_in rest) m b → Reached s x t a b
    turn_on x false is h f = absurd (let no : ◌≡◌ {A = Turn Served Session} (again x) (leave (over u (Err session.TooManyFrames))) = h.1 in cc)
    turn_on x true is h f =
        let parts = fits_parts rest h.first h.rest m b h.splits f in
        one_on (ltb-true n MAX_FRAMES is) h.first h.rest h.splits parts.0 parts.1 parts.2 x h.between h.does h.goes

    full_on : (r : Session) → n ≡ MAX_FRAMES → Ends {A = Turn Served Session} (leave (over u (Err session.TooManyFrames))) rest (leave r) → Fits (events_in rest) m b → EndsOver s r t a b
    full_on r full h f =
        let stays : b ≡ m = fits_none rest m b (ap events_in h.0) f in
        let more : added_in first ≡ added_in t = sym (joined ∙ ap (λ (l : List Entry). added_in first ++ l) (ap added_in h.0) ∙ append-nil (added_in first)) in
        let end : Stores p s (Some (given_by a)) (Some (sent_by a)) (Some (sent_by m)) (Some []) (Some (added_in first)) (ended u (Err session.TooManyFrames)) = stores_full p s u n (Some (given_by a)) (Some (sent_by a)) (Some (given_by m)) (Some (sent_by m)) (Some []) (Some (added_in first)) so.many full in
        let here : EndsOver s (over u (Err session.TooManyFrames)) t a m = (u, subst (λ (l : List Entry). Stores p s (Some (given_by a)) (Some (sent_by a)) (Some (sent_by m)) (Some []) (Some l) (ended u (Err session.TooManyFrames))) more end) in
        subst (λ (x : Session). EndsOver s x t a b) (left_is r (over u (Err session.TooManyFrames)) h.1) (subst (λ (o : Outside). EndsOver s (over u (Err session.TooManyFrames)) t a o) (sym stays) here)

    turn_ends : (r : Session) (more : Bool) → ltb n MAX_FRAMES ≡ more → answers_by p more (u, n) rest (leave r) → Fits (events_in rest) m b → EndsOver s r t a b
    turn_ends r false is h f = full_on r (omega (arith, ltb-false n MAX_FRAMES is, so.few)) h f
    turn_ends r true is h f =
        let parts = fits_parts rest h.first h.rest m b h.splits f in
        ended_on (ltb-true n MAX_FRAMES is) h.first h.rest h.splits parts.0 parts.1 parts.2 r h.between h.does h.goes

  reached_none : (s : ServerState) (x : Served) (t : List Act) (a : Outside) → t ≡ [] → x ≡ (s, 0) → Reached s x t a a
  reached_none s x t a none is =
      subst (λ (y : Served). Reached s y t a a) (sym is)
      (record { many = so_far_first p s s (Some (given_by a)) (Some (sent_by a)) (Some []) (Some (added_in t)) refl (ap (λ (l : List Act). Some (added_in l)) none); few = omega arith })

  reached : (s : ServerState) (t : List Act) (x : Served) (a b : Outside) → Reaches (AnswersOn p) (s, 0) t x → Fits (events_in t) a b → Reached s x t a b
  reached s t x a b (here _ _ empty is) f = subst (λ (o : Outside). Reached s x t a o) (sym (fits_none t a b (ap events_in empty) f)) (reached_none s x t a empty is)
  reached s t x a b (turn _ first rest between _ splits before this) f =
      let parts = fits_parts t first rest a b splits f in
      turn_on s between.0 between.1 t first rest splits a parts.0 b (reached s first between a parts.0 before parts.1) x (ltb between.1 MAX_FRAMES) refl this parts.2

same_entries : (x y : List Entry) → Some x ≡ Some y → x ≡ y
same_entries x y is = cc

pub sessions_answer : SessionsAnswer
sessions_answer p s t r x y h f =
    let parts = fits_parts t h.first h.rest x y h.splits f in
    let n : ℕ = h.between.1 in
    let (u, end) = turn_ends p s h.between.0 n t h.first h.rest h.splits x parts.0 y (reached p s h.first h.between x parts.0 h.does parts.1) r (ltb n MAX_FRAMES) refl h.goes parts.2 in
    record { sent = end.link.0; calls = end.calls; wrote = end.link.1; ends = ends_as_one p s u (given_by x) end.link.0 end.calls r end.link.2; entries = same_entries (added_in t) (kept_in s end.calls) end.appended }
