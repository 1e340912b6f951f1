-- A conversation over a link that gives bytes is a session over them.
use Rattle.std.proofs.Common.{◌≡◌, ℕ, ◌+◌, ◌<◌, ◌≤◌, ltb, List, [], ◌∷◌, ◌++◌, length, append-nil, map, Bool, true, false, Some, Result, Ok, Err, refl, sym, ap, ◌∙◌, subst, inl, inr, arith}
use Rattle.std.proofs.lemmas.Bool.{ltb-true, ltb-false}
use Rattle.tl_base.specs.Outside.{Written, left_of, out_part, written_of}
use Rattle.tl_base.specs.declared.host.Out.TheVariants as outs
use Rattle.tl_base.specs.declared.host.Slot.TheVariants.{Link}
use Rattle.tl_base.specs.declared.packet.PacketCause.TheVariants.{BadLength, Ended}
use Rattle.box_events.specs.declared.replies.Frame.{Frame}
use Rattle.box_client.specs.Asking.{ticks, wakes, is_one_asking}
use Rattle.box_client.specs.States.{ClientState}
use Rattle.box_world.specs.Streams.{begun}
use Rattle.wire_profile.specs.Indexes.{ProfileView}
use Rattle.outside.specs.Events.{Event, Outside, put, write_failed}
use Rattle.outside.specs.Packets.{PacketView, whole, TakesPacket}
use Rattle.outside.specs.Packets as packets
use Rattle.outside.specs.Pieces.{InPieces}
use Rattle.outside.specs.Steps.{Turn, again, leave, Ends, Reaches, here, turn}
use Rattle.outside.proofs.TakenPackets.{keeps_packet, whole_packet}
use Rattle.outside.specs.Fits.{Fits}
use Rattle.outside.proofs.Fitting.{fits_both, writes_append}
use Rattle.outside.proofs.Sparing.{IsReading, reading_leaves, writes_leave}
use Rattle.update_sessions.specs.declared.fault.SessionFault.{SessionFault}
use Rattle.update_sessions.specs.declared.fault.SessionFault.TheVariants as session
use Rattle.update_sessions.specs.declared.fault.TheConstants.{MAX_FRAMES}
use Rattle.update_sessions.specs.Heard as heard_by
use Rattle.update_sessions.specs.Hearing.{client_side, hears}
use Rattle.update_sessions.specs.Honest.{HearsHonestly}
use Rattle.update_sessions.specs.Links.{OverLink}
use Rattle.update_sessions.specs.Packed.{MeansFrame, Packed, PartlyPacked, SpellsCall}
use Rattle.update_sessions.specs.Receiving.{ComesFirst}
use Rattle.update_sessions.specs.inner.Steps as steps
use Rattle.update_sessions.proofs.ClientSteps.{hears_done, hears_full, hears_stopped}
use Rattle.update_sessions.proofs.Exchanging.{cut_none, cut_one, exchanged_one}
use Rattle.update_sessions.proofs.HonestFrames.{begins, honestly}
use Rattle.update_sessions.proofs.Stepping.{many_none, many_then}
use Rattle.session_commands.specs.SessionEnds.{IsShort}
use Rattle.session_rooms.specs.Conversing.{Outcome, Asks, after_asking, HearsBytes, no_frame, refused, heard, after_packet, HearsNext, Heard, turn_of, hears_by, HearsOn, after_begin, Converses}
use Rattle.session_rooms.specs.Sending.{PartlySent, Sends}
use Rattle.session_rooms.proofs.LeftPackets.{packet_left}

-- the session with this outcome over a link that gives these bytes, to which this is written
abbrev pub IsSession : ProfileView → ClientState → List ℕ → List ℕ → Outcome → Type 0
IsSession p c given sent (Ok d) = (frames : ℕ) × HearsHonestly p c given sent d (Ok frames)
IsSession p c given sent (Err fault) = (d : ClientState) × HearsHonestly p c given sent d (Err fault) × IsShort fault

abbrev pub given_by : Outside → List ℕ
given_by s = left_of Link s.view

abbrev pub sent_by : Outside → List ℕ
sent_by s = written_of outs.Link s.view

-- ---- what is sent

-- less than all was put
pub part_put : (part : List ℕ) (t : List Event) (a b : Outside) → InPieces (put outs.Link) part (write_failed outs.Link ∷ []) t → Fits t a b → sent_by b ≡ sent_by a ++ part
part_put part t a b q f =
    let parts = fits_both (map (put outs.Link) q.pieces) (write_failed outs.Link ∷ []) a b (subst (λ (l : List Event). Fits l a b) q.events f) in
    ap sent_by parts.2.2 ∙ (ap (written_of outs.Link) parts.2.1.0
    ∙ writes_append outs.Link part (map (put outs.Link) q.pieces) a parts.0 (record { pieces = q.pieces; events = sym (append-nil (map (put outs.Link) q.pieces)); join = q.join }) parts.1)

-- a packet that is taken leaves what was sent
pub taking_sent : (t : List Event) (v : PacketView) (a b : Outside) → TakesPacket Link t v → Fits t a b → sent_by b ≡ sent_by a
taking_sent t v a b h f = ap (λ (w : Written). out_part outs.Link w) (reading_leaves t a b f (keeps_packet Link IsReading (λ _. tt) tt tt t v h))

pub partly : {M : Type 0} (Spells : M → List ℕ → Type 0) (ms : List M) (part : List ℕ) → PartlySent Spells ms part → PartlyPacked Spells ms part
partly Spells [] part h = absurd h
partly Spells (m ∷ ms) part (inl none) = inl none
partly Spells (m ∷ ms) part (inr (b, spells, inl (rest, is, some))) = inr (b, rest, spells, inl is)
partly Spells (m ∷ ms) part (inr (b, spells, inr (more, is, h))) = inr (b, more, spells, inr (is, partly Spells ms more h))

module _ (p : ProfileView) where
  -- all that is due was asked
  record Asked (c d : ClientState) (a b : Outside) : Type 0 where
    out : List ℕ
    packed : Packed (SpellsCall p) (ticks c).asks out
    is : d ≡ (ticks c).client
    left : given_by b ≡ given_by a
    wrote : sent_by b ≡ sent_by a ++ out

  -- or a part of it, and the link failed
  record AskedPart (c : ClientState) (fault : SessionFault) (a b : Outside) : Type 0 where
    part : List ℕ
    packed : PartlyPacked (SpellsCall p) (ticks c).asks part
    is : fault ≡ session.LinkFault
    wrote : sent_by b ≡ sent_by a ++ part

  sent_all : (c d : ClientState) (ok : Bool) (t u : List Event) (a m b : Outside) → Sends (SpellsCall p) (ticks c).asks t ok → after_asking (ticks c).client ok u (Ok d) → Fits t a m → Fits u m b → Asked c d a b
  sent_all c d true t u a m b (out, packed, pieces) h f g =
      let stays : b ≡ m = subst (λ (l : List Event). Fits l m b) h.0 g in
      record {
        out = out;
        packed = packed;
        is = (let one : ◌≡◌ {A = Outcome} (Ok d) (Ok (ticks c).client) = h.1 in cc);
        left = ap given_by stays ∙ writes_leave outs.Link (left_of Link) (λ bytes v. refl) out t true a m pieces f;
        wrote = ap sent_by stays ∙ writes_append outs.Link out t a m pieces f;
      }
  sent_all c d false t u a m b sends h f g = absurd (let no : ◌≡◌ {A = Outcome} (Ok d) (Err session.LinkFault) = h.1 in cc)

  sent_part : (c : ClientState) (fault : SessionFault) (ok : Bool) (t u : List Event) (a m b : Outside) → Sends (SpellsCall p) (ticks c).asks t ok → after_asking (ticks c).client ok u (Err fault) → Fits t a m → Fits u m b → AskedPart c fault a b
  sent_part c fault true t u a m b sends h f g = absurd (let no : ◌≡◌ {A = Outcome} (Err fault) (Ok (ticks c).client) = h.1 in cc)
  sent_part c fault false t u a m b (part, sent, pieces) h f g =
      let stays : b ≡ m = subst (λ (l : List Event). Fits l m b) h.0 g in
      record {
        part = part;
        packed = partly (SpellsCall p) (ticks c).asks part sent;
        is = (let one : ◌≡◌ {A = Outcome} (Err fault) (Err session.LinkFault) = h.1 in cc);
        wrote = ap sent_by stays ∙ part_put part t a m pieces f;
      }

  asked_all : (c d : ClientState) (t : List Event) (a b : Outside) → Asks p c t (Ok d) → Fits t a b → Asked c d a b
  asked_all c d t a b h f =
      let parts = fits_both h.first h.rest a b (subst (λ (l : List Event). Fits l a b) h.splits f) in
      sent_all c d h.between h.first h.rest a parts.0 b h.does h.goes parts.1 parts.2

  asked_part : (c : ClientState) (fault : SessionFault) (t : List Event) (a b : Outside) → Asks p c t (Err fault) → Fits t a b → AskedPart c fault a b
  asked_part c fault t a b h f =
      let parts = fits_both h.first h.rest a b (subst (λ (l : List Event). Fits l a b) h.splits f) in
      sent_part c fault h.between h.first h.rest a parts.0 b h.does h.goes parts.1 parts.2

  -- ---- one packet

  -- a step of a session over what an outside's link gives
  abbrev NextOver : ClientState → ClientState → Result (Unit {0}) SessionFault → Outside → Outside → Type 0
  NextOver c d r a b = steps.HearsNext p c (Some (given_by a)) (Some (sent_by a)) (Some (given_by b)) (Some (sent_by b)) d r

  comes_first : (frame : Frame) (bytes : List ℕ) (t : List Event) (a m : Outside) → TakesPacket Link t (whole bytes) → MeansFrame p frame bytes → Fits t a m → ComesFirst (MeansFrame p) frame (given_by a) (given_by m)
  comes_first frame bytes t a m takes means f = record { body = bytes; fits = (whole_packet Link t bytes takes).0; parts = packet_left Link t (whole bytes) a m takes f; means = means }

  heard_more : (c d : ClientState) (bytes : List ℕ) (t u : List Event) (a m b : Outside) → TakesPacket Link t (whole bytes) → HearsBytes p c bytes u (Ok d) → Fits t a m → Fits u m b → NextOver c d (Ok tt) a b
  heard_more c d bytes t u a m b takes (no_frame fault refuses none is) f g = absurd (let no : ◌≡◌ {A = Outcome} (Ok d) (Err (session.Wire fault)) = is in cc)
  heard_more c d bytes t u a m b takes (refused fault refuses none is) f g = absurd (let no : ◌≡◌ {A = Outcome} (Ok d) (Err (session.Client fault)) = is in cc)
  heard_more c d bytes t u a m b takes (heard frame means taken asks) f g =
      let asked = asked_all (hears c frame) d u m b asks g in
      let comes = comes_first frame bytes t a m takes means f in
      (frame ∷ [], refl, (given_by m, asked.out, asked.wrote ∙ ap (λ (l : List ℕ). l ++ asked.out) (taking_sent t (whole bytes) a m takes f), ap Some asked.left, exchanged_one (client_side p) c d (given_by a) (given_by m) asked.out frame comes taken asked.packed asked.is))

  packet_more : (c d : ClientState) (v : PacketView) (t u : List Event) (a m b : Outside) → TakesPacket Link t v → after_packet p c v u (Ok d) → Fits t a m → Fits u m b → NextOver c d (Ok tt) a b
  packet_more c d (whole bytes) t u a m b takes h f g = heard_more c d bytes t u a m b takes h f g
  packet_more c d packets.none t u a m b takes h f g = absurd (let no : ◌≡◌ {A = Outcome} (Ok d) (Err (session.Packet (Ended 0))) = h.1 in cc)
  packet_more c d (packets.wrong cause) t u a m b takes h f g = absurd (let no : ◌≡◌ {A = Outcome} (Ok d) (Err (session.Packet cause)) = h.1 in cc)
  packet_more c d packets.broken t u a m b takes h f g = absurd (let no : ◌≡◌ {A = Outcome} (Ok d) (Err session.LinkFault) = h.1 in cc)

  next_more : (c d : ClientState) (t : List Event) (a b : Outside) → HearsNext p c t (Ok d) → Fits t a b → NextOver c d (Ok tt) a b
  next_more c d t a b h f =
      let parts = fits_both h.first h.rest a b (subst (λ (l : List Event). Fits l a b) h.splits f) in
      packet_more c d h.between h.first h.rest a parts.0 b h.does h.goes parts.1 parts.2

  -- why there was no frame
  abbrev Stops : ClientState → SessionFault → Outside → Outside → Type 0
  Stops c fault a b = (d : ClientState) × NextOver c d (Err fault) a b × IsShort fault

  same_fault : (fault other : SessionFault) → ◌≡◌ {A = Outcome} (Err fault) (Err other) → other ≡ fault
  same_fault fault other is = cc

  -- nothing was sent for it
  unsent : (c : ClientState) (fault other : SessionFault) (t u : List Event) (v : PacketView) (a m b : Outside) → TakesPacket Link t v → Fits t a m → Fits u m b → u ≡ [] → ◌≡◌ {A = Outcome} (Err fault) (Err other) → IsShort other
      → steps.HearsNone p c (given_by a) [] c other → Stops c fault a b
  unsent c fault other t u v a m b takes f g none is short h =
      let stays : b ≡ m = subst (λ (l : List Event). Fits l m b) none g in
      subst (λ (e : SessionFault). Stops c e a b) (same_fault fault other is) (c, ([], ap sent_by stays ∙ (taking_sent t v a m takes f ∙ sym (append-nil (sent_by a))), h), short)

  heard_none : (c : ClientState) (fault : SessionFault) (bytes : List ℕ) (t u : List Event) (a m b : Outside) → TakesPacket Link t (whole bytes) → HearsBytes p c bytes u (Err fault) → Fits t a m → Fits u m b → Stops c fault a b
  heard_none c fault bytes t u a m b takes (no_frame wire refuses none is) f g =
      unsent c fault (session.Wire wire) t u (whole bytes) a m b takes f g none is tt
      ((refl, refl), record { body = bytes; rest = given_by m; fits = (whole_packet Link t bytes takes).0; parts = packet_left Link t (whole bytes) a m takes f; refused = refuses })
  heard_none c fault bytes t u a m b takes (refused e refuses none is) f g =
      let comes = comes_first refuses.frame bytes t a m takes refuses.means f in
      unsent c fault (session.Client e) t u (whole bytes) a m b takes f g none is tt
      (refuses.frame, (refl, refl), record { rest = given_by m; comes = comes; refuses = refuses.refuses })
  heard_none c fault bytes t u a m b takes (heard frame means taken asks) f g =
      let asked = asked_part (hears c frame) fault u m b asks g in
      let comes = comes_first frame bytes t a m takes means f in
      let d = (ticks (hears c frame)).client in
      let cut = cut_one (client_side p) c d (given_by a) (given_by m) asked.part frame comes taken asked.packed refl in
      subst (λ (e : SessionFault). Stops c e a b) (sym asked.is)
      (d, (asked.part, asked.wrote ∙ ap (λ (l : List ℕ). l ++ asked.part) (taking_sent t (whole bytes) a m takes f), (frame ∷ [], (omega arith, cut))), tt)

  packet_none : (c : ClientState) (fault : SessionFault) (v : PacketView) (t u : List Event) (a m b : Outside) → TakesPacket Link t v → after_packet p c v u (Err fault) → Fits t a m → Fits u m b → Stops c fault a b
  packet_none c fault (whole bytes) t u a m b takes h f g = heard_none c fault bytes t u a m b takes h f g
  packet_none c fault packets.none t u a m b takes h f g =
      unsent c fault (session.Packet (Ended 0)) t u packets.none a m b takes f g h.0 h.1 tt ((refl, refl), inl (packet_left Link t packets.none a m takes f, refl))
  packet_none c fault (packets.wrong (BadLength n)) t u a m b takes h f g =
      let left = packet_left Link t (packets.wrong (BadLength n)) a m takes f in
      unsent c fault (session.Packet (BadLength n)) t u (packets.wrong (BadLength n)) a m b takes f g h.0 h.1 left.0 ((refl, refl), inr (given_by m, left.2, left.1))
  packet_none c fault (packets.wrong (Ended had)) t u a m b takes h f g =
      let left = packet_left Link t (packets.wrong (Ended had)) a m takes f in
      let many : length (given_by a) ≡ had = sym left.1 in
      unsent c fault (session.Packet (Ended had)) t u (packets.wrong (Ended had)) a m b takes f g h.0 h.1 tt ((refl, refl), inr (many, omega (arith, left.0, many), left.2))
  packet_none c fault packets.broken t u a m b takes h f g =
      unsent c fault session.LinkFault t u packets.broken a m b takes f g h.0 h.1 tt ([], (omega arith, cut_none (client_side p) c c (given_by a) refl))

  next_none : (c : ClientState) (fault : SessionFault) (t : List Event) (a b : Outside) → HearsNext p c t (Err fault) → Fits t a b → Stops c fault a b
  next_none c fault t a b h f =
      let parts = fits_both h.first h.rest a b (subst (λ (l : List Event). Fits l a b) h.splits f) in
      packet_none c fault h.between h.first h.rest a parts.0 b h.does h.goes parts.1 parts.2

  -- ---- turns

  abbrev ManyOver : ClientState → ℕ → Outside → Outside → ClientState → Type 0
  ManyOver c n a b d = steps.SoMany (client_side p) c n (Some (given_by a)) (Some (sent_by a)) (Some (given_by b)) (Some (sent_by b)) d

  -- so many frames were heard
  record Reached (c : ClientState) (h : Heard) (a b : Outside) : Type 0 where
    many : ManyOver c h.1 a b h.0
    few : h.1 ≤ MAX_FRAMES

  again_is : (h : Heard) (d : ClientState) (n : ℕ) → ◌≡◌ {A = Turn Heard Outcome} (again h) (again (d, n + 1)) → (d, n + 1) ≡ h
  again_is h d n is = cc

  one_on : (c u : ClientState) (n : ℕ) (h : Heard) (r : Outcome) (t v : List Event) (a m k b : Outside) → Reached c (u, n) a m → n < MAX_FRAMES → HearsNext p u t r → Ends (turn_of n r) v (again h) → Fits t m k → Fits v k b → Reached c h a b
  one_on c u n h (Ok d) t v a m k b so less next ends f g =
      let stays : b ≡ k = subst (λ (l : List Event). Fits l k b) ends.0 g in
      let more : ManyOver c (n + 1) a k d =
      many_then (client_side p) c u d n 1 (n + 1) (Some (given_by a)) (Some (sent_by a)) (Some (given_by m)) (Some (sent_by m)) (Some (given_by k)) (Some (sent_by k)) so.many (next_more u d t m k next f) refl in
      subst (λ (x : Heard). Reached c x a b) (again_is h d n ends.1) (subst (λ (o : Outside). Reached c (d, n + 1) a o) (sym stays) (record { many = more; few = omega (arith, less) }))
  one_on c u n h (Err fault) t v a m k b so less next ends f g = absurd (let no : ◌≡◌ {A = Turn Heard Outcome} (again h) (leave (Err fault)) = ends.1 in cc)

  turn_on : (c u : ClientState) (n : ℕ) (h : Heard) (asks more : Bool) (t : List Event) (a m b : Outside) → ltb n MAX_FRAMES ≡ more → Reached c (u, n) a m → hears_by p asks more (u, n) t (again h) → Fits t m b → Reached c h a b
  turn_on c u n h false more t a m b is so s f = absurd (let no : ◌≡◌ {A = Turn Heard Outcome} (again h) (leave (Ok u)) = s.1 in cc)
  turn_on c u n h true false t a m b is so s f = absurd (let no : ◌≡◌ {A = Turn Heard Outcome} (again h) (leave (Err session.TooManyFrames)) = s.1 in cc)
  turn_on c u n h true true t a m b is so s f =
      let parts = fits_both s.first s.rest m b (subst (λ (l : List Event). Fits l m b) s.splits f) in
      one_on c u n h s.between s.first s.rest a m parts.0 b so (ltb-true n MAX_FRAMES is) s.does s.goes parts.1 parts.2

  reached_none : (c : ClientState) (h : Heard) (a : Outside) → h ≡ (c, 0) → Reached c h a a
  reached_none c h a is = subst (λ (x : Heard). Reached c x a a) (sym is) (record { many = many_none (client_side p) c (Some (given_by a)) (Some (sent_by a)); few = omega arith })

  reached : (c : ClientState) (t : List Event) (h : Heard) (a b : Outside) → Reaches (HearsOn p) (c, 0) t h → Fits t a b → Reached c h a b
  reached c t h a b (here _ _ empty is) f =
      let stays : b ≡ a = subst (λ (l : List Event). Fits l a b) empty f in
      subst (λ (o : Outside). Reached c h a o) (sym stays) (reached_none c h a is)
  reached c t h a b (turn _ first rest between _ splits before this) f =
      let parts = fits_both first rest a b (subst (λ (l : List Event). Fits l a b) splits f) in
      turn_on c between.0 between.1 h (is_one_asking between.0) (ltb between.1 MAX_FRAMES) rest a parts.0 b refl (reached c first between a parts.0 before parts.1) this parts.2

  -- ---- how it ends

  abbrev HearsOver : ClientState → ClientState → Result ℕ SessionFault → Outside → Outside → Type 0
  HearsOver c d r a b = OverLink (Some (given_by a)) (Some (sent_by a)) (Some (sent_by b)) (λ bytes out. (frames : List Frame) × (last : List Frame) × heard_by.HearsOn p c bytes out d r frames last)

  abbrev Ending : ClientState → Outcome → Outside → Outside → Type 0
  Ending c (Ok d) a b = (n : ℕ) × HearsOver c d (Ok n) a b
  Ending c (Err fault) a b = (d : ClientState) × HearsOver c d (Err fault) a b × IsShort fault

  left_is : (r q : Outcome) → ◌≡◌ {A = Turn Heard Outcome} (leave r) (leave q) → q ≡ r
  left_is r q is = cc

  stopped : (c u : ClientState) (n : ℕ) (q r : Outcome) (t v : List Event) (a m k b : Outside) → Reached c (u, n) a m → n < MAX_FRAMES → is_one_asking u ≡ true → HearsNext p u t q → Ends (turn_of n q) v (leave r) → Fits t m k → Fits v k b → Ending c r a b
  stopped c u n (Ok d) r t v a m k b so less asks next ends f g = absurd (let no : ◌≡◌ {A = Turn Heard Outcome} (leave r) (again (d, n + 1)) = ends.1 in cc)
  stopped c u n (Err fault) r t v a m k b so less asks next ends f g =
      let stays : b ≡ k = subst (λ (l : List Event). Fits l k b) ends.0 g in
      let stop = next_none u fault t m k next f in
      let end : Ending c (Err fault) a k =
      (stop.0, hears_stopped p c u stop.0 n (Some (given_by a)) (Some (sent_by a)) (Some (given_by m)) (Some (sent_by m)) (Some (given_by k)) (Some (sent_by k)) fault less asks so.many stop.1, stop.2) in
      subst (λ (x : Outcome). Ending c x a b) (left_is r (Err fault) ends.1) (subst (λ (o : Outside). Ending c (Err fault) a o) (sym stays) end)

  turn_ends : (c u : ClientState) (n : ℕ) (r : Outcome) (asks more : Bool) (t : List Event) (a m b : Outside) → is_one_asking u ≡ asks → ltb n MAX_FRAMES ≡ more → Reached c (u, n) a m → hears_by p asks more (u, n) t (leave r) → Fits t m b → Ending c r a b
  turn_ends c u n r false more t a m b calm is so s f =
      let stays : b ≡ m = subst (λ (l : List Event). Fits l m b) s.0 f in
      let end : Ending c (Ok u) a m = (n, hears_done p c u n (Some (given_by a)) (Some (sent_by a)) (Some (given_by m)) (Some (sent_by m)) so.few calm so.many) in
      subst (λ (x : Outcome). Ending c x a b) (left_is r (Ok u) s.1) (subst (λ (o : Outside). Ending c (Ok u) a o) (sym stays) end)
  turn_ends c u n r true false t a m b asks is so s f =
      let stays : b ≡ m = subst (λ (l : List Event). Fits l m b) s.0 f in
      let full : n ≡ MAX_FRAMES = omega (arith, ltb-false n MAX_FRAMES is, so.few) in
      let end : Ending c (Err session.TooManyFrames) a m = (u, hears_full p c u n (Some (given_by a)) (Some (sent_by a)) (Some (given_by m)) (Some (sent_by m)) full asks so.many, tt) in
      subst (λ (x : Outcome). Ending c x a b) (left_is r (Err session.TooManyFrames) s.1) (subst (λ (o : Outside). Ending c (Err session.TooManyFrames) a o) (sym stays) end)
  turn_ends c u n r true true t a m b asks is so s f =
      let parts = fits_both s.first s.rest m b (subst (λ (l : List Event). Fits l m b) s.splits f) in
      stopped c u n s.between r s.first s.rest a m parts.0 b so (ltb-true n MAX_FRAMES is) asks s.does s.goes parts.1 parts.2

  loop_ends : (c : ClientState) (h : Heard) (r : Outcome) (t u : List Event) (a m b : Outside) → Reaches (HearsOn p) (c, 0) t h → HearsOn p h u (leave r) → Fits t a m → Fits u m b → Ending c r a b
  loop_ends c h r t u a m b before last f g = turn_ends c h.0 h.1 r (is_one_asking h.0) (ltb h.1 MAX_FRAMES) u a m b refl refl (reached c t h a m before f) last g

  -- ---- from the beginning

  abbrev Session : ClientState → Outcome → Outside → Outside → Type 0
  Session c r a b = (sent : List ℕ) × (sent_by b ≡ sent_by a ++ sent) × IsSession p c (given_by a) sent r

  begun_ends : (c d : ClientState) (r : Outcome) (a m b : Outside) → Asked (wakes c) d a m → Ending d r m b → Session c r a b
  begun_ends c d (Ok e) a m b asked (n, over) =
      let on : HearsOver (begun c) e (Ok n) m b = subst (λ (x : ClientState). HearsOver x e (Ok n) m b) asked.is over in
      let all = begins p c e (Some (given_by a)) (Some (sent_by a)) (Some (given_by m)) (Some (sent_by m)) (Some (sent_by b)) asked.out (Ok n) asked.packed (ap Some (sym asked.left)) asked.wrote on in
      (all.0, all.1, (n, all.2))
  begun_ends c d (Err fault) a m b asked (e, over, short) =
      let on : HearsOver (begun c) e (Err fault) m b = subst (λ (x : ClientState). HearsOver x e (Err fault) m b) asked.is over in
      let all = begins p c e (Some (given_by a)) (Some (sent_by a)) (Some (given_by m)) (Some (sent_by m)) (Some (sent_by b)) asked.out (Err fault) asked.packed (ap Some (sym asked.left)) asked.wrote on in
      (all.0, all.1, (e, all.2, short))

  begun_cut : (c : ClientState) (fault : SessionFault) (a m : Outside) → AskedPart (wakes c) fault a m → Session c (Err fault) a m
  begun_cut c fault a m asked =
      subst (λ (e : SessionFault). Session c (Err e) a m) (sym asked.is)
      (asked.part, asked.wrote, (begun c, honestly p c (begun c) (given_by a) asked.part (Err session.LinkFault) [] [] (heard_by.broke_off refl asked.packed refl refl refl), tt))

  after_first : (c : ClientState) (q r : Outcome) (t u : List Event) (a m b : Outside) → Asks p (wakes c) t q → after_begin p q u r → Fits t a m → Fits u m b → Session c r a b
  after_first c (Ok d) r t u a m b asks h f g =
      let parts = fits_both h.first h.rest m b (subst (λ (l : List Event). Fits l m b) h.splits g) in
      begun_ends c d r a m b (asked_all (wakes c) d t a m asks f) (loop_ends d h.between r h.first h.rest m parts.0 b h.does h.goes parts.1 parts.2)
  after_first c (Err fault) r t u a m b asks h f g =
      let stays : b ≡ m = subst (λ (l : List Event). Fits l m b) h.0 g in
      subst (λ (x : Outcome). Session c x a b) (sym h.1) (subst (λ (o : Outside). Session c (Err fault) a o) (sym stays) (begun_cut c fault a m (asked_part (wakes c) fault t a m asks f)))

-- a conversation is a session over what is left of the link, and the link has what that writes
pub converses_over_bytes : (p : ProfileView) (c : ClientState) (t : List Event) (r : Outcome) (s n : Outside) → Converses p c t r → Fits t s n
    → (sent : List ℕ) × (written_of outs.Link n.view ≡ written_of outs.Link s.view ++ sent) × IsSession p c (left_of Link s.view) sent r
converses_over_bytes p c t r s n h f =
    let parts = fits_both h.first h.rest s n (subst (λ (l : List Event). Fits l s n) h.splits f) in
    after_first p c h.between r h.first h.rest s parts.0 n h.does h.goes parts.1 parts.2
