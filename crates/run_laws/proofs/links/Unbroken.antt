-- A client's session never fails by its link, where no call was told to fail and there is room for what a session sends that ends over the same bytes.
use Rattle.std.proofs.Common.{◌≡◌, ℕ, ◌+◌, ◌<◌, ◌≤◌, ltb, List, [], ◌∷◌, ◌++◌, append_assoc, append-nil, length, length-append, Bool, true, false, Ok, Err, refl, sym, ap, ◌∙◌, subst, arith}
use Rattle.std.proofs.lemmas.Bool.{ltb-true}
use Rattle.tl_numbers.specs.Bytes.{AreBytes}
use Rattle.tl_base.specs.Kinds.{slot_kind}
use Rattle.tl_base.specs.Outside.{left_of}
use Rattle.tl_base.specs.declared.host.Out.TheVariants as outs
use Rattle.tl_base.specs.declared.host.Slot.TheVariants.{Link}
use Rattle.tl_base.specs.declared.packet.PacketCause.TheVariants.{Ended}
use Rattle.box_events.specs.declared.replies.Frame.{Frame}
use Rattle.box_client.specs.Asking.{ticks, wakes, is_one_asking}
use Rattle.box_client.specs.States.{ClientState}
use Rattle.box_world.specs.Streams.{begun}
use Rattle.wire_profile.specs.Indexes.{ProfileView}
use Rattle.wire_profile.specs.Profiles.{IsProfile}
use Rattle.outside.specs.Events.{Event, Outside, put, write_failed}
use Rattle.outside.specs.Packets.{PacketView, whole, TakesPacket}
use Rattle.outside.specs.Packets as packets
use Rattle.outside.specs.Pieces.{InPieces}
use Rattle.outside.specs.Steps.{Turn, again, leave, Ends, Reaches, here, turn}
use Rattle.outside.proofs.TakenPackets.{broken_packet, keeps_packet, whole_packet}
use Rattle.outside.specs.Fits.{Fits}
use Rattle.outside.specs.Reliable.{IsReliable}
use Rattle.outside.proofs.Fitting.{fits_both, fits_keeps, reliable_on, writes_append, writes_fail_full}
use Rattle.outside.proofs.Sparing.{writes_leave}
use Rattle.update_sessions.specs.declared.fault.SessionFault.{SessionFault}
use Rattle.update_sessions.specs.declared.fault.SessionFault.TheVariants as session
use Rattle.update_sessions.specs.declared.fault.TheConstants.{MAX_FRAMES}
use Rattle.update_sessions.specs.Exchanges.{Exchanged}
use Rattle.update_sessions.specs.Hearing.{IsTaken, client_side, hears}
use Rattle.update_sessions.specs.Packed.{MeansFrame, Packed, SpellsCall}
use Rattle.update_sessions.specs.Receiving.{ComesFirst}
use Rattle.update_sessions.proofs.Exchanging.{exchanged_none, exchanged_one, exchanged_then}
use Rattle.session_rooms.specs.Conversing.{Outcome, Asks, after_asking, HearsBytes, no_frame, refused, heard, after_packet, HearsNext, Heard, turn_of, hears_by, HearsOn, after_begin, Converses}
use Rattle.session_rooms.specs.Sending.{PartlySent, Sends}
use Rattle.session_rooms.proofs.ConversedBytes.{given_by, sent_by, taking_sent}
use Rattle.session_rooms.proofs.LeftPackets.{packet_left}
use Rattle.session_rooms.proofs.PostUnfailing.{IsTaken as IsTaking, taken_never}
use Rattle.run_laws.proofs.links.SentLess.{Session, first_less, later_less}

-- the link failed
abbrev pub IsLost : SessionFault → Type 0
IsLost (session.Packet fault) = ⊥
IsLost (session.Wire fault) = ⊥
IsLost (session.Client fault) = ⊥
IsLost session.TooManyFrames = ⊥
IsLost session.LinkFault = Unit {0}

same_fault : (fault other : SessionFault) → ◌≡◌ {A = Outcome} (Err fault) (Err other) → fault ≡ other
same_fault fault other is = cc

lost_as : (fault other : SessionFault) → ◌≡◌ {A = Outcome} (Err fault) (Err other) → IsLost fault → IsLost other
lost_as fault other is lost = subst IsLost (same_fault fault other is) lost

-- ---- what is sent

-- where a part was put and a write failed, there is no room for more
part_fills : (part : List ℕ) (t : List Event) (a b : Outside) → InPieces (put outs.Link) part (write_failed outs.Link ∷ []) t → Fits t a b → IsReliable a → a.view.room ≤ length (sent_by a) + length part
part_fills part t a b q f reliable =
    let more = writes_fail_full outs.Link (part ++ 0 ∷ []) t a b (part, 0 ∷ [], q, refl, omega arith) f reliable in
    omega (arith, more, length-append part (0 ∷ []))

module _ (p : ProfileView) where
  -- all that is due was asked
  record Asked (c d : ClientState) (a b : Outside) : Type 0 where
    out : List ℕ
    packed : Packed (SpellsCall p) (ticks c).asks out
    is : d ≡ (ticks c).client
    left : given_by b ≡ given_by a
    wrote : sent_by b ≡ sent_by a ++ out

  sent_all : (c d : ClientState) (ok : Bool) (t u : List Event) (a m b : Outside) → Sends (SpellsCall p) (ticks c).asks t ok → after_asking (ticks c).client ok u (Ok d) → Fits t a m → Fits u m b → Asked c d a b
  sent_all c d true t u a m b (out, packed, pieces) h f g =
      let stays : b ≡ m = subst (λ (l : List Event). Fits l m b) h.0 g in
      record {
        out = out;
        packed = packed;
        is = (let one : ◌≡◌ {A = Outcome} (Ok d) (Ok (ticks c).client) = h.1 in cc);
        left = ap given_by stays ∙ writes_leave outs.Link (left_of Link) (λ bytes v. refl) out t true a m pieces f;
        wrote = ap sent_by stays ∙ writes_append outs.Link out t a m pieces f;
      }
  sent_all c d false t u a m b sends h f g = absurd (let not : ◌≡◌ {A = Outcome} (Ok d) (Err session.LinkFault) = h.1 in cc)

  asked_all : (c d : ClientState) (t : List Event) (a b : Outside) → Asks p c t (Ok d) → Fits t a b → Asked c d a b
  asked_all c d t a b h f =
      let parts = fits_both h.first h.rest a b (subst (λ (l : List Event). Fits l a b) h.splits f) in
      sent_all c d h.between h.first h.rest a parts.0 b h.does h.goes parts.1 parts.2

  -- or a part of it, and there is no room for more
  abbrev Full : ClientState → Outside → Type 0
  Full c a = (part : List ℕ) × PartlySent (SpellsCall p) (ticks c).asks part × (a.view.room ≤ length (sent_by a) + length part)

  sent_full : (c : ClientState) (fault : SessionFault) (ok : Bool) (t u : List Event) (a m : Outside) → Sends (SpellsCall p) (ticks c).asks t ok → after_asking (ticks c).client ok u (Err fault) → Fits t a m → IsReliable a → Full c a
  sent_full c fault true t u a m sends h f reliable = absurd (let not : ◌≡◌ {A = Outcome} (Err fault) (Ok (ticks c).client) = h.1 in cc)
  sent_full c fault false t u a m (part, sent, pieces) h f reliable = (part, sent, part_fills part t a m pieces f reliable)

  asked_full : (c : ClientState) (fault : SessionFault) (t : List Event) (a b : Outside) → Asks p c t (Err fault) → Fits t a b → IsReliable a → Full c a
  asked_full c fault t a b h f reliable =
      let parts = fits_both h.first h.rest a b (subst (λ (l : List Event). Fits l a b) h.splits f) in
      sent_full c fault h.between h.first h.rest a parts.0 h.does h.goes parts.1 reliable

  -- ---- frames

  comes_first : (frame : Frame) (bytes : List ℕ) (t : List Event) (a m : Outside) → TakesPacket Link t (whole bytes) → MeansFrame p frame bytes → Fits t a m → ComesFirst (MeansFrame p) frame (given_by a) (given_by m)
  comes_first frame bytes t a m takes means f = record { body = bytes; fits = (whole_packet Link t bytes takes).0; parts = packet_left Link t (whole bytes) a m takes f; means = means }

  -- one frame was heard
  record OneMore (c d : ClientState) (a b : Outside) : Type 0 where
    frame : Frame
    out : List ℕ
    wrote : sent_by b ≡ sent_by a ++ out
    exchanged : Exchanged (client_side p) c (given_by a) (given_by b) out d (frame ∷ [])

  heard_more : (c d : ClientState) (bytes : List ℕ) (t u : List Event) (a m b : Outside) → TakesPacket Link t (whole bytes) → HearsBytes p c bytes u (Ok d) → Fits t a m → Fits u m b → OneMore c d a b
  heard_more c d bytes t u a m b takes (no_frame fault refuses none is) f g = absurd (let not : ◌≡◌ {A = Outcome} (Ok d) (Err (session.Wire fault)) = is in cc)
  heard_more c d bytes t u a m b takes (refused fault refuses none is) f g = absurd (let not : ◌≡◌ {A = Outcome} (Ok d) (Err (session.Client fault)) = is in cc)
  heard_more c d bytes t u a m b takes (heard frame means taken asks) f g =
      let asked = asked_all (hears c frame) d u m b asks g in
      let comes = comes_first frame bytes t a m takes means f in
      record {
        frame = frame;
        out = asked.out;
        wrote = asked.wrote ∙ ap (λ (l : List ℕ). l ++ asked.out) (taking_sent t (whole bytes) a m takes f);
        exchanged = subst (λ (l : List ℕ). Exchanged (client_side p) c (given_by a) l asked.out d (frame ∷ [])) (sym asked.left)
            (exchanged_one (client_side p) c d (given_by a) (given_by m) asked.out frame comes taken asked.packed asked.is);
      }

  packet_more : (c d : ClientState) (v : PacketView) (t u : List Event) (a m b : Outside) → TakesPacket Link t v → after_packet p c v u (Ok d) → Fits t a m → Fits u m b → OneMore c d a b
  packet_more c d (whole bytes) t u a m b takes h f g = heard_more c d bytes t u a m b takes h f g
  packet_more c d packets.none t u a m b takes h f g = absurd (let not : ◌≡◌ {A = Outcome} (Ok d) (Err (session.Packet (Ended 0))) = h.1 in cc)
  packet_more c d (packets.wrong cause) t u a m b takes h f g = absurd (let not : ◌≡◌ {A = Outcome} (Ok d) (Err (session.Packet cause)) = h.1 in cc)
  packet_more c d packets.broken t u a m b takes h f g = absurd (let not : ◌≡◌ {A = Outcome} (Ok d) (Err session.LinkFault) = h.1 in cc)

  next_more : (c d : ClientState) (t : List Event) (a b : Outside) → HearsNext p c t (Ok d) → Fits t a b → OneMore c d a b
  next_more c d t a b h f =
      let parts = fits_both h.first h.rest a b (subst (λ (l : List Event). Fits l a b) h.splits f) in
      packet_more c d h.between h.first h.rest a parts.0 b h.does h.goes parts.1 parts.2

  -- ---- turns

  -- so many frames were heard
  record Reached (c : ClientState) (h : Heard) (a b : Outside) : Type 0 where
    taken : List Frame
    out : List ℕ
    many : length taken ≡ h.1
    wrote : sent_by b ≡ sent_by a ++ out
    exchanged : Exchanged (client_side p) c (given_by a) (given_by b) out h.0 taken

  again_is : (h : Heard) (d : ClientState) (n : ℕ) → ◌≡◌ {A = Turn Heard Outcome} (again h) (again (d, n + 1)) → (d, n + 1) ≡ h
  again_is h d n is = cc

  one_on : (c u : ClientState) (n : ℕ) (h : Heard) (r : Outcome) (t v : List Event) (a m k b : Outside) → Reached c (u, n) a m → HearsNext p u t r → Ends (turn_of n r) v (again h) → Fits t m k → Fits v k b → Reached c h a b
  one_on c u n h (Ok d) t v a m k b so next ends f g =
      let stays : b ≡ k = subst (λ (l : List Event). Fits l k b) ends.0 g in
      let more = next_more u d t m k next f in
      let now : Reached c (d, n + 1) a k = record {
        taken = so.taken ++ more.frame ∷ [];
        out = so.out ++ more.out;
        many = omega (arith, length-append so.taken (more.frame ∷ []), so.many);
        wrote = more.wrote ∙ ap (λ (l : List ℕ). l ++ more.out) so.wrote ∙ append_assoc (sent_by a) so.out more.out;
        exchanged = exchanged_then (client_side p) c u d (given_by a) (given_by m) (given_by k) so.out more.out so.taken (more.frame ∷ []) so.exchanged more.exchanged;
      } in
      subst (λ (x : Heard). Reached c x a b) (again_is h d n ends.1) (subst (λ (o : Outside). Reached c (d, n + 1) a o) (sym stays) now)
  one_on c u n h (Err fault) t v a m k b so next ends f g = absurd (let not : ◌≡◌ {A = Turn Heard Outcome} (again h) (leave (Err fault)) = ends.1 in cc)

  turn_on : (c u : ClientState) (n : ℕ) (h : Heard) (asks more : Bool) (t : List Event) (a m b : Outside) → Reached c (u, n) a m → hears_by p asks more (u, n) t (again h) → Fits t m b → Reached c h a b
  turn_on c u n h false more t a m b so s f = absurd (let not : ◌≡◌ {A = Turn Heard Outcome} (again h) (leave (Ok u)) = s.1 in cc)
  turn_on c u n h true false t a m b so s f = absurd (let not : ◌≡◌ {A = Turn Heard Outcome} (again h) (leave (Err session.TooManyFrames)) = s.1 in cc)
  turn_on c u n h true true t a m b so s f =
      let parts = fits_both s.first s.rest m b (subst (λ (l : List Event). Fits l m b) s.splits f) in
      one_on c u n h s.between s.first s.rest a m parts.0 b so s.does s.goes parts.1 parts.2

  reached_none : (c : ClientState) (h : Heard) (a : Outside) → h ≡ (c, 0) → Reached c h a a
  reached_none c h a is =
      subst (λ (x : Heard). Reached c x a a) (sym is) (record { taken = []; out = []; many = refl; wrote = sym (append-nil (sent_by a)); exchanged = exchanged_none (client_side p) c (given_by a) })

  reached : (c : ClientState) (t : List Event) (h : Heard) (a b : Outside) → Reaches (HearsOn p) (c, 0) t h → Fits t a b → Reached c h a b
  reached c t h a b (here _ _ empty is) f =
      let stays : b ≡ a = subst (λ (l : List Event). Fits l a b) empty f in
      subst (λ (o : Outside). Reached c h a o) (sym stays) (reached_none c h a is)
  reached c t h a b (turn _ first rest between _ splits before this) f =
      let parts = fits_both first rest a b (subst (λ (l : List Event). Fits l a b) splits f) in
      turn_on c between.0 between.1 h (is_one_asking between.0) (ltb between.1 MAX_FRAMES) rest a parts.0 b (reached c first between a parts.0 before parts.1) this parts.2

  left_is : (r q : Outcome) → ◌≡◌ {A = Turn Heard Outcome} (leave r) (leave q) → r ≡ q
  left_is r q is = cc

  -- ---- the link doesn't fail

  module _ (good : IsProfile p) (c : ClientState) (given out : List ℕ) (are : AreBytes given) (one : Session p good c given out) where
    -- after the first was asked
    module _ (a : Outside) (first : List ℕ) (packed : Packed (SpellsCall p) (ticks (wakes c)).asks first) (begins : given_by a ≡ given) (wrote : sent_by a ≡ first) (reliable : IsReliable a) (room : length out ≤ a.view.room) where
      frame_never : (u : ClientState) (n : ℕ) (frame : Frame) (bytes : List ℕ) (t : List Event) (m k : Outside) → Reached (begun c) (u, n) a m → n < MAX_FRAMES → TakesPacket Link t (whole bytes) → MeansFrame p frame bytes → IsTaken u frame → Fits t m k
          → k.view.room ≡ a.view.room → Full (hears u frame) k → ⊥
      frame_never u n frame bytes t m k so less takes means taken f same (part, sent, fills) =
          let x = subst (λ (l : List ℕ). Exchanged (client_side p) (begun c) l (given_by m) so.out u so.taken) begins so.exchanged in
          let many = so.many in
          let shorter = later_less p good c given out are one first (given_by m) so.out u so.taken frame (given_by k) part packed x (omega (arith, many, less)) (comes_first frame bytes t m k takes means f) taken sent in
          let total : sent_by k ≡ first ++ so.out = taking_sent t (whole bytes) m k takes f ∙ so.wrote ∙ ap (λ (l : List ℕ). l ++ so.out) wrote in
          absurd (omega (arith, shorter, fills, same, room, ap length total, length-append first so.out))

      bytes_never : (u : ClientState) (n : ℕ) (fault : SessionFault) (bytes : List ℕ) (t v : List Event) (m k b : Outside) → IsLost fault → Reached (begun c) (u, n) a m → n < MAX_FRAMES → TakesPacket Link t (whole bytes) → HearsBytes p u bytes v (Err fault)
          → Fits t m k → Fits v k b → k.view.room ≡ a.view.room → IsReliable k → ⊥
      bytes_never u n fault bytes t v m k b lost so less takes (no_frame wire refuses none is) f g same steady = lost_as fault (session.Wire wire) is lost
      bytes_never u n fault bytes t v m k b lost so less takes (refused e refuses none is) f g same steady = lost_as fault (session.Client e) is lost
      bytes_never u n fault bytes t v m k b lost so less takes (heard frame means taken asks) f g same steady =
          frame_never u n frame bytes t m k so less takes means taken f same (asked_full (hears u frame) fault v k b asks g steady)

      packet_never : (u : ClientState) (n : ℕ) (fault : SessionFault) (x : PacketView) (t v : List Event) (m k b : Outside) → IsLost fault → Reached (begun c) (u, n) a m → n < MAX_FRAMES → TakesPacket Link t x → after_packet p u x v (Err fault)
          → Fits t m k → Fits v k b → m.view.room ≡ a.view.room → IsReliable m → ⊥
      packet_never u n fault (whole bytes) t v m k b lost so less takes h f g same steady =
          let kept = fits_keeps t m k f in
          bytes_never u n fault bytes t v m k b lost so less takes h f g (kept.room ∙ same) (reliable_on m k kept steady)
      packet_never u n fault packets.none t v m k b lost so less takes h f g same steady = lost_as fault (session.Packet (Ended 0)) h.1 lost
      packet_never u n fault (packets.wrong cause) t v m k b lost so less takes h f g same steady = lost_as fault (session.Packet cause) h.1 lost
      packet_never u n fault packets.broken t v m k b lost so less takes h f g same steady =
          taken_never (slot_kind Link) t m k f steady (keeps_packet Link IsTaking (λ _. tt) tt tt t packets.broken takes) (broken_packet Link t takes)

      next_never : (u : ClientState) (n : ℕ) (fault : SessionFault) (t : List Event) (m b : Outside) → IsLost fault → Reached (begun c) (u, n) a m → n < MAX_FRAMES → HearsNext p u t (Err fault) → Fits t m b → m.view.room ≡ a.view.room → IsReliable m → ⊥
      next_never u n fault t m b lost so less h f same steady =
          let parts = fits_both h.first h.rest m b (subst (λ (l : List Event). Fits l m b) h.splits f) in
          packet_never u n fault h.between h.first h.rest m parts.0 b lost so less h.does h.goes parts.1 parts.2 same steady

      stopped_never : (u : ClientState) (n : ℕ) (q : Outcome) (fault : SessionFault) (t v : List Event) (m k : Outside) → IsLost fault → Reached (begun c) (u, n) a m → n < MAX_FRAMES → HearsNext p u t q → Ends (turn_of n q) v (leave (Err fault)) → Fits t m k
          → m.view.room ≡ a.view.room → IsReliable m → ⊥
      stopped_never u n (Ok d) fault t v m k lost so less next ends f same steady = absurd (let not : ◌≡◌ {A = Turn Heard Outcome} (leave (Err fault)) (again (d, n + 1)) = ends.1 in cc)
      stopped_never u n (Err other) fault t v m k lost so less next ends f same steady =
          next_never u n other t m k (lost_as fault other (left_is (Err fault) (Err other) ends.1) lost) so less next f same steady

      turn_never : (u : ClientState) (n : ℕ) (fault : SessionFault) (asks more : Bool) (t : List Event) (m b : Outside) → ltb n MAX_FRAMES ≡ more → IsLost fault → Reached (begun c) (u, n) a m → hears_by p asks more (u, n) t (leave (Err fault)) → Fits t m b
          → m.view.room ≡ a.view.room → IsReliable m → ⊥
      turn_never u n fault false more t m b is lost so s f same steady = absurd (let not : ◌≡◌ {A = Outcome} (Err fault) (Ok u) = left_is (Err fault) (Ok u) s.1 in cc)
      turn_never u n fault true false t m b is lost so s f same steady = lost_as fault session.TooManyFrames (left_is (Err fault) (Err session.TooManyFrames) s.1) lost
      turn_never u n fault true true t m b is lost so s f same steady =
          let parts = fits_both s.first s.rest m b (subst (λ (l : List Event). Fits l m b) s.splits f) in
          stopped_never u n s.between fault s.first s.rest m parts.0 lost so (ltb-true n MAX_FRAMES is) s.does s.goes parts.1 same steady

      loop_never : (h : Heard) (fault : SessionFault) (t u : List Event) (m b : Outside) → IsLost fault → Reaches (HearsOn p) (begun c, 0) t h → HearsOn p h u (leave (Err fault)) → Fits t a m → Fits u m b → ⊥
      loop_never h fault t u m b lost before last f g =
          let kept = fits_keeps t a m f in
          turn_never h.0 h.1 fault (is_one_asking h.0) (ltb h.1 MAX_FRAMES) u m b refl lost (reached (begun c) t h a m before f) last g kept.room (reliable_on a m kept reliable)

    -- ---- from the beginning

    module _ (s : Outside) (begins : given_by s ≡ given) (fresh : sent_by s ≡ []) (reliable : IsReliable s) (room : length out ≤ s.view.room) where
      begun_never : (d : ClientState) (fault : SessionFault) (u : List Event) (m n : Outside) (t : List Event) → IsLost fault → Asked (wakes c) d s m → after_begin p (Ok d) u (Err fault) → Fits t s m → Fits u m n → ⊥
      begun_never d fault u m n t lost asked h f g =
          let parts = fits_both h.first h.rest m n (subst (λ (l : List Event). Fits l m n) h.splits g) in
          let kept = fits_keeps t s m f in
          let same_room = kept.room in
          loop_never m asked.out asked.packed (asked.left ∙ begins) (asked.wrote ∙ ap (λ (l : List ℕ). l ++ asked.out) fresh) (reliable_on s m kept reliable) (omega (arith, room, same_room)) h.between fault h.first h.rest parts.0 n lost
          (subst (λ (x : ClientState). Reaches (HearsOn p) (x, 0) h.first h.between) asked.is h.does) h.goes parts.1 parts.2

      after_first : (q : Outcome) (fault : SessionFault) (t u : List Event) (m n : Outside) → IsLost fault → Asks p (wakes c) t q → after_begin p q u (Err fault) → Fits t s m → Fits u m n → ⊥
      after_first (Ok d) fault t u m n lost asks h f g = begun_never d fault u m n t lost (asked_all (wakes c) d t s m asks f) h f g
      after_first (Err other) fault t u m n lost asks h f g =
          let full = asked_full (wakes c) other t s m asks f reliable in
          let shorter = first_less p good c given out are one full.0 full.1 in
          let fills = full.2 in
          absurd (omega (arith, shorter, fills, room, ap length fresh))

      pub converse_never : (fault : SessionFault) (t : List Event) (n : Outside) → IsLost fault → Converses p c t (Err fault) → Fits t s n → ⊥
      converse_never fault t n lost h f =
          let parts = fits_both h.first h.rest s n (subst (λ (l : List Event). Fits l s n) h.splits f) in
          after_first h.between fault h.first h.rest parts.0 n lost h.does h.goes parts.1 parts.2
