-- What a client's session does over bytes is one, and no other may ask for more.
use Rattle.std.proofs.Common.{◌≡◌, ℕ, ◌<◌, ◌≤◌, List, [], ◌∷◌, ◌++◌, length, true, false, true≢false, Some, None, Result, Ok, Err, refl, sym, ap, ap₂, ◌∙◌, subst, arith}
use Rattle.tl_numbers.specs.Bytes.{AreBytes}
use Rattle.tl_base.specs.declared.packet.PacketCause.{PacketCause}
use Rattle.tl_encode.proofs.OneSpelling.{one_spelling}
use Rattle.box_events.specs.declared.replies.Frame.{Frame}
use Rattle.box_events.specs.declared.requests.Numbered.{Numbered}
use Rattle.box_client.specs.Asking.{is_one_asking, ticks, wakes}
use Rattle.box_client.specs.States.{ClientState}
use Rattle.box_client.specs.declared.fault.ClientFault.{ClientFault}
use Rattle.box_world.specs.Streams.{begun}
use Rattle.wire_profile.specs.declared.wire_fault.WireFault.{WireFault}
use Rattle.wire_profile.specs.Indexes.{ProfileView, cell_shape}
use Rattle.wire_profile.specs.Profiles.{IsProfile}
use Rattle.wire_profile.specs.SpelledForms.{placed}
use Rattle.wire_values.specs.Calls.{call_tree}
use Rattle.wire_values.specs.CarriedFrames.{IsFrame}
use Rattle.wire_values.specs.Frames.{frame_in, frame_tree}
use Rattle.box_wire.specs.Kinds.{calls, frames}
use Rattle.box_wire.specs.Framing.{WireRefused}
use Rattle.box_wire.proofs.Exactly as exactly
use Rattle.box_wire.proofs.FrameLaws.{frame_formed, frame_laws}
use Rattle.update_sessions.specs.declared.fault.SessionFault.{SessionFault}
use Rattle.update_sessions.specs.declared.fault.SessionFault.TheVariants.{Packet, Wire, Client, TooManyFrames, LinkFault}
use Rattle.update_sessions.specs.declared.fault.TheConstants.{MAX_FRAMES}
use Rattle.update_sessions.specs.Exchanges.{Exchanged}
use Rattle.update_sessions.specs.Heard.{NoFrame, RefusedFrame, HearsOn, Hears, broke_off, asked}
use Rattle.update_sessions.specs.Hearing.{IsTaken, cause_of, client_side}
use Rattle.update_sessions.specs.Packed.{Came, MeansFrame, Packed, SpellsCall}
use Rattle.update_sessions.specs.Receiving.{ComesFirst, RefusedPacket}
use Rattle.session_commands.specs.Post.{IsWordLong}
use Rattle.session_commands.proofs.OneExchange.{Ended, one_ended, one_packed, rest_bytes, same_first, same_rest}
use Rattle.session_commands.proofs.OnePacket.{never_packet, one_packet_fault}
use Rattle.session_commands.proofs.OneReply.{body_bytes}

-- a session that wasn't broken off; a length that no packet has is one of four bytes
abbrev pub IsWhole : Result ℕ SessionFault → Type 0
IsWhole (Ok n) = Unit {0}
IsWhole (Err (Packet fault)) = IsWordLong fault
IsWhole (Err (Wire fault)) = Unit {0}
IsWhole (Err (Client fault)) = Unit {0}
IsWhole (Err TooManyFrames) = Unit {0}
IsWhole (Err LinkFault) = ⊥

-- what is left of bytes are bytes
left_bytes : {M : Type 0} (Means : M → List ℕ → Type 0) (ms : List M) (bytes left : List ℕ) → Came Means bytes ms left → AreBytes bytes → AreBytes left
left_bytes Means [] bytes left is are = subst AreBytes is are
left_bytes Means (m ∷ ms) bytes left (b, rest, fits, parts, means, more) are = left_bytes Means ms rest left more (rest_bytes bytes b rest parts are)

some_is : {A : Type 0} (x y : A) → Some x ≡ Some y → x ≡ y
some_is x y e = cc

none_some : {A : Type 0} (x : A) → None ≡ Some x → ⊥
none_some x e = cc

module _ (p : ProfileView) (good : IsProfile p) where
  one_frame : (b : List ℕ) → AreBytes b → (f g : Frame) → MeansFrame p f b → MeansFrame p g b → f ≡ g
  one_frame b are f g h k = exactly.one_message p good frames (frame_formed p good) b are frame_tree frame_in IsFrame frame_laws f g h.0 k.0 h.1 k.1

  never_frame : (b : List ℕ) → AreBytes b → (f : Frame) (e : WireFault) → MeansFrame p f b → WireRefused p frames b e → ⊥
  never_frame b are f e h r = exactly.never_both p good frames (frame_formed p good) b are (frame_tree f) h.1 e r

  one_wire : (b : List ℕ) → AreBytes b → (d e : WireFault) → WireRefused p frames b d → WireRefused p frames b e → d ≡ e
  one_wire b are d e r s = exactly.one_fault p good frames (frame_formed p good) b are d e r s

  one_call : (n : Numbered) (b d : List ℕ) → SpellsCall p n b → SpellsCall p n d → b ≡ d
  one_call n b d s r = one_spelling p.schema (placed p (call_tree n)) (cell_shape p calls.cell) b d s r

  first_frame : (bytes r q : List ℕ) (f g : Frame) → AreBytes bytes → ComesFirst (MeansFrame p) f bytes r → ComesFirst (MeansFrame p) g bytes q → f ≡ g
  first_frame bytes r q f g are c d = (same_first (client_side p) one_frame one_call bytes r q f g are c d).0

  -- ---- how a session ends

  -- by what is left, by the client, and by the number of frames
  abbrev EndsSo : List ℕ → ClientState → ℕ → Result ℕ SessionFault → Type 0
  EndsSo left d k (Ok n) = (is_one_asking d ≡ false) × (n ≡ k)
  EndsSo left d k (Err (Packet fault)) = (is_one_asking d ≡ true) × (k < MAX_FRAMES) × NoFrame left fault × IsWordLong fault
  EndsSo left d k (Err (Wire fault)) = (is_one_asking d ≡ true) × (k < MAX_FRAMES) × RefusedPacket (WireRefused p frames) left fault
  EndsSo left d k (Err (Client fault)) = (is_one_asking d ≡ true) × (k < MAX_FRAMES) × (f : Frame) × RefusedFrame p d left f fault
  EndsSo left d k (Err TooManyFrames) = (is_one_asking d ≡ true) × (k ≡ MAX_FRAMES)
  EndsSo left d k (Err LinkFault) = ⊥

  not_asking : (d : ClientState) → is_one_asking d ≡ false → is_one_asking d ≡ true → ⊥
  not_asking d calm asks = true≢false (sym asks ∙ calm)

  wire_stops : (left rest : List ℕ) (m : Frame) (fault : WireFault) → AreBytes left → RefusedPacket (WireRefused p frames) left fault → ComesFirst (MeansFrame p) m left rest → ⊥
  wire_stops left rest m fault are r c =
      let same = same_rest r.body c.body r.rest rest r.fits c.fits (sym r.parts ∙ c.parts) in
      never_frame r.body (body_bytes left r.body r.rest r.parts are) m fault (subst (MeansFrame p m) (sym same.0) c.means) r.refused

  client_stops : (left rest : List ℕ) (d : ClientState) (m f : Frame) (fault : ClientFault) → AreBytes left → RefusedFrame p d left f fault → ComesFirst (MeansFrame p) m left rest → cause_of d m ≡ None → ⊥
  client_stops left rest d m f fault are r c clear =
      none_some fault (sym clear ∙ ap (cause_of d) (first_frame left rest r.rest m f are c r.comes) ∙ r.refuses)

  -- no more is taken
  stops_so : (left : List ℕ) (d : ClientState) (k : ℕ) (r : Result ℕ SessionFault) → AreBytes left → EndsSo left d k r → (m : Frame) (rest : List ℕ) → k < MAX_FRAMES → ComesFirst (MeansFrame p) m left rest → IsTaken d m → ⊥
  stops_so left d k (Ok n) are h m rest less c t = not_asking d h.0 t.asking
  stops_so left d k (Err (Packet fault)) are (asks, few, none, word) m rest less c t = never_packet left c.body rest fault none word c.fits c.parts
  stops_so left d k (Err (Wire fault)) are (asks, few, refused) m rest less c t = wire_stops left rest m fault are refused c
  stops_so left d k (Err (Client fault)) are (asks, few, f, refused) m rest less c t = client_stops left rest d m f fault are refused c t.clear
  stops_so left d k (Err TooManyFrames) are (asks, most) m rest less c t = omega (arith, most, less)
  stops_so left d k (Err LinkFault) are h m rest less c t = h

  few_so : (left : List ℕ) (d : ClientState) (k : ℕ) (r : Result ℕ SessionFault) → EndsSo left d k r → ((n : ℕ) → r ≡ Ok n → n ≤ MAX_FRAMES) → k ≤ MAX_FRAMES
  few_so left d k (Ok n) h most = omega (arith, most n refl, h.1)
  few_so left d k (Err (Packet fault)) h most = omega (arith, h.1)
  few_so left d k (Err (Wire fault)) h most = omega (arith, h.1)
  few_so left d k (Err (Client fault)) h most = omega (arith, h.1)
  few_so left d k (Err TooManyFrames) h most = omega (arith, h.1)
  few_so left d k (Err LinkFault) h most = absurd h

  -- an exchange that ends so
  record EndsAt (c : ClientState) (bytes out : List ℕ) (d : ClientState) (fs : List Frame) (r : Result ℕ SessionFault) : Type 0 where
    left : List ℕ
    bytes_left : AreBytes left
    so : EndsSo left d (length fs) r
    ended : Ended (client_side p) c bytes left out d fs

  ends_by : (c : ClientState) (bytes left out : List ℕ) (d : ClientState) (fs : List Frame) (r : Result ℕ SessionFault) → AreBytes bytes → Exchanged (client_side p) c bytes left out d fs → EndsSo left d (length fs) r
      → ((n : ℕ) → r ≡ Ok n → n ≤ MAX_FRAMES) → EndsAt c bytes out d fs r
  ends_by c bytes left out d fs r are e so most =
      let all = left_bytes (MeansFrame p) fs bytes left e.came are in
      record { left = left; bytes_left = all; so = so; ended = record { exchanged = e; few = few_so left d (length fs) r so most; stops = stops_so left d (length fs) r all so } }

  no_count : (fault : SessionFault) (n : ℕ) → ◌≡◌ {A = Result ℕ SessionFault} (Err fault) (Ok n) → n ≤ MAX_FRAMES
  no_count fault n e = absurd cc

  ok_is : (m n : ℕ) → ◌≡◌ {A = Result ℕ SessionFault} (Ok m) (Ok n) → m ≡ n
  ok_is m n e = cc

  heard_on : (c : ClientState) (bytes out : List ℕ) (d : ClientState) (r : Result ℕ SessionFault) (fs last : List Frame) → AreBytes bytes → IsWhole r → HearsOn p c bytes out d r fs last → EndsAt c bytes out d fs r
  heard_on c bytes out d (Ok n) fs last are whole (left, e, calm, is, most, none) = ends_by c bytes left out d fs (Ok n) are e (calm, is) (λ m same. omega (arith, ok_is n m same, most))
  heard_on c bytes out d (Err (Packet fault)) fs last are whole (left, still, short, none) = ends_by c bytes left out d fs (Err (Packet fault)) are still.exchanged (still.asking, still.few, short, whole) (no_count (Packet fault))
  heard_on c bytes out d (Err (Wire fault)) fs last are whole (left, still, refused, none) = ends_by c bytes left out d fs (Err (Wire fault)) are still.exchanged (still.asking, still.few, refused) (no_count (Wire fault))
  heard_on c bytes out d (Err (Client fault)) fs last are whole (left, f, still, refused, is) = ends_by c bytes left out d fs (Err (Client fault)) are still.exchanged (still.asking, still.few, f, refused) (no_count (Client fault))
  heard_on c bytes out d (Err TooManyFrames) fs last are whole (left, e, asks, is, none) = ends_by c bytes left out d fs (Err TooManyFrames) are e (asks, is) (no_count TooManyFrames)
  heard_on c bytes out d (Err LinkFault) fs last are whole h = absurd whole

  -- all that was asked at first, and then that
  record WholeSession (c : ClientState) (bytes out : List ℕ) (d : ClientState) (r : Result ℕ SessionFault) : Type 0 where
    frames : List Frame
    first : List ℕ
    more : List ℕ
    asked : Packed (SpellsCall p) (ticks (wakes c)).asks first
    parts : out ≡ first ++ more
    ends : EndsAt (begun c) bytes more d frames r

  heard : (c : ClientState) (bytes out : List ℕ) (d : ClientState) (r : Result ℕ SessionFault) (fs last : List Frame) → AreBytes bytes → IsWhole r → Hears p c bytes out d r fs last → WholeSession c bytes out d r
  heard c bytes out d r fs last are whole (broke_off broken part is none empty) = absurd (subst IsWhole broken whole)
  heard c bytes out d r fs last are whole (asked first more packed parts on) = record { frames = fs; first = first; more = more; asked = packed; parts = parts; ends = heard_on (begun c) bytes more d r fs last are whole on }

  same_asked : (c : ClientState) (x y : List ℕ) → Packed (SpellsCall p) (ticks (wakes c)).asks x → Packed (SpellsCall p) (ticks (wakes c)).asks y → x ≡ y
  same_asked c x y h k = one_packed (SpellsCall p) one_call (ticks (wakes c)).asks x y h k

  -- ---- it is one

  one_count : (m n k : ℕ) → m ≡ k → n ≡ k → ◌≡◌ {A = Result ℕ SessionFault} (Ok m) (Ok n)
  one_count m n k is at = ap (λ (x : ℕ). Ok x) (is ∙ sym at)

  same_wire : (left : List ℕ) (d e : WireFault) → AreBytes left → RefusedPacket (WireRefused p frames) left d → RefusedPacket (WireRefused p frames) left e → d ≡ e
  same_wire left d e are r s =
      let same = same_rest r.body s.body r.rest s.rest r.fits s.fits (sym r.parts ∙ s.parts) in
      one_wire r.body (body_bytes left r.body r.rest r.parts are) d e r.refused (subst (λ (b : List ℕ). WireRefused p frames b e) (sym same.0) s.refused)

  same_client : (left : List ℕ) (c : ClientState) (f g : Frame) (d e : ClientFault) → AreBytes left → RefusedFrame p c left f d → RefusedFrame p c left g e → d ≡ e
  same_client left c f g d e are r s =
      let same = first_frame left r.rest s.rest f g are r.comes s.comes in
      some_is d e (sym r.refuses ∙ ap (cause_of c) same ∙ s.refuses)

  wire_client : (left : List ℕ) (c : ClientState) (f : Frame) (d : WireFault) (e : ClientFault) → AreBytes left → RefusedPacket (WireRefused p frames) left d → RefusedFrame p c left f e → ⊥
  wire_client left c f d e are r s = wire_stops left s.rest f d are r s.comes

  packet_wire : (left : List ℕ) (d : PacketCause) (e : WireFault) → NoFrame left d → IsWordLong d → RefusedPacket (WireRefused p frames) left e → ⊥
  packet_wire left d e none word r = never_packet left r.body r.rest d none word r.fits r.parts

  packet_client : (left : List ℕ) (c : ClientState) (f : Frame) (d : PacketCause) (e : ClientFault) → NoFrame left d → IsWordLong d → RefusedFrame p c left f e → ⊥
  packet_client left c f d e none word r = never_packet left r.comes.body r.rest d none word r.comes.fits r.comes.parts

  not_most : (k : ℕ) → k < MAX_FRAMES → k ≡ MAX_FRAMES → ⊥
  not_most k less most = omega (arith, less, most)

  one_end : (left : List ℕ) (d : ClientState) (k : ℕ) (r q : Result ℕ SessionFault) → AreBytes left → EndsSo left d k r → EndsSo left d k q → r ≡ q
  one_end left d k (Ok m) (Ok n) are h g = one_count m n k h.1 g.1
  one_end left d k (Ok m) (Err (Packet f)) are h g = absurd (not_asking d h.0 g.0)
  one_end left d k (Ok m) (Err (Wire f)) are h g = absurd (not_asking d h.0 g.0)
  one_end left d k (Ok m) (Err (Client f)) are h g = absurd (not_asking d h.0 g.0)
  one_end left d k (Ok m) (Err TooManyFrames) are h g = absurd (not_asking d h.0 g.0)
  one_end left d k (Err (Packet f)) (Ok n) are h g = absurd (not_asking d g.0 h.0)
  one_end left d k (Err (Packet f)) (Err (Packet e)) are h g = ap (λ (x : PacketCause). Err (Packet x)) (one_packet_fault left f e h.2 g.2 h.3 g.3)
  one_end left d k (Err (Packet f)) (Err (Wire e)) are h g = absurd (packet_wire left f e h.2 h.3 g.2)
  one_end left d k (Err (Packet f)) (Err (Client e)) are h g = absurd (packet_client left d g.2 f e h.2 h.3 g.3)
  one_end left d k (Err (Packet f)) (Err TooManyFrames) are h g = absurd (not_most k h.1 g.1)
  one_end left d k (Err (Wire f)) (Ok n) are h g = absurd (not_asking d g.0 h.0)
  one_end left d k (Err (Wire f)) (Err (Packet e)) are h g = absurd (packet_wire left e f g.2 g.3 h.2)
  one_end left d k (Err (Wire f)) (Err (Wire e)) are h g = ap (λ (x : WireFault). Err (Wire x)) (same_wire left f e are h.2 g.2)
  one_end left d k (Err (Wire f)) (Err (Client e)) are h g = absurd (wire_client left d g.2 f e are h.2 g.3)
  one_end left d k (Err (Wire f)) (Err TooManyFrames) are h g = absurd (not_most k h.1 g.1)
  one_end left d k (Err (Client f)) (Ok n) are h g = absurd (not_asking d g.0 h.0)
  one_end left d k (Err (Client f)) (Err (Packet e)) are h g = absurd (packet_client left d h.2 e f g.2 g.3 h.3)
  one_end left d k (Err (Client f)) (Err (Wire e)) are h g = absurd (wire_client left d h.2 e f are g.2 h.3)
  one_end left d k (Err (Client f)) (Err (Client e)) are h g = ap (λ (x : ClientFault). Err (Client x)) (same_client left d h.2 g.2 f e are h.3 g.3)
  one_end left d k (Err (Client f)) (Err TooManyFrames) are h g = absurd (not_most k h.1 g.1)
  one_end left d k (Err TooManyFrames) (Ok n) are h g = absurd (not_asking d g.0 h.0)
  one_end left d k (Err TooManyFrames) (Err (Packet e)) are h g = absurd (not_most k g.1 h.1)
  one_end left d k (Err TooManyFrames) (Err (Wire e)) are h g = absurd (not_most k g.1 h.1)
  one_end left d k (Err TooManyFrames) (Err (Client e)) are h g = absurd (not_most k g.1 h.1)
  one_end left d k (Err TooManyFrames) (Err TooManyFrames) are h g = refl
  one_end left d k (Err LinkFault) q are h g = absurd h
  one_end left d k r (Err LinkFault) are h g = absurd g

  -- two sessions over the same bytes
  pub record AreSessions (out : List ℕ) (d : ClientState) (r : Result ℕ SessionFault) (sent : List ℕ) (e : ClientState) (q : Result ℕ SessionFault) : Type 0 where
    pub wrote : sent ≡ out
    pub client : e ≡ d
    pub result : r ≡ q

  both_are : (c : ClientState) (bytes out : List ℕ) (d : ClientState) (r : Result ℕ SessionFault) (sent : List ℕ) (e : ClientState) (q : Result ℕ SessionFault) → AreBytes bytes → WholeSession c bytes out d r → WholeSession c bytes sent e q
      → AreSessions out d r sent e q
  both_are c bytes out d r sent e q are h k =
      let one = one_ended (client_side p) one_frame one_call (begun c) bytes h.ends.left h.more d h.frames k.ends.left k.more e k.frames are h.ends.ended k.ends.ended in
      let frames_same : EndsSo k.ends.left e (length h.frames) q = subst (λ (l : List Frame). EndsSo k.ends.left e (length l) q) one.all k.ends.so in
      let left_same : EndsSo h.ends.left e (length h.frames) q = subst (λ (l : List ℕ). EndsSo l e (length h.frames) q) one.left_same frames_same in
      record {
        wrote = k.parts ∙ ap₂ (λ (x y : List ℕ). x ++ y) (same_asked c k.first h.first k.asked h.asked) one.wrote ∙ sym h.parts;
        client = one.ends;
        result = one_end h.ends.left d (length h.frames) r q h.ends.bytes_left h.ends.so (subst (λ (s : ClientState). EndsSo h.ends.left s (length h.frames) q) one.ends left_same);
      }

  pub one_session : (c : ClientState) (bytes out : List ℕ) (d : ClientState) (r : Result ℕ SessionFault) (fs last : List Frame) (sent : List ℕ) (e : ClientState) (q : Result ℕ SessionFault) (gs end : List Frame)
      → AreBytes bytes → IsWhole r → IsWhole q → Hears p c bytes out d r fs last → Hears p c bytes sent e q gs end → AreSessions out d r sent e q
  one_session c bytes out d r fs last sent e q gs end are whole too h k = both_are c bytes out d r sent e q are (heard c bytes out d r fs last are whole h) (heard c bytes sent e q gs end are too k)
