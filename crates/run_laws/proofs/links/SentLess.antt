-- A session that stops while it sends has sent less than one that ends over the same bytes.
use Rattle.std.proofs.Common.{◌≡◌, ℕ, ◌+◌, ◌<◌, ◌≤◌, List, [], ◌∷◌, ◌++◌, length, length-append, append-nil, true≢false, Some, None, Result, Ok, Err, sym, ap, ◌∙◌, subst, inl, inr, arith}
use Rattle.tl_numbers.specs.Bytes.{AreBytes}
use Rattle.tl_encode.proofs.OneSpelling.{one_spelling}
use Rattle.box_client.specs.Asking.{ticks, wakes}
use Rattle.box_client.specs.States.{ClientState}
use Rattle.box_client.specs.declared.fault.ClientFault.{ClientFault}
use Rattle.box_events.specs.declared.replies.Frame.{Frame}
use Rattle.box_events.specs.declared.requests.Numbered.{Numbered}
use Rattle.box_world.specs.Streams.{begun}
use Rattle.wire_profile.specs.declared.wire_fault.WireFault.{WireFault}
use Rattle.wire_profile.specs.Indexes.{ProfileView, cell_shape}
use Rattle.wire_profile.specs.Profiles.{IsProfile}
use Rattle.wire_profile.specs.SpelledForms.{placed}
use Rattle.wire_values.specs.Calls.{call_tree}
use Rattle.wire_values.specs.CarriedFrames.{IsFrame}
use Rattle.wire_values.specs.Frames.{frame_in, frame_tree}
use Rattle.box_wire.specs.Kinds.{calls, frames}
use Rattle.box_wire.specs.Framing.{WireRefused}
use Rattle.box_wire.proofs.Exactly as exactly
use Rattle.box_wire.proofs.FrameLaws.{frame_formed, frame_laws}
use Rattle.update_sessions.specs.declared.fault.SessionFault.{SessionFault}
use Rattle.update_sessions.specs.declared.fault.SessionFault.TheVariants.{Packet, Wire, Client, TooManyFrames, LinkFault}
use Rattle.update_sessions.specs.declared.fault.TheConstants.{MAX_FRAMES}
use Rattle.update_sessions.specs.Exchanges.{Side, Exchanged}
use Rattle.update_sessions.specs.Heard.{HearsOn, Hears, RefusedFrame, broke_off, asked}
use Rattle.update_sessions.specs.Hearing.{IsTaken, cause_of, client_side}
use Rattle.update_sessions.specs.Packed.{Came, MeansFrame, Packed, SpellsCall}
use Rattle.update_sessions.specs.Receiving.{ComesFirst, RefusedPacket}
use Rattle.session_commands.proofs.OneExchange.{Ended, first_of, goes_on, one_packed, rest_bytes, same_first, same_rest}
use Rattle.session_commands.proofs.OnePacket.{never_packet}
use Rattle.session_commands.proofs.OneReply.{body_bytes}
use Rattle.session_commands.proofs.OneSession.{IsWhole}
use Rattle.session_rooms.specs.Sending.{PartlySent}
use Rattle.run_laws.proofs.serving.WholeSessions.{partly_less}

-- ---- an exchange that stops, and one that ends

module _ {S M N : Type 0} (side : Side S M N) (one : (b : List ℕ) → AreBytes b → (m n : M) → side.means m b → side.means n b → m ≡ n) (spelled : (n : N) (b d : List ℕ) → side.spells n b → side.spells n d → b ≡ d) where
  -- an exchange of ms, after which one more is taken, and only a part of what is sent for it was sent
  module _ (s : S) (bytes left out : List ℕ) (u : S) (ms : List M) (bytes_left : AreBytes left) (few : length ms < MAX_FRAMES) (m : M) (rest part : List ℕ) (comes : ComesFirst side.means m left rest) (takes : side.takes u m)
      (sent : PartlySent side.spells (side.sends u m) part) where
    -- nothing more is taken where it ends
    stopped_there : (after whole : List ℕ) (t : S) (ns : List M) → Ended side s bytes after whole t ns → length ns < MAX_FRAMES → left ≡ after → u ≡ t → ⊥
    stopped_there after whole t ns e less same ends =
        e.stops m rest less (subst (λ (l : List ℕ). ComesFirst side.means m l rest) same comes) (subst (λ (x : S). side.takes x m) ends takes)

    -- the one that ends goes on from there
    on_from_here : (after whole more_out : List ℕ) (t : S) (ns more : List M) → Ended side s bytes after whole t ns → ns ≡ ms ++ more → whole ≡ out ++ more_out → Exchanged side u left after more_out t more → length out + length part < length whole
    on_from_here after whole more_out t ns [] e all wrote x =
        absurd (stopped_there after whole t ns e (subst (λ (l : List M). length l < MAX_FRAMES) (sym (all ∙ append-nil ms)) few) x.came (sym x.ends))
    on_from_here after whole more_out t ns (n ∷ more) e all wrote x =
        let next = first_of side u left after more_out t n more x in
        let same = (same_first side one spelled left rest next.rest m n bytes_left comes next.comes).0 in
        let less = partly_less side.spells spelled (side.sends u m) part next.first sent (subst (λ (k : M). Packed side.spells (side.sends u k) next.first) (sym same) next.wrote) in
        omega (arith, less, ap length wrote, length-append out more_out, ap length next.parts, length-append next.first next.others)

    -- it has ended before
    before_here : (after whole more_out : List ℕ) (t : S) (ns more : List M) → Ended side s bytes after whole t ns → ms ≡ ns ++ more → Exchanged side t after left more_out u more → ⊥
    before_here after whole more_out t ns [] e all x = stopped_there after whole t ns e (subst (λ (l : List M). length l < MAX_FRAMES) (all ∙ append-nil ns) few) (sym x.came) x.ends
    before_here after whole more_out t ns (n ∷ more) e all x =
        let next = first_of side t after left more_out u n more x in
        e.stops n next.rest (omega (arith, few, ap length all, length-append ns (n ∷ more))) next.comes next.takes

    pub sent_less : (after whole : List ℕ) (t : S) (ns : List M) → AreBytes bytes → Exchanged side s bytes left out u ms → Ended side s bytes after whole t ns → length out + length part < length whole
    sent_less after whole t ns are x e = elim (goes_on side one spelled ms ns s bytes left out after whole u t are x e.exchanged) [
      | inl g ↦ on_from_here after whole g.rest t ns g.more e g.all g.wrote g.then_on
      | inr g ↦ absurd (before_here after whole g.rest t ns g.more e g.all g.then_on)
    ]

-- ---- a client's session that ends

some_none : {A : Type 0} (x : A) → None ≡ Some x → ⊥
some_none x e = cc

pub left_bytes : {M : Type 0} (Means : M → List ℕ → Type 0) (ms : List M) (bytes left : List ℕ) → Came Means bytes ms left → AreBytes bytes → AreBytes left
left_bytes Means [] bytes left is are = subst AreBytes is are
left_bytes Means (m ∷ ms) bytes left (b, rest, fits, parts, means, more) are = left_bytes Means ms rest left more (rest_bytes bytes b rest parts are)

module _ (p : ProfileView) (good : IsProfile p) where
  one_frame : (b : List ℕ) → AreBytes b → (f g : Frame) → MeansFrame p f b → MeansFrame p g b → f ≡ g
  one_frame b are f g h k = exactly.one_message p good frames (frame_formed p good) b are frame_tree frame_in IsFrame frame_laws f g h.0 k.0 h.1 k.1

  never_frame : (b : List ℕ) → AreBytes b → (f : Frame) (e : WireFault) → MeansFrame p f b → WireRefused p frames b e → ⊥
  never_frame b are f e h r = exactly.never_both p good frames (frame_formed p good) b are (frame_tree f) h.1 e r

  one_call : (n : Numbered) (b d : List ℕ) → SpellsCall p n b → SpellsCall p n d → b ≡ d
  one_call n b d s r = one_spelling p.schema (placed p (call_tree n)) (cell_shape p calls.cell) b d s r

  wire_stops : (left rest : List ℕ) (m : Frame) (fault : WireFault) → AreBytes left → RefusedPacket (WireRefused p frames) left fault → ComesFirst (MeansFrame p) m left rest → ⊥
  wire_stops left rest m fault are r c =
      let same = same_rest r.body c.body r.rest rest r.fits c.fits (sym r.parts ∙ c.parts) in
      never_frame r.body (body_bytes left r.body r.rest r.parts are) m fault (subst (MeansFrame p m) (sym same.0) c.means) r.refused

  client_stops : (left rest : List ℕ) (d : ClientState) (m f : Frame) (fault : ClientFault) → AreBytes left → RefusedFrame p d left f fault → ComesFirst (MeansFrame p) m left rest → cause_of d m ≡ None → ⊥
  client_stops left rest d m f fault are r c clear =
      some_none fault (sym clear ∙ ap (cause_of d) (same_first (client_side p) one_frame one_call left rest r.rest m f are c r.comes).0 ∙ r.refuses)

  pub record Whole (c : ClientState) (bytes out : List ℕ) : Type 0 where
    pub left : List ℕ
    pub client_after : ClientState
    pub taken : List Frame
    pub ended : Ended (client_side p) c bytes left out client_after taken

  ends_at : (c : ClientState) (bytes left out : List ℕ) (d : ClientState) (fs : List Frame) → Exchanged (client_side p) c bytes left out d fs → length fs ≤ MAX_FRAMES
      → ((m : Frame) (rest : List ℕ) → length fs < MAX_FRAMES → ComesFirst (MeansFrame p) m left rest → IsTaken d m → ⊥) → Whole c bytes out
  ends_at c bytes left out d fs x few stops = record { left = left; client_after = d; taken = fs; ended = record { exchanged = x; few = few; stops = stops } }

  whole_on : (c : ClientState) (bytes out : List ℕ) (d : ClientState) (r : Result ℕ SessionFault) (fs last : List Frame) → AreBytes bytes → IsWhole r → HearsOn p c bytes out d r fs last → Whole c bytes out
  whole_on c bytes out d (Ok n) fs last are whole (left, x, calm, is, most, none) =
      ends_at c bytes left out d fs x (omega (arith, is, most)) (λ m rest less comes takes. true≢false (sym takes.asking ∙ calm))
  whole_on c bytes out d (Err (Packet fault)) fs last are whole (left, still, short, none) =
      let few = still.few in
      ends_at c bytes left out d fs still.exchanged (omega (arith, few)) (λ m rest less comes takes. never_packet left comes.body rest fault short whole comes.fits comes.parts)
  whole_on c bytes out d (Err (Wire fault)) fs last are whole (left, still, refuses, none) =
      let few = still.few in
      let all = left_bytes (MeansFrame p) fs bytes left still.exchanged.came are in
      ends_at c bytes left out d fs still.exchanged (omega (arith, few)) (λ m rest less comes takes. wire_stops left rest m fault all refuses comes)
  whole_on c bytes out d (Err (Client fault)) fs last are whole (left, f, still, refuses, is) =
      let few = still.few in
      let all = left_bytes (MeansFrame p) fs bytes left still.exchanged.came are in
      ends_at c bytes left out d fs still.exchanged (omega (arith, few)) (λ m rest less comes takes. client_stops left rest d m f fault all refuses comes takes.clear)
  whole_on c bytes out d (Err TooManyFrames) fs last are whole (left, x, asks, is, none) =
      ends_at c bytes left out d fs x (omega (arith, is)) (λ m rest less comes takes. absurd (omega (arith, is, less)))
  whole_on c bytes out d (Err LinkFault) fs last are whole h = absurd whole

  -- all that was asked at first, and a session that ends
  pub record Session (c : ClientState) (bytes out : List ℕ) : Type 0 where
    pub first : List ℕ
    pub more : List ℕ
    pub asked_first : Packed (SpellsCall p) (ticks (wakes c)).asks first
    pub parts : out ≡ first ++ more
    pub on : Whole (begun c) bytes more

  pub session_of : (c : ClientState) (bytes out : List ℕ) (d : ClientState) (r : Result ℕ SessionFault) (fs last : List Frame) → AreBytes bytes → IsWhole r → Hears p c bytes out d r fs last → Session c bytes out
  session_of c bytes out d r fs last are whole (broke_off broken part is none empty) = absurd (subst IsWhole broken whole)
  session_of c bytes out d r fs last are whole (asked first more packed parts on) = record { first = first; more = more; asked_first = packed; parts = parts; on = whole_on (begun c) bytes more d r fs last are whole on }

  -- ---- one that stops while it sends

  module _ (c : ClientState) (bytes out : List ℕ) (are : AreBytes bytes) (session : Session c bytes out) where
    -- at first
    pub first_less : (part : List ℕ) → PartlySent (SpellsCall p) (ticks (wakes c)).asks part → length part < length out
    first_less part sent =
        let less = partly_less (SpellsCall p) one_call (ticks (wakes c)).asks part session.first sent session.asked_first in
        omega (arith, less, ap length session.parts, length-append session.first session.more)

    -- after frames
    pub later_less : (first left wrote : List ℕ) (u : ClientState) (fs : List Frame) (f : Frame) (rest part : List ℕ) → Packed (SpellsCall p) (ticks (wakes c)).asks first → Exchanged (client_side p) (begun c) bytes left wrote u fs → length fs < MAX_FRAMES
        → ComesFirst (MeansFrame p) f left rest → IsTaken u f → PartlySent (SpellsCall p) ((client_side p).sends u f) part → length first + (length wrote + length part) < length out
    later_less first left wrote u fs f rest part packed x few comes takes sent =
        let w = session.on in
        let less = sent_less (client_side p) one_frame one_call (begun c) bytes left wrote u fs (left_bytes (MeansFrame p) fs bytes left x.came are) few f rest part comes takes sent w.left session.more w.client_after w.taken are x w.ended in
        let same = one_packed (SpellsCall p) one_call (ticks (wakes c)).asks first session.first packed session.asked_first in
        omega (arith, less, ap length session.parts, length-append session.first session.more, ap length same)
