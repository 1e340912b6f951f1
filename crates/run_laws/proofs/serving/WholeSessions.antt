-- A session over bytes whose link doesn't fail takes each call that comes first, until it is full; and what is sent in part is less than it sends.
use Rattle.std.proofs.Common.{◌≡◌, inl, inr, ℕ, ◌+◌, ◌<◌, ◌≤◌, List, [], ◌∷◌, ◌++◌, length, length-append, sym, ap, subst, arith}
use Rattle.tl_numbers.specs.Bytes.{AreBytes}
use Rattle.tl_base.specs.Packets.{packet}
use Rattle.box_events.specs.declared.requests.Numbered.{Numbered}
use Rattle.box_server.specs.Servers.{ServerState, dated_at}
use Rattle.box_server.specs.declared.entry.Entry.{Entry}
use Rattle.wire_profile.specs.Indexes.{ProfileView}
use Rattle.wire_profile.specs.Profiles.{IsProfile}
use Rattle.update_sessions.specs.declared.fault.TheConstants.{MAX_FRAMES}
use Rattle.update_sessions.specs.Packed.{MeansCall, Packed, SpellsFrame}
use Rattle.update_sessions.specs.Exchanges.{Exchanged, Side}
use Rattle.update_sessions.specs.Receiving.{ComesFirst}
use Rattle.update_sessions.specs.Serving.{sent_for, server_side}
use Rattle.session_commands.specs.Serve.{SessionEnd, IsWhole, Session}
use Rattle.session_commands.proofs.OneExchange.{Ended, first_of, goes_on, same_first}
use Rattle.session_commands.proofs.OnePacket.{packet_is_long}
use Rattle.session_commands.proofs.OneServed.{came_bytes, closed, one_frame, one_of}
use Rattle.session_rooms.specs.Sending.{PartlySent}

-- ---- what is sent in part is less than all

module _ {N : Type 0} (Spells : N → List ℕ → Type 0) (one : (m : N) (b d : List ℕ) → Spells m b → Spells m d → b ≡ d) where
  pub partly_less : (ms : List N) (part full : List ℕ) → PartlySent Spells ms part → Packed Spells ms full → length part < length full
  partly_less [] part full h p = absurd h
  partly_less (m ∷ ms) part full (inl none) (b, rest, s, is, p) = omega (arith, ap length none, packet_is_long full b rest is)
  partly_less (m ∷ ms) part full (inr (d, t, inl (more, at, some))) (b, rest, s, is, p) =
      let same : packet d ≡ packet b = ap packet (one m d b t s) in
      omega (arith, some, ap length at, ap length same, ap length is, length-append part more, length-append (packet b) rest)
  partly_less (m ∷ ms) part full (inr (d, t, inr (more, at, h))) (b, rest, s, is, p) =
      let same : packet d ≡ packet b = ap packet (one m d b t s) in
      omega (arith, partly_less ms more rest h p, ap length at, ap length same, ap length is, length-append (packet d) more, length-append (packet b) rest)

-- ---- a message that comes first is taken

module _ {S M N : Type 0} (side : Side S M N) where
  module _ (one : (b : List ℕ) → AreBytes b → (m n : M) → side.means m b → side.means n b → m ≡ n) (spelled : (n : N) (b d : List ℕ) → side.spells n b → side.spells n d → b ≡ d) where
    -- after these a message comes first: what is sent for it was sent
    pub record Takes (u : S) (m : M) (wrote out : List ℕ) : Type 0 where
      pub first : List ℕ
      pub packed : Packed side.spells (side.sends u m) first
      pub few : length wrote + length first ≤ length out

    module _ (s : S) (bytes : List ℕ) (are : AreBytes bytes) (left out : List ℕ) (t : S) (ms : List M) (e : Ended side s bytes left out t ms) (mid wrote : List ℕ) (u : S) (ns : List M) (bytes_left : AreBytes mid) (f : Exchanged side s bytes mid wrote u ns) (few : length ns < MAX_FRAMES) (m : M) (rest : List ℕ) (comes : ComesFirst side.means m mid rest)
        (takes : (x : S) → side.takes x m) where
      ends_here : mid ≡ left → length ms < MAX_FRAMES → ⊥
      ends_here same less = e.stops m rest less (subst (λ (l : List ℕ). ComesFirst side.means m l rest) same comes) (takes t)

      on_from : (more : List M) (after : List ℕ) → ms ≡ ns ++ more → out ≡ wrote ++ after → Exchanged side u mid left after t more → Takes u m wrote out
      on_from [] after all is then_on = absurd (ends_here then_on.came (omega (arith, few, ap length all, length-append ns [])))
      on_from (k ∷ more) after all is then_on =
          let h = first_of side u mid left after t k more then_on in
          let same = same_first side one spelled mid rest h.rest m k bytes_left comes h.comes in
          record {
            first = h.first;
            packed = subst (λ (x : M). Packed side.spells (side.sends u x) h.first) (sym same.0) h.wrote;
            few = omega (arith, ap length is, ap length h.parts, length-append wrote after, length-append h.first h.others);
          }

      back_to : (more : List M) (after : List ℕ) → ns ≡ ms ++ more → Exchanged side t left mid after u more → ⊥
      back_to [] after all then_on = ends_here (sym then_on.came) (omega (arith, few, ap length all, length-append ms []))
      back_to (k ∷ more) after all then_on =
          let h = first_of side t left mid after u k more then_on in
          e.stops k h.rest (omega (arith, few, ap length all, length-append ms (k ∷ more))) h.comes h.takes

      pub taken_next : Takes u m wrote out
      taken_next = elim (goes_on side one spelled ns ms s bytes mid wrote left out u t are f e.exchanged) as (λ z. Takes u m wrote out) [
        | inl g ↦ on_from g.more g.rest g.all g.wrote g.then_on
        | inr g ↦ absurd (back_to g.more g.rest g.all g.then_on)
      ]

-- ---- a server's session

module _ (p : ProfileView) (good : IsProfile p) where
  -- After these calls one more comes first, and a part of what is due for it was sent: that is less than what the session sends.
  pub sends_more : (s : ServerState) (now : ℕ) (bytes : List ℕ) → AreBytes bytes → (out : List ℕ) (t : ServerState) (more : List Entry) (e : SessionEnd) → Session p s now bytes out t more e → IsWhole e
      → (mid wrote part : List ℕ) (u : ServerState) (cs : List Numbered) → Exchanged (server_side p) (dated_at s now) bytes mid wrote u cs → length cs < MAX_FRAMES → (c : Numbered) (rest : List ℕ) → ComesFirst (MeansCall p) c mid rest
      → PartlySent (SpellsFrame p) (sent_for u c.number c.request) part → length wrote + length part < length out
  sends_more s now bytes are out t more e h whole mid wrote part u cs ex few c rest comes sent =
      let end = closed p good (dated_at s now) bytes are out t h.answer h.calls e h.serves h.word h.ended whole in
      let taken = taken_next (server_side p) (one_of p good) (one_frame p good) (dated_at s now) bytes are end.left out t h.calls end.ended mid wrote u cs (came_bytes p good bytes cs mid ex.came are) ex few c rest comes (λ x. tt) in
      let less = partly_less (SpellsFrame p) (one_frame p good) (sent_for u c.number c.request) part taken.first sent taken.packed in
      omega (arith, less, taken.few)
