-- Over bytes a server's session is one: it takes the same calls, sends the same for them, and ends so.
use Rattle.std.proofs.Common.{◌≡◌, ℕ, ◌<◌, ◌≤◌, List, [], ◌∷◌, ◌++◌, length, Result, Ok, Err, refl, sym, ap, ◌∙◌, subst, arith, inl, inr}
use Rattle.tl_numbers.specs.Bytes.{AreBytes}
use Rattle.tl_base.specs.Packets.{IsPacketLength, packet}
use Rattle.tl_base.specs.declared.packet.PacketCause.{PacketCause}
use Rattle.tl_base.specs.declared.packet.PacketCause.TheVariants as packets
use Rattle.tl_encode.proofs.OneSpelling.{one_spelling}
use Rattle.box_events.specs.declared.replies.Frame.{Frame}
use Rattle.box_events.specs.declared.requests.Numbered.{Numbered}
use Rattle.box_server.specs.Servers.{ServerState, dated_at}
use Rattle.box_server.specs.declared.entry.Entry.{Entry}
use Rattle.wire_profile.specs.declared.wire_fault.WireFault.{WireFault}
use Rattle.wire_profile.specs.Indexes.{ProfileView, cell_shape}
use Rattle.wire_profile.specs.Profiles.{IsProfile}
use Rattle.wire_profile.specs.SpelledForms.{placed}
use Rattle.wire_values.specs.Frames.{frame_tree}
use Rattle.box_wire.specs.Kinds.{calls, frames}
use Rattle.box_wire.specs.Framing.{WireRefused}
use Rattle.box_wire.proofs.Exactly as exactly
use Rattle.update_sessions.specs.declared.fault.SessionFault.{SessionFault}
use Rattle.update_sessions.specs.declared.fault.SessionFault.TheVariants as fault
use Rattle.update_sessions.specs.declared.fault.TheConstants.{MAX_FRAMES}
use Rattle.update_sessions.specs.Packed.{Came, MeansCall, NoPacket, SpellsFrame}
use Rattle.update_sessions.specs.Exchanges.{Exchanged}
use Rattle.update_sessions.specs.Receiving.{RefusedPacket}
use Rattle.update_sessions.specs.Kept.{kept_in}
use Rattle.update_sessions.specs.Served.{Serves}
use Rattle.update_sessions.specs.Serving.{server_side}
use Rattle.session_commands.specs.Post.{IsWordLong}
use Rattle.session_commands.specs.Serve.{SessionEnd, end_of, IsShortEnd, IsWhole, Session}
use Rattle.session_commands.proofs.OnePacket.{never_packet, one_packet_fault, same_packet}
use Rattle.session_commands.proofs.OneCall.{never_call, one_call}
use Rattle.session_commands.proofs.OneReply.{body_bytes}
use Rattle.session_commands.proofs.OneExchange.{Ended, AreOne, one_ended, rest_bytes}

module _ (p : ProfileView) (good : IsProfile p) where
  pub one_of : (b : List ℕ) → AreBytes b → (m n : Numbered) → MeansCall p m b → MeansCall p n b → m ≡ n
  one_of b are m n means says = one_call p good b are m n means says

  pub one_frame : (f : Frame) (x y : List ℕ) → SpellsFrame p f x → SpellsFrame p f y → x ≡ y
  one_frame f x y s r = one_spelling p.schema (placed p (frame_tree f)) (cell_shape p frames.cell) x y s r

  pub came_bytes : (bytes : List ℕ) (cs : List Numbered) (left : List ℕ) → Came (MeansCall p) bytes cs left → AreBytes bytes → AreBytes left
  came_bytes bytes [] left is are = subst AreBytes is are
  came_bytes bytes (m ∷ cs) left (b, rest, fits, parts, means, c) are = came_bytes rest cs left c (rest_bytes bytes b rest parts are)

  -- ---- how a session ends

  -- why no call follows, by what is left after so many
  EndsWith : List ℕ → ℕ → Result ℕ SessionFault → Type 0
  EndsWith left n (Ok k) = (left ≡ []) × (k ≡ n) × (n < MAX_FRAMES)
  EndsWith left n (Err (fault.Packet f)) = NoPacket left f × IsWordLong f × (n < MAX_FRAMES)
  EndsWith left n (Err (fault.Wire f)) = RefusedPacket (WireRefused p calls) left f × (n < MAX_FRAMES)
  EndsWith left n (Err (fault.Client f)) = ⊥
  EndsWith left n (Err fault.TooManyFrames) = n ≡ MAX_FRAMES
  EndsWith left n (Err fault.LinkFault) = ⊥

  never_empty : (left b rest : List ℕ) → left ≡ [] → IsPacketLength (length b) → left ≡ packet b ++ rest → ⊥
  never_empty left b rest none fits parts = never_packet left b rest (packets.Ended 0) (inl (none, refl)) tt fits parts

  -- no call begins what is left, unless as many came as a session takes
  never_more : (left : List ℕ) → AreBytes left → (n : ℕ) (r : Result ℕ SessionFault) → EndsWith left n r → n < MAX_FRAMES → (m : Numbered) (b rest : List ℕ) → IsPacketLength (length b) → left ≡ packet b ++ rest → MeansCall p m b → ⊥
  unfolding EndsWith
  never_more left are n (Ok k) ends few m b rest fits parts means = never_empty left b rest ends.0 fits parts
  never_more left are n (Err (fault.Packet f)) ends few m b rest fits parts means = never_packet left b rest f (inr ends.0) ends.1 fits parts
  never_more left are n (Err (fault.Wire f)) ends few m b rest fits parts means =
      let h = ends.0 in
      let same : h.body ≡ b = same_packet h.body b h.rest rest h.fits fits (sym h.parts ∙ parts) in
      never_call p good b (body_bytes left b rest parts are) m f means (subst (λ (l : List ℕ). WireRefused p calls l f) same h.refused)
  never_more left are n (Err (fault.Client f)) ends few m b rest fits parts means = ends
  never_more left are n (Err fault.TooManyFrames) ends few m b rest fits parts means = omega (arith, ends, few)
  never_more left are n (Err fault.LinkFault) ends few m b rest fits parts means = ends

  pub record Closed (s : ServerState) (bytes out : List ℕ) (t : ServerState) (r : Result ℕ SessionFault) (cs : List Numbered) : Type 0 where
    pub left : List ℕ
    pub ended : Ended (server_side p) s bytes left out t cs
    ends : EndsWith left (length cs) r

  closed_by : (s : ServerState) (bytes : List ℕ) → AreBytes bytes → (out : List ℕ) (t : ServerState) (r : Result ℕ SessionFault) (cs : List Numbered) (left : List ℕ) → Exchanged (server_side p) s bytes left out t cs → length cs ≤ MAX_FRAMES
      → EndsWith left (length cs) r → Closed s bytes out t r cs
  closed_by s bytes are out t r cs left ex few ends = record {
    left = left;
    ended = record {
      exchanged = ex;
      few = few;
      stops = λ m rest less first takes. never_more left (came_bytes bytes cs left ex.came are) (length cs) r ends less m first.body rest first.fits first.parts first.means;
    };
    ends = ends;
  }

  pub closed : (s : ServerState) (bytes : List ℕ) → AreBytes bytes → (out : List ℕ) (t : ServerState) (r : Result ℕ SessionFault) (cs : List Numbered) (e : SessionEnd) → Serves p s bytes out t r cs → IsShortEnd r → end_of r ≡ e → IsWhole e → Closed s bytes out t r cs
  unfolding EndsWith
  closed s bytes are out t (Ok n) cs e (ex, is, few) word at whole = closed_by s bytes are out t (Ok n) cs [] ex (omega (arith, is, few)) (refl, is, omega (arith, is, few))
  closed s bytes are out t (Err (fault.Packet f)) cs e (left, ex, few, none) word at whole = closed_by s bytes are out t (Err (fault.Packet f)) cs left ex (omega (arith, few)) (none, word, few)
  closed s bytes are out t (Err (fault.Wire f)) cs e (left, ex, few, refused) word at whole = closed_by s bytes are out t (Err (fault.Wire f)) cs left ex (omega (arith, few)) (refused, few)
  closed s bytes are out t (Err (fault.Client f)) cs e serves word at whole = absurd serves
  closed s bytes are out t (Err fault.TooManyFrames) cs e (left, ex, all) word at whole = closed_by s bytes are out t (Err fault.TooManyFrames) cs left ex (omega (arith, all)) all
  closed s bytes are out t (Err fault.LinkFault) cs e serves word at whole = absurd (subst IsWhole (sym at) whole)

  -- ---- what is left tells how a session ends

  ends_empty : (left : List ℕ) (f : PacketCause) → left ≡ [] → NoPacket left f → IsWordLong f → ⊥
  ends_empty left f none lacks word =
      let at : packets.Ended 0 ≡ f = one_packet_fault left (packets.Ended 0) f (inl (none, refl)) (inr lacks) tt word in
      let h : NoPacket left (packets.Ended 0) = subst (NoPacket left) (sym at) lacks in
      omega (arith, h.1)

  one_result : (left : List ℕ) → AreBytes left → (n : ℕ) (r q : Result ℕ SessionFault) → EndsWith left n r → EndsWith left n q → r ≡ q
  unfolding EndsWith
  one_result left are n (Ok j) (Ok k) h g = ap (λ (z : ℕ). Ok z) (h.1 ∙ sym g.1)
  one_result left are n (Ok j) (Err (fault.Packet f)) h g = absurd (ends_empty left f h.0 g.0 g.1)
  one_result left are n (Ok j) (Err (fault.Wire f)) h g = absurd (never_empty left g.0.body g.0.rest h.0 g.0.fits g.0.parts)
  one_result left are n (Ok j) (Err fault.TooManyFrames) h g = absurd (omega (arith, h.2, g))
  one_result left are n (Ok j) (Err (fault.Client f)) h g = absurd g
  one_result left are n (Ok j) (Err fault.LinkFault) h g = absurd g
  one_result left are n (Err (fault.Packet e)) (Ok k) h g = absurd (ends_empty left e g.0 h.0 h.1)
  one_result left are n (Err (fault.Packet e)) (Err (fault.Packet f)) h g = ap (λ (z : PacketCause). Err (fault.Packet z)) (one_packet_fault left e f (inr h.0) (inr g.0) h.1 g.1)
  one_result left are n (Err (fault.Packet e)) (Err (fault.Wire f)) h g = absurd (never_packet left g.0.body g.0.rest e (inr h.0) h.1 g.0.fits g.0.parts)
  one_result left are n (Err (fault.Packet e)) (Err fault.TooManyFrames) h g = absurd (omega (arith, h.2, g))
  one_result left are n (Err (fault.Packet e)) (Err (fault.Client f)) h g = absurd g
  one_result left are n (Err (fault.Packet e)) (Err fault.LinkFault) h g = absurd g
  one_result left are n (Err (fault.Wire e)) (Ok k) h g = absurd (never_empty left h.0.body h.0.rest g.0 h.0.fits h.0.parts)
  one_result left are n (Err (fault.Wire e)) (Err (fault.Packet f)) h g = absurd (never_packet left h.0.body h.0.rest f (inr g.0) g.1 h.0.fits h.0.parts)
  one_result left are n (Err (fault.Wire e)) (Err (fault.Wire f)) h g =
      let same : h.0.body ≡ g.0.body = same_packet h.0.body g.0.body h.0.rest g.0.rest h.0.fits g.0.fits (sym h.0.parts ∙ g.0.parts) in
      ap (λ (z : WireFault). Err (fault.Wire z)) (exactly.one_fault p good calls tt g.0.body (body_bytes left g.0.body g.0.rest g.0.parts are) e f (subst (λ (l : List ℕ). WireRefused p calls l e) same h.0.refused) g.0.refused)
  one_result left are n (Err (fault.Wire e)) (Err fault.TooManyFrames) h g = absurd (omega (arith, h.1, g))
  one_result left are n (Err (fault.Wire e)) (Err (fault.Client f)) h g = absurd g
  one_result left are n (Err (fault.Wire e)) (Err fault.LinkFault) h g = absurd g
  one_result left are n (Err fault.TooManyFrames) (Ok k) h g = absurd (omega (arith, h, g.2))
  one_result left are n (Err fault.TooManyFrames) (Err (fault.Packet f)) h g = absurd (omega (arith, h, g.2))
  one_result left are n (Err fault.TooManyFrames) (Err (fault.Wire f)) h g = absurd (omega (arith, h, g.1))
  one_result left are n (Err fault.TooManyFrames) (Err fault.TooManyFrames) h g = refl
  one_result left are n (Err fault.TooManyFrames) (Err (fault.Client f)) h g = absurd g
  one_result left are n (Err fault.TooManyFrames) (Err fault.LinkFault) h g = absurd g
  one_result left are n (Err (fault.Client f)) q h g = absurd h
  one_result left are n (Err fault.LinkFault) q h g = absurd h

  -- ---- the session of a connection

  module _ (s : ServerState) (now : ℕ) (bytes : List ℕ) (are : AreBytes bytes) where
    closed_so : (out : List ℕ) (t : ServerState) (more : List Entry) (e : SessionEnd) (h : Session p s now bytes out t more e) → IsWhole e → Closed (dated_at s now) bytes out t h.answer h.calls
    closed_so out t more e h whole = closed (dated_at s now) bytes are out t h.answer h.calls e h.serves h.word h.ended whole

    pub record SameSession (out o : List ℕ) (t u : ServerState) (more also_more : List Entry) (e d : SessionEnd) : Type 0 where
      pub sent : out ≡ o
      pub server : t ≡ u
      pub entries : more ≡ also_more
      pub end_is : e ≡ d

    pub one_session : (out o : List ℕ) (t u : ServerState) (more also_more : List Entry) (e d : SessionEnd) → Session p s now bytes out t more e → Session p s now bytes o u also_more d → IsWhole e → IsWhole d → SameSession out o t u more also_more e d
    one_session out o t u more also_more e d h k whole also =
        let first = closed_so out t more e h whole in
        let second = closed_so o u also_more d k also in
        let one : AreOne (server_side p) first.left out t h.calls second.left o u k.calls = one_ended (server_side p) one_of one_frame (dated_at s now) bytes first.left out t h.calls second.left o u k.calls are first.ended second.ended in
        let left = came_bytes bytes h.calls first.left first.ended.exchanged.came are in
        let there : EndsWith first.left (length h.calls) k.answer = subst (λ (l : List ℕ). EndsWith l (length h.calls) k.answer) one.left_same (subst (λ (cs : List Numbered). EndsWith second.left (length cs) k.answer) one.all second.ends) in
        let result : h.answer ≡ k.answer = one_result first.left left (length h.calls) h.answer k.answer first.ends there in
        record { sent = sym one.wrote; server = sym one.ends; entries = h.entries ∙ ap (kept_in (dated_at s now)) (sym one.all) ∙ sym k.entries; end_is = sym h.ended ∙ ap end_of result ∙ k.ended }
