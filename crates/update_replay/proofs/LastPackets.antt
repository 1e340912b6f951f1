-- The last packet that goes to a receiver.
use Rattle.std.proofs.Common.{◌≡◌, ℕ, zero, suc, ◌+◌, ◌-◌, ◌<◌, ◌≤◌, List, [], ◌∷◌, length, drop, Bool, true, false, Option, Some, None, sym, ap, ◌∙◌, subst, arith}
use Rattle.std.specs.Prelude.{slice_get}
use Rattle.std.proofs.lemmas.Option.{none-some}
use Rattle.wire_profile.specs.Indexes.{ProfileView}
use Rattle.box_world.specs.Worlds.{Packet, push, request, reply, World}
use Rattle.update_replay.specs.Made.{last_where, or_last}
use Rattle.update_world.specs.declared.sent.SentPacket.{SentPacket}
use Rattle.update_world.specs.Shown.{Shown, StandsFor}
use Rattle.update_world.specs.Spelled.{IsSent}
use Rattle.update_world.proofs.SentLists.{sent_get, sent_length}
use Rattle.update_replay.specs.declared.wanted.Receiver.{Receiver}
use Rattle.update_replay.specs.declared.wanted.Receiver.TheVariants as wanted
use Rattle.update_replay.specs.Wanting.{goes_to, is_wanted}
use Rattle.update_replay.proofs.LineLists.{from, past}

-- the last one of a tail is the last of all
last_from : (P : Packet → Bool) (first : ℕ) (ps : List Packet) (n m : ℕ) → last_where P (first + n) (drop n ps) ≡ Some m → last_where P first ps ≡ Some m
last_from P first ps zero m e = (let same : first ≡ first + 0 = omega arith in ap (λ (k : ℕ). last_where P k ps) same) ∙ e
last_from P first [] (suc n) m e = absurd (none-some m e)
last_from P first (p ∷ ps) (suc n) m e =
    let same : first + 1 + n ≡ first + suc n = omega arith in
    let later : last_where P (first + 1) ps ≡ Some m = last_from P (first + 1) ps n m (ap (λ (k : ℕ). last_where P k (drop n ps)) same ∙ e) in
    ap (λ (o : Option ℕ). or_last o (P p) first) later

-- none is the last of none
pub none_past : (P : Packet → Bool) (ps : List Packet) (n : ℕ) → length ps ≤ n → last_where P n (drop n ps) ≡ None
none_past P ps n le = ap (last_where P n) (past ps n le)

module _ (P : Packet → Bool) (ps : List Packet) (n m : ℕ) (p : Packet) (next : n ≡ m + 1) (at : slice_get ps m ≡ Some p) (later : last_where P n (drop n ps) ≡ None) where
  tail : last_where P m (drop m ps) ≡ or_last None (P p) m
  tail =
      let rest : last_where P (m + 1) (drop (m + 1) ps) ≡ None = ap (λ (k : ℕ). last_where P k (drop k ps)) (sym next) ∙ later in
      ap (last_where P m) (from ps m p at) ∙ ap (λ (o : Option ℕ). or_last o (P p) m) rest

  pub one_is_last : P p ≡ true → last_where P 0 ps ≡ Some m
  one_is_last holds =
      let here : last_where P m (drop m ps) ≡ Some m = tail ∙ ap (λ (b : Bool). or_last None b m) holds in
      let same : 0 + m ≡ m = omega arith in
      last_from P 0 ps m m (ap (λ (k : ℕ). last_where P k (drop m ps)) same ∙ here)

  pub none_so_far : P p ≡ false → last_where P m (drop m ps) ≡ None
  none_so_far fails = tail ∙ ap (λ (b : Bool). or_last None b m) fails

-- ---- in a world

-- whom a message goes to stands in its packet
goes_as : (p : ProfileView) (k : Receiver) (s : SentPacket) (m : Packet) → IsSent p s m → goes_to k s.to ≡ is_wanted k m
goes_as p (wanted.Client k) s (push q) is = ap (goes_to (wanted.Client k)) is.to
goes_as p (wanted.Client k) s (request j n) is = ap (goes_to (wanted.Client k)) is.to
goes_as p (wanted.Client k) s (reply j n r v) is = ap (goes_to (wanted.Client k)) is.to
goes_as p wanted.Server s (push q) is = ap (goes_to wanted.Server) is.to
goes_as p wanted.Server s (request j n) is = ap (goes_to wanted.Server) is.to
goes_as p wanted.Server s (reply j n r v) is = ap (goes_to wanted.Server) is.to

-- a packet of what is shown of a world is one of the world's messages
pub record Message (w : World) (k : Receiver) (m : ℕ) (s : SentPacket) : Type 0 where
  pub packet : Packet
  pub there : slice_get w.pool m ≡ Some packet
  pub goes : goes_to k s.to ≡ is_wanted k packet

pub message_of : (shown : Shown) (w : World) (k : Receiver) (m : ℕ) (s : SentPacket) → StandsFor shown w → slice_get shown.pool m ≡ Some s → Message w k m s
message_of shown w k m s st at =
    let found = sent_get shown.profile shown.pool w.pool st.pool m s at in
    record { packet = found.0; there = found.1; goes = goes_as shown.profile k s found.0 found.2 }

-- there are as many
pub as_many : (shown : Shown) (w : World) → StandsFor shown w → length shown.pool ≡ length w.pool
as_many shown w st = sent_length shown.profile shown.pool w.pool st.pool

-- ---- from the pool's end

module _ (shown : Shown) (w : World) (k : Receiver) (st : StandsFor shown w) (later : ℕ) (none : last_where (is_wanted k) (length shown.pool - later) (drop (length shown.pool - later) w.pool) ≡ None) where
  module _ (m : ℕ) (s : SentPacket) (there : slice_get shown.pool m ≡ Some s) (is : m ≡ length shown.pool - 1 - later) (less : later < length shown.pool) where
    found : Message w k m s
    found = message_of shown w k m s st there

    pub last_found : goes_to k s.to ≡ true → Some m ≡ last_where (is_wanted k) 0 w.pool
    last_found goes = sym (one_is_last (is_wanted k) w.pool (length shown.pool - later) m found.packet (omega (arith, is, less)) found.there none (sym found.goes ∙ goes))

    pub not_found : goes_to k s.to ≡ false → last_where (is_wanted k) (length shown.pool - (later + 1)) (drop (length shown.pool - (later + 1)) w.pool) ≡ None
    not_found goes =
        let same : m ≡ length shown.pool - (later + 1) = omega (arith, is, less) in
        subst (λ (n : ℕ). last_where (is_wanted k) n (drop n w.pool) ≡ None) same (none_so_far (is_wanted k) w.pool (length shown.pool - later) m found.packet (omega (arith, is, less)) found.there none (sym found.goes ∙ goes))

  pub none_found : length shown.pool ≤ later → None ≡ last_where (is_wanted k) 0 w.pool
  none_found past =
      let same : length shown.pool - later ≡ 0 = omega (arith, past) in
      sym (subst (λ (n : ℕ). last_where (is_wanted k) n (drop n w.pool) ≡ None) same none)
