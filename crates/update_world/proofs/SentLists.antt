-- Packets and the messages that they are, one by one.
use Rattle.std.proofs.Common.{◌≡◌, ℕ, zero, suc, ◌+◌, ◌*◌, ◌≤◌, List, [], ◌∷◌, ◌++◌, length, Some, refl, ap, subst, arith}
use Rattle.std.specs.Prelude.{slice_get}
use Rattle.std.proofs.lemmas.Option.{none-some, same_Some}
use Rattle.box_events.specs.declared.replies.Frame.TheVariants.{Push, Reply}
use Rattle.wire_profile.specs.Indexes.{ProfileView}
use Rattle.wire_profile.specs.Profiles.{IsProfile}
use Rattle.box_world.specs.Worlds.{Packet, push, request, reply}
use Rattle.box_world.specs.Possible.{bytes_in}
use Rattle.update_world.specs.declared.sent.SentPacket.{SentPacket}
use Rattle.update_world.specs.Shown.{bytes_of}
use Rattle.update_world.specs.Spelled.{AreSent, IsSent, IsSpelled, packet_size}
use Rattle.update_world.proofs.WireLaws.{calls_long, calls_size, frames_long, frames_size}

-- a packet has as many bytes as its message says, 8 at least
pub spelled_size : (p : ProfileView) → IsProfile p → (m : Packet) (b : List ℕ) → IsSpelled p m b → length b ≡ packet_size m
spelled_size p is (push q) b s = frames_size p is (Push q) b s
spelled_size p is (request k n) b s = calls_size p is n b s
spelled_size p is (reply k n r m) b s = frames_size p is (Reply n r) b s

least : (m : Packet) → 8 ≤ packet_size m
least (push q) = frames_long (Push q)
least (request k n) = calls_long n
least (reply k n r m) = frames_long (Reply n r)

-- ---- looking up, counting, appending

pub sent_get : (p : ProfileView) (ss : List SentPacket) (ms : List Packet) → AreSent p ss ms → (k : ℕ) (s : SentPacket) → slice_get ss k ≡ Some s → (m : Packet) × (slice_get ms k ≡ Some m) × IsSent p s m
sent_get p [] [] a k s e = absurd (none-some s e)
sent_get p [] (m ∷ ms) a k s e = absurd a
sent_get p (x ∷ ss) [] a k s e = absurd a
sent_get p (x ∷ ss) (m ∷ ms) a zero s e = (m, refl, subst (λ (t : SentPacket). IsSent p t m) (same_Some x s e) a.0)
sent_get p (x ∷ ss) (m ∷ ms) a (suc k) s e = sent_get p ss ms a.1 k s e

pub sent_length : (p : ProfileView) (ss : List SentPacket) (ms : List Packet) → AreSent p ss ms → length ss ≡ length ms
sent_length p [] [] a = refl
sent_length p [] (m ∷ ms) a = absurd a
sent_length p (s ∷ ss) [] a = absurd a
sent_length p (s ∷ ss) (m ∷ ms) a = ap suc (sent_length p ss ms a.1)

pub sent_append : (p : ProfileView) (ss ts : List SentPacket) (ms ns : List Packet) → AreSent p ss ms → AreSent p ts ns → AreSent p (ss ++ ts) (ms ++ ns)
sent_append p [] ts [] ns a b = b
sent_append p [] ts (m ∷ ms) ns a b = absurd a
sent_append p (s ∷ ss) ts [] ns a b = absurd a
sent_append p (s ∷ ss) ts (m ∷ ms) ns a b = (a.0, sent_append p ss ts ms ns a.1 b)

pub sent_push : (p : ProfileView) (ss : List SentPacket) (s : SentPacket) (ms : List Packet) (m : Packet) → AreSent p ss ms → IsSent p s m → AreSent p (ss ++ s ∷ []) (ms ++ m ∷ [])
sent_push p ss s ms m a b = sent_append p ss (s ∷ []) ms (m ∷ []) a (b, tt)

-- ---- bytes

pub bytes_append : (ss ts : List SentPacket) → bytes_of (ss ++ ts) ≡ bytes_of ss + bytes_of ts
bytes_append [] ts = omega arith
bytes_append (s ∷ ss) ts = omega (arith, bytes_append ss ts)

pub sent_bytes : (p : ProfileView) → IsProfile p → (ss : List SentPacket) (ms : List Packet) → AreSent p ss ms → bytes_of ss ≡ bytes_in packet_size ms
sent_bytes p is [] [] a = refl
sent_bytes p is [] (m ∷ ms) a = absurd a
sent_bytes p is (s ∷ ss) [] a = absurd a
sent_bytes p is (s ∷ ss) (m ∷ ms) a = λ i. spelled_size p is m s.bytes a.0.bytes i + sent_bytes p is ss ms a.1 i

-- so a pool has few packets
pub few_sent : (p : ProfileView) → IsProfile p → (ss : List SentPacket) (ms : List Packet) → AreSent p ss ms → 8 * length ss ≤ bytes_of ss
few_sent p is [] [] a = omega arith
few_sent p is [] (m ∷ ms) a = absurd a
few_sent p is (s ∷ ss) [] a = absurd a
few_sent p is (s ∷ ss) (m ∷ ms) a =
    let rest = few_sent p is ss ms a.1 in
    let size = spelled_size p is m s.bytes a.0.bytes in
    let low = least m in
    omega (arith, rest, size, low)
