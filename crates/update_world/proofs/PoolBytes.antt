-- How many bytes packets have.
use Rattle.std.proofs.Common.{◌≡◌, ℕ, ◌+◌, ◌*◌, ◌<◌, ◌≤◌, List, [], ◌∷◌, ◌++◌, length, take, get_or, length-append, sym, ap, ◌∙◌, subst, arith}
use Rattle.std.specs.List.{All}
use Rattle.std.proofs.lemmas.List.{take_more}
use Rattle.std.proofs.lemmas.List.Elements.{All-get_or, All-head, All-tail}
use Rattle.update_world.specs.declared.limits.TheConstants.{MAX_POOL_BYTES}
use Rattle.update_world.specs.declared.sent.SentPacket.{SentPacket}
use Rattle.update_world.specs.Shown.{bytes_of}
use Rattle.update_world.specs.inner.Pools.{IsPacket, IsPool}
use Rattle.update_world.proofs.SentLists.{bytes_append}

-- of one packet more
pub one_more : (ss : List SentPacket) (i : ℕ) (s : SentPacket) → i < length ss → s ≡ get_or ss i s → bytes_of (take (i + 1) ss) ≡ bytes_of (take i ss) + length s.bytes
one_more ss i s lt is =
    let cut : take (i + 1) ss ≡ take i ss ++ s ∷ [] = take_more ss i s lt ∙ ap (λ (t : SentPacket). take i ss ++ t ∷ []) (sym is) in
    let sum = bytes_append (take i ss) (s ∷ []) in
    let whole = ap bytes_of cut in
    omega (arith, sum, whole)

-- which isn't too long
pub is_packet : (ss : List SentPacket) (i : ℕ) (s : SentPacket) → All IsPacket ss → i < length ss → s ≡ get_or ss i s → IsPacket s
is_packet ss i s all lt is = subst IsPacket (sym is) (All-get_or IsPacket ss i s lt all)

-- packets have 8 bytes each
pub eight_each : (ss : List SentPacket) → All IsPacket ss → 8 * length ss ≤ bytes_of ss
eight_each [] all = omega arith
eight_each (s ∷ ss) all =
    let here = All-head IsPacket s ss all in
    let rest = eight_each ss (All-tail IsPacket s ss all) in
    omega (arith, here.0, rest)

-- a pool with more packets
pub more_packets : (old more : List SentPacket) (a b : ℕ) → IsPool old a → All IsPacket more → b ≡ a + bytes_of more → b ≤ MAX_POOL_BYTES → IsPool (old ++ more) b
more_packets old more a b pool all sum most =
    let bytes = bytes_append old more in
    let many = length-append old more in
    let each = eight_each more all in
    record { sum = omega (arith, bytes, sum, pool.sum); most = most; each = omega (arith, many, each, sum, pool.each) }
