use Rattle.std.proofs.Common.{◌≡◌, ◌∙◌, ◌+◌, ◌++◌, List, length, ap, sym, subst, arith}
use Rattle.update_world.specs.declared.sent.SentPacket.{SentPacket}
use Rattle.update_world.specs.Shown.{bytes_of}
use Rattle.update_world.specs.inner.Pools.{IsPool}
use Rattle.update_world.proofs.PoolBytes.{more_packets}
use Rattle.update_world.proofs.SentLists.{bytes_append}
use Rattle.update_world.proofs.pool.Pool.send.Goals as goal

pub returns-then-bytes-gt-MAX_POOL_BYTES : goal.returns-then-bytes-gt-MAX_POOL_BYTES
returns-then-bytes-gt-MAX_POOL_BYTES c =
    let sum = bytes_append c.args.self.now c.args.more.items in
    let here : bytes_of c.self.inside.sent.items ≡ bytes_of c.args.self.now = ap bytes_of c.self.view_is in
    let more : c.bytes_of.result ≡ bytes_of c.args.more.items = c.bytes_of.ensures.value ∙ ap bytes_of c.deref.ensures.value in
    (omega (arith, sum, here, more, c.self.invariant.sum), c.if-bytes-gt-MAX_POOL_BYTES.true)

pub invariant_of-self-2 : goal.invariant_of-self-2
invariant_of-self-2 c =
    let more : c.bytes_of.result ≡ bytes_of c.args.more.items = c.bytes_of.ensures.value ∙ ap bytes_of c.deref.ensures.value in
    let sum : c.self.inside.bytes + c.bytes_of.result ≡ c.self.inside.bytes + bytes_of c.args.more.items = ap (λ n. c.self.inside.bytes + n) more in
    subst (λ (ss : List SentPacket). IsPool ss (c.self.inside.bytes + c.bytes_of.result)) (sym c.in_ok-append.ensures.items)
    (more_packets c.self.inside.sent.items c.args.more.items c.self.inside.bytes (c.self.inside.bytes + c.bytes_of.result) c.self.invariant c.requires.sizes sum c.if-bytes-gt-MAX_POOL_BYTES.false)

pub returns : goal.returns
returns c =
    let sum = bytes_append c.self.inside.sent.items c.args.more.items in
    let more : c.bytes_of.result ≡ bytes_of c.args.more.items = c.bytes_of.ensures.value ∙ ap bytes_of c.deref.ensures.value in
    let whole : bytes_of c.append.new.self.items ≡ bytes_of (c.self.inside.sent.items ++ c.args.more.items) = ap bytes_of c.in_ok-append.ensures.items in (
      omega (arith, c.len-first.ensures, c.self.inside.sent.ok.0, ap length c.self.view_is),
      c.in_ok-append.ensures.items ∙ ap (λ (ss : List SentPacket). ss ++ c.args.more.items) c.self.view_is,
      omega (arith, sum, more, whole, c.self.invariant.sum, c.if-bytes-gt-MAX_POOL_BYTES.false),
    )
