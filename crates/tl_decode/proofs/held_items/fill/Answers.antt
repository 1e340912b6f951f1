use Rattle.std.proofs.Common.{◌≡◌, ◌≤◌, ◌+◌, length, arith}
use Rattle.tl_decode.specs.inner.Needs.{needs}
use Rattle.tl_decode.proofs.HeldBytes.{filled}
use Rattle.tl_decode.proofs.held_items.fill.Goals as goal

pub loop-used-preserved : goal.loop-used-preserved
loop-used-preserved c =
    let held = c.loop-used.held in
    let size : c.need_of-size.result ≡ needs c.args.wanted held.items = rw c.deref.ensures.value at c.need_of-size.ensures in
    let within : c.loop-used.used + c.min-count.result ≤ length c.args.next.now = grind (arith, c.min-count.ensures, c.loop-used-test.true) in
    let few : length held.items + c.min-count.result ≤ needs c.args.wanted held.items = omega (arith, c.min-count.ensures, size, c.len.ensures, c.len-in-loop-used.ensures, c.if-len-size.false, held.ok.0) in
    let both = filled c.args.wanted c.args.held.now.items held.items c.extend_from_slice.new.self.items c.args.next.now c.loop-used.used c.min-count.result c.loop-used.invariant.more c.in_ok-extend_from_slice.ensures.items within few in
    record { within = within; more = both.0; most = both.1 }
