use Rattle.std.proofs.Common.{◌+◌, sym, ap, ◌∙◌, arith}
use Rattle.channel_box.specs.States.{ChannelView}
use Rattle.channel_box.specs.Steps.{channel_asks, ask_of, channel_is_due}
use Rattle.channel_box.proofs.Loops.{ticking_asks, ticking_waits, ticking_by, set_item}
use Rattle.channel_box.proofs.each.tick_all.Goals as goal
use Rattle.channel_box.proofs.each.tick_all.Goals.{then-is_due, else-is_due}

pub loop-channel-preserved : goal.loop-channel-preserved
loop-channel-preserved c =
    let l = c.loop-channel in
    let item = ap (λ (z : ChannelView). channel_is_due z.state) c.channel-item.is ∙ sym c.is_due.ensures in
    elim c.if-is_due.branch [
      | then-is_due w ↦ ticking_by c.args.next c.args.channels.now c.args.asks.now _ (l.next + 1) c.if-is_due.next _ c.if-is_due.channels _ c.if-is_due.asks w.next-is w.channels-is (w.asks-is ∙ w.put.ensures)
          (ticking_asks c.args.next c.args.channels.now c.args.asks.now l.channel-index l.next l.channels l.asks c.channel-item.result w.ask.new.self w.ask.result l.invariant
          (omega (arith, c.loop-channel-test.true, l.auto.channels)) c.channel-item.is (item ∙ w.if-is_due.true)
          (w.ask.ensures.step ∙ ap (λ (z : ChannelView). channel_asks z.state l.next) (sym c.channel-item.is))
          (w.ask.ensures.ask ∙ ap (λ (z : ChannelView). ask_of z.state l.next) (sym c.channel-item.is))
          (omega (arith, w.ask.ensures.spare, ap (λ (z : ChannelView). z.spare) c.channel-item.is)))
      | else-is_due w ↦ ticking_by c.args.next c.args.channels.now c.args.asks.now _ l.next c.if-is_due.next _ c.if-is_due.channels _ c.if-is_due.asks w.next-is (w.channels-is ∙ set_item l.channels l.channel-index c.channel-item.result) w.asks-is
          (ticking_waits c.args.next c.args.channels.now c.args.asks.now l.channel-index l.next l.channels l.asks c.channel-item.result l.invariant
          (omega (arith, c.loop-channel-test.true, l.auto.channels)) c.channel-item.is (item ∙ w.if-is_due.false))
    ]
