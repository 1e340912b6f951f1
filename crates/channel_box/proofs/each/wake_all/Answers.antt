use Rattle.std.proofs.Common.{refl, sym, ap, ◌∙◌, arith}
use Rattle.channel_box.specs.States.{ChannelView}
use Rattle.channel_box.specs.Steps.{flagged}
use Rattle.channel_box.proofs.Loops.{mapping_more}
use Rattle.channel_box.proofs.each.wake_all.Goals as goal

pub loop-channel-preserved : goal.loop-channel-preserved
loop-channel-preserved c = mapping_more flagged c.args.channels.now c.loop-channel.channels c.loop-channel.channel-index c.channel-item.result c.set_flag.new.self (λ _. refl) c.loop-channel.invariant (omega (arith, c.loop-channel-test.true, c.loop-channel.auto.channels)) c.channel-item.is (c.set_flag.ensures.step ∙ ap (λ (z : ChannelView). flagged z.state) (sym c.channel-item.is)) (omega (arith, c.set_flag.ensures.spare, ap (λ (z : ChannelView). z.spare) c.channel-item.is))
