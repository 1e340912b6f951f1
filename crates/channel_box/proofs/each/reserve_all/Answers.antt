use Rattle.std.proofs.Common.{◌≤◌, subst, sym, ap, ◌∙◌, arith}
use Rattle.channel_box.specs.States.{ChannelView}
use Rattle.channel_box.specs.Calls.{updates_for}
use Rattle.channel_box.proofs.Loops.{reserving_more, reserving_done, reserving_ends}
use Rattle.channel_box.proofs.each.reserve_all.Goals as goal

pub returns-in_err-reserve-clause-state : goal.returns-in_err-reserve-clause-state
returns-in_err-reserve-clause-state c = (reserving_ends c.args.updates.now c.args.channels.now c.loop-channel.channels c.loop-channel.channel-index c.channel-item.result c.reserve.new.self c.loop-channel.invariant c.channel-item.is (c.reserve.ensures.state ∙ ap (λ (z : ChannelView). z.state) (sym c.channel-item.is)) (omega (arith, c.reserve.ensures.spare, ap (λ (z : ChannelView). z.spare) c.channel-item.is))).0

pub returns-in_err-reserve-clause-spare : goal.returns-in_err-reserve-clause-spare
returns-in_err-reserve-clause-spare c = (reserving_ends c.args.updates.now c.args.channels.now c.loop-channel.channels c.loop-channel.channel-index c.channel-item.result c.reserve.new.self c.loop-channel.invariant c.channel-item.is (c.reserve.ensures.state ∙ ap (λ (z : ChannelView). z.state) (sym c.channel-item.is)) (omega (arith, c.reserve.ensures.spare, ap (λ (z : ChannelView). z.spare) c.channel-item.is))).1

pub loop-channel-preserved : goal.loop-channel-preserved
loop-channel-preserved c = reserving_more c.args.updates.now c.args.channels.now c.loop-channel.channels c.loop-channel.channel-index c.channel-item.result c.reserve.new.self c.loop-channel.invariant (omega (arith, c.loop-channel-test.true, c.loop-channel.auto.channels)) c.channel-item.is (c.reserve.ensures.state ∙ ap (λ (z : ChannelView). z.state) (sym c.channel-item.is)) (omega (arith, c.reserve.ensures.spare, ap (λ (z : ChannelView). z.spare) c.channel-item.is)) (subst (λ (z : ChannelView). updates_for z.state.id c.args.updates.now ≤ c.reserve.new.self.spare) (sym c.channel-item.is) c.in_ok-reserve.ensures.ok)

pub returns-clause-ok : goal.returns-clause-ok
returns-clause-ok c = reserving_done c.args.updates.now c.args.channels.now c.loop-channel.channels c.loop-channel.channel-index (omega (arith, c.loop-channel-test.false, c.loop-channel.auto.channels, c.loop-channel.auto.channel-index-end)) c.loop-channel.invariant
