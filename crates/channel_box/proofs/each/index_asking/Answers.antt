use Rattle.std.proofs.Common.{sym, ◌∙◌}
use Rattle.channel_box.specs.Steps.{asks_number}
use Rattle.channel_box.proofs.Indexes.{nobody_more, stands}
use Rattle.channel_box.proofs.each.index_asking.Goals as goal

pub returns-then-asks_number : goal.returns-then-asks_number
returns-then-asks_number c = stands (asks_number c.args.number) c.args.channels.now c.loop-i.i c.index-channels-i.result c.loop-i-test.true c.index-channels-i.is c.loop-i.invariant (sym c.asks_number.ensures ∙ c.if-asks_number.true)

pub loop-i-preserved : goal.loop-i-preserved
loop-i-preserved c = nobody_more (asks_number c.args.number) c.args.channels.now c.loop-i.i c.index-channels-i.result c.loop-i-test.true c.index-channels-i.is c.loop-i.invariant (sym c.asks_number.ensures ∙ c.if-asks_number.false)
