use Rattle.std.proofs.Common.{◌∙◌, ap, arith}
use Rattle.tl_schema.specs.Seen.{slot}
use Rattle.tl_layers.specs.Breaks.{field_index}
use Rattle.tl_layers.proofs.FieldIndexes.{origins_step, origins_all}
use Rattle.tl_layers.proofs.moved.origins_of.Goals as goal

pub loop-m-preserved : goal.loop-m-preserved
loop-m-preserved c =
    origins_step c.args.olds.now c.args.news.now c.loop-m.m (slot c.at.result.now) c.loop-m.from.items c.push.new.self.items c.index_of.result c.at.ensures c.loop-m.invariant c.in_ok-push.ensures.items
    (c.index_of.ensures.index ∙ ap (field_index c.args.olds.now) c.as_slice.ensures.value)

pub returns : goal.returns
returns c = origins_all c.args.olds.now c.args.news.now c.loop-m.m c.loop-m.from.items (omega (arith, c.loop-m-test.false, c.count-m-end.ensures)) c.loop-m.invariant
