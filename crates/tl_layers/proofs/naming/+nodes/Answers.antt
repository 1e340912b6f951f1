use Rattle.std.proofs.Common.{refl}
use Rattle.std.proofs.lemmas.Option.{slice_get_read}
use Rattle.tl_layers.proofs.GraphSteps.{types_step, types_all}
use Rattle.tl_layers.proofs.naming.+nodes.Goals as goal

pub name_all-loop-of-preserved : goal.name_all-loop-of-preserved
name_all-loop-of-preserved t c =
    types_step c.args.count c.args.types c.deref-of-items.result.now c.loop-of.of-index c.of-item.result c.args.nodes.now.items c.loop-of.nodes.items c.name_nodes.new.nodes.items
    (slice_get_read c.deref-of-items.result.now _ c.loop-of.of-index c.of-item.result refl c.loop-of-test.true c.of-item.is) c.loop-of.invariant c.in_ok-name_nodes.ensures

pub name_all-returns : goal.name_all-returns
name_all-returns t c =
    types_all c.args.count c.args.types c.deref-of-items.result.now c.args.all.now.items c.loop-of.of-index c.args.nodes.now.items c.loop-of.nodes.items c.loop-of.invariant c.loop-of-test.false c.deref-of-items.ensures.value
