use Rattle.std.proofs.Common.{refl}
use Rattle.std.proofs.lemmas.Option.{slice_get_read}
use Rattle.tl_layers.proofs.GraphSteps.{fields_step, fields_all}
use Rattle.tl_layers.proofs.naming.field_nodes.Goals as goal

pub loop-field-preserved : goal.loop-field-preserved
loop-field-preserved c =
    fields_step c.args.count c.args.types c.args.fields.now c.loop-field.field-index c.field-item.result c.loop-field.nodes.items c.name_nodes.new.nodes.items
    (slice_get_read c.args.fields.now _ c.loop-field.field-index c.field-item.result refl c.loop-field-test.true c.field-item.is) c.loop-field.invariant c.in_ok-name_nodes.ensures

pub returns : goal.returns
returns c = fields_all c.args.count c.args.types c.args.fields.now c.loop-field.field-index c.loop-field.nodes.items c.loop-field.invariant c.loop-field-test.false
