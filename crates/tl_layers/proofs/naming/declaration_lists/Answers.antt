use Rattle.std.proofs.Common.{arith}
use Rattle.tl_schema.specs.Seen.{declaration}
use Rattle.tl_graph.specs.Paths.{edges_in}
use Rattle.tl_layers.proofs.GraphSteps.{declarations_step, declarations_all}
use Rattle.tl_layers.proofs.naming.declaration_lists.Goals as goal

pub loop-i-preserved : goal.loop-i-preserved
loop-i-preserved c =
    declarations_step c.count-count.result c.type_count-types.result c.args.schema.now.decls c.loop-i.i (declaration c.entry.result.now) c.loop-i.edges.items c.push.new.self.items c.in_ok-field_nodes.field-0
    c.entry.ensures c.loop-i.invariant c.in_ok-push.ensures.items (rw c.deref.ensures.value at c.in_ok-field_nodes.ensures)

pub returns : goal.returns
returns c =
    declarations_all c.args.schema.now c.count-count.result c.type_count-types.result c.loop-i.i (edges_in c.loop-i.edges.items) c.count-count.ensures.count c.type_count-types.ensures c.loop-i.invariant
    (omega (arith, c.loop-i-test.false, c.count-count.ensures.count))
