use Rattle.std.proofs.Common.{arith}
use Rattle.tl_plan.proofs.TableSteps.{nodes_count, read_node}
use Rattle.tl_plan.proofs.table.Table.form.Goals as goal

pub index-requires : goal.index-requires
index-requires c = omega (arith, nodes_count c.self.inside.nodes.items c.args.self.now c.self.view_is)

pub returns : goal.returns
returns c = (read_node c.self.inside.nodes.items c.self.inside.numbers.entries c.args.self.now c.self.view_is c.self.invariant c.args.n c.requires c.index.result.now c.index.ensures).form
