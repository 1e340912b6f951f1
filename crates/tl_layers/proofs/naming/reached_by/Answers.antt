use Rattle.std.proofs.Common.{sym, subst}
use Rattle.tl_graph.specs.Paths.{IsGraph, edges_in}
use Rattle.tl_schema.specs.Seen.{shape}
use Rattle.tl_layers.proofs.ReachedPaths.{is_graph, truncated}
use Rattle.tl_layers.proofs.naming.reached_by.Goals as goal

pub reached_from-requires-clause-graph : goal.reached_from-requires-clause-graph
reached_from-requires-clause-graph c =
    subst (λ es. IsGraph (edges_in es)) (sym c.deref.ensures.value) (is_graph c.args.schema.now (shape c.args.of.now) (edges_in c.in_ok-edges.edges.items) c.in_ok-edges.ensures)

pub returns-clause-marks : goal.returns-clause-marks
returns-clause-marks c =
    truncated c.args.schema.now c.count.ensures.sound (shape c.args.of.now) c.requires c.in_ok-edges.edges.items c.deref.result.now c.deref.ensures.value c.in_ok-edges.ensures c.count.result c.type_count.result c.in_ok-root.root c.count-2.result
    c.count.ensures.count c.type_count.ensures c.in_ok-root.ensures c.count-2.ensures.count c.in_ok-marks.marks.items c.truncate.new.self.items c.in_ok-marks.ensures.marks c.truncate.ensures.items
