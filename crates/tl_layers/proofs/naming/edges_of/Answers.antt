use Rattle.std.proofs.Common.{ap, ◌∙◌, ◌++◌, List, ℕ, ap₂}
use Rattle.tl_schema.specs.Seen.{shape}
use Rattle.tl_layers.specs.inner.Graphs.{nodes_of}
use Rattle.tl_layers.proofs.GraphSteps.{edges_made}
use Rattle.tl_layers.proofs.naming.edges_of.Goals as goal

pub returns : goal.returns
returns c =
    edges_made c.args.schema.now (shape c.args.of.now) c.in_ok-heads.heads.constructors.items c.in_ok-edges.edges.items c.add_lists.new.edges.items c.push.new.self.items c.push-2.new.self.items c.in_ok-heads.heads.functions c.name_nodes.new.nodes
    c.in_ok-heads.ensures.heads c.in_ok-heads.ensures.count c.in_ok-edges.ensures c.in_ok-add_lists.ensures c.in_ok-push.ensures.items c.in_ok-push-2.ensures.items
    (c.in_ok-name_nodes.ensures ∙ ap (λ (ks : List ℕ). ks ++ nodes_of c.count.result c.type_count.result (shape c.args.of.now)) c.new-nodes.ensures.items ∙ ap₂ (λ (n t : ℕ). nodes_of n t (shape c.args.of.now)) c.count.ensures.count c.type_count.ensures)
