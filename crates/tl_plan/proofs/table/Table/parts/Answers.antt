use Rattle.std.proofs.Common.{◌≡◌, ℕ, List, arith, subst, sym, length}
use Rattle.tl_plan.specs.inner.Nodes.{AreBelow, parts_of, type_at, types_at}
use Rattle.tl_plan.proofs.TableSteps.{nodes_count, read_node}
use Rattle.tl_plan.proofs.table.Table.parts.Goals as goal

pub index-requires : goal.index-requires
index-requires c = omega (arith, nodes_count c.self.inside.nodes.items c.args.self.now c.self.view_is)

pub returns-clause-parts : goal.returns-clause-parts
returns-clause-parts c =
    subst (λ (ks : List ℕ). types_at c.args.self.now ks ≡ parts_of (type_at c.args.self.now c.args.n)) (sym c.deref.ensures.value)
    (read_node c.self.inside.nodes.items c.self.inside.numbers.entries c.args.self.now c.self.view_is c.self.invariant c.args.n c.requires c.index.result.now c.index.ensures).parts

pub returns-clause-below : goal.returns-clause-below
returns-clause-below c =
    subst (AreBelow (length c.args.self.now)) (sym c.deref.ensures.value)
    (read_node c.self.inside.nodes.items c.self.inside.numbers.entries c.args.self.now c.self.view_is c.self.invariant c.args.n c.requires c.index.result.now c.index.ensures).below
