use Rattle.std.proofs.Common.{◌≡◌, length, ap, sym, ◌∙◌, arith}
use Rattle.std.proofs.lemmas.List.{length-map}
use Rattle.tl_plan.specs.Plans.{PlanView, instance_of}
use Rattle.tl_plan.specs.inner.Nodes.{types_at}
use Rattle.tl_plan.proofs.plans.Plan.count.Goals as goal

pub overflow_cast-result : goal.overflow_cast-result
overflow_cast-result c =
    let ts = types_at c.self.inside.table c.self.inside.queue in
    let few = c.self.invariant.plan.few in
    omega (arith, few, length-map ts (instance_of c.self.inside.schema.now ts), c.self.invariant.count)

pub returns-clause-count : goal.returns-clause-count
returns-clause-count c =
    let ts = types_at c.self.inside.table c.self.inside.queue in
    let all : length c.args.self.now.instances ≡ length ts = ap (λ (p : PlanView). length p.instances) (sym c.self.view_is) ∙ length-map ts (instance_of c.self.inside.schema.now ts) in
    omega (arith, all, c.self.invariant.count)
