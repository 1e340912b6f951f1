use Rattle.std.proofs.Common.{◌≡◌, ◌<◌, length, refl, ap, sym, ◌∙◌, arith}
use Rattle.std.proofs.lemmas.List.{length-map}
use Rattle.std.proofs.lemmas.Option.{slice_get_read}
use Rattle.tl_plan.specs.Plans.{PlanView, instance_of}
use Rattle.tl_plan.specs.inner.Nodes.{types_at}
use Rattle.tl_plan.proofs.PlanSteps.{shown_instance}
use Rattle.tl_plan.proofs.plans.Plan.instance.Goals as goal

pub index-requires : goal.index-requires
index-requires c =
    let ts = types_at c.self.inside.table c.self.inside.queue in
    let all : length c.args.self.now.instances ≡ length ts = ap (λ (p : PlanView). length p.instances) (sym c.self.view_is) ∙ length-map ts (instance_of c.self.inside.schema.now ts) in
    omega (arith, all, c.self.invariant.count)

pub returns-clause-shows : goal.returns-clause-shows
returns-clause-shows c =
    let ts = types_at c.self.inside.table c.self.inside.queue in
    let all : length c.args.self.now.instances ≡ length ts = ap (λ (p : PlanView). length p.instances) (sym c.self.view_is) ∙ length-map ts (instance_of c.self.inside.schema.now ts) in
    let inside : c.args.i < length c.self.inside.instances.items = omega (arith, all, c.self.invariant.count) in
    shown_instance c.self.inside.schema.now c.self.inside.roots ts c.self.inside.instances.items c.args.self.now c.self.view_is c.self.invariant c.args.i c.index.result.now
    (slice_get_read c.self.inside.instances.items (length c.self.inside.instances.items) c.args.i c.index.result.now refl inside c.index.ensures)
