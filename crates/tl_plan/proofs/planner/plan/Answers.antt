use Rattle.std.proofs.Common.{◌+◌, ◌≤◌, List, ℕ, Ok, Err, length, map, ap, sym, ◌∙◌, subst, arith}
use Rattle.std.proofs.lemmas.List.{length-map}
use Rattle.std.proofs.lemmas.Result.{err_from_is_err_and}
use Rattle.tl_schema.specs.Types.{Shape}
use Rattle.tl_schema.specs.Seen.{shape}
use Rattle.tl_plan.specs.Reached.{unnamed}
use Rattle.tl_plan.specs.Plans.{plan_of}
use Rattle.tl_plan.specs.inner.Nodes.{types_at}
use Rattle.tl_plan.specs.inner.Walks.{Walks, add_all}
use Rattle.tl_plan.specs.declared.instances.Instance.{Instance}
use Rattle.tl_plan.proofs.NodeTypes.{below_at}
use Rattle.tl_plan.proofs.PlanSteps.{PlanSoFar, answered, instance_fails, is_made, next_instance, roots_fail, with_roots}
use Rattle.tl_plan.proofs.planner.plan.Goals as goal

pub returns-in_err-reach : goal.returns-in_err-reach
returns-in_err-reach c =
    let S = c.args.schema.now in
    let Rs = map shape c.args.roots.now in
    let e = c.in_err-reach.field-0.0 in
    let p = err_from_is_err_and c.from_residual-in_err-reach.result c.from_residual-in_err-reach.ensures.1 in
    let none = ap (types_at c.new-table.result) c.new-queue.ensures in
    let begun = subst (λ (ts : List Shape). Walks (add_all ts (unnamed S Rs)) c.new-table.result c.reach.new.table c.reach.new.queue (Err e) (λ (u : Unit {0}). Unit {0})) none c.in_err-reach.ensures in
    record { answer = rw (p.1, p.2) (roots_fail S Rs c.new-table.result c.reach.new.table c.reach.new.queue e (λ (u : Unit {0}). Unit {0}) begun) }

pub loop-i-init : goal.loop-i-init
loop-i-init c =
    let S = c.args.schema.now in
    let Rs = map shape c.args.roots.now in
    let none = ap (types_at c.new-table.result) c.new-queue.ensures in
    let begun = subst (λ (ts : List Shape). Walks (add_all ts (unnamed S Rs)) c.new-table.result c.reach.new.table c.reach.new.queue (Ok c.in_ok-reach.field-0) (λ (u : Unit {0}). Unit {0})) none c.in_ok-reach.ensures in
    subst (λ (xs : List Instance). PlanSoFar S Rs c.reach.new.table c.reach.new.queue xs 0) (sym c.new-instances.ensures.items)
    (with_roots S Rs c.new-table.result c.reach.new.table c.reach.new.queue c.in_ok-reach.field-0 (λ (u : Unit {0}). Unit {0}) begun)

pub instance-requires-clause-within : goal.instance-requires-clause-within
instance-requires-clause-within c = below_at (length c.loop-i.table) c.loop-i.queue c.loop-i.i c.node-node.result c.loop-i.invariant.below c.node-node.ensures

pub returns-in_err-instance : goal.returns-in_err-instance
returns-in_err-instance c =
    let S = c.args.schema.now in
    let Rs = map shape c.args.roots.now in
    let e = c.in_err-instance.field-0.0 in
    let p = err_from_is_err_and c.from_residual-in_err-instance.result c.from_residual-in_err-instance.ensures.1 in
    record { answer = rw (p.1, p.2) (instance_fails S Rs c.loop-i.table c.loop-i.queue c.loop-i.instances.items c.loop-i.i c.node-node.result c.loop-i.invariant c.node-node.ensures c.instance.new.table c.instance.new.queue e _ c.len.ensures.few c.in_err-instance.ensures) }

pub loop-i-preserved : goal.loop-i-preserved
loop-i-preserved c =
    let S = c.args.schema.now in
    let Rs = map shape c.args.roots.now in
    subst (λ (xs : List Instance). PlanSoFar S Rs c.instance.new.table c.instance.new.queue xs (c.loop-i.i + 1)) (sym c.in_ok-push.ensures.items)
    (next_instance S Rs c.loop-i.table c.loop-i.queue c.loop-i.instances.items c.loop-i.i c.node-node.result c.loop-i.invariant c.node-node.ensures c.instance.new.table c.instance.new.queue c.in_ok-instance.field-0 c.in_ok-instance.ensures)

pub new-requires : goal.new-requires
new-requires c =
    let past : length c.loop-i.queue ≤ c.loop-i.i = omega arith in
    is_made c.args.schema.now (map shape c.args.roots.now) c.loop-i.table c.loop-i.queue c.loop-i.instances.items c.loop-i.i c.loop-i.invariant past c.len.ensures.few
    c.in_ok-heads.ensures.sound c.requires (length c.args.roots.now) (sym (length-map c.args.roots.now shape))

pub returns : goal.returns
returns c =
    let ts = types_at c.loop-i.table c.loop-i.queue in
    let past : length c.loop-i.queue ≤ c.loop-i.i = omega arith in
    record {
      answer = ap Ok c.new.ensures ∙ ap (λ (k : ℕ). Ok (plan_of c.args.schema.now k ts)) (sym (length-map c.args.roots.now shape))
          ∙ sym (answered c.args.schema.now (map shape c.args.roots.now) c.loop-i.table c.loop-i.queue c.loop-i.instances.items c.loop-i.i c.loop-i.invariant past c.len.ensures.few);
    }
