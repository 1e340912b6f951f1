use Rattle.std.proofs.Common.{◌≡◌, ◌+◌, ℕ, List, Some, Ok, Err, length, map, take, drop, slice_get, ap, sym, ◌∙◌, subst}
use Rattle.tl_schema.specs.Types.{Shape}
use Rattle.tl_schema.specs.Seen.{shape}
use Rattle.std.proofs.lemmas.Result.{err_from_is_err_and}
use Rattle.tl_plan.specs.Reached.{unnamed}
use Rattle.tl_plan.specs.inner.Nodes.{type_at, types_at}
use Rattle.tl_plan.specs.inner.Walks.{Walks, add, add_all}
use Rattle.tl_plan.proofs.ClosedNodes.{closed_none}
use Rattle.tl_plan.proofs.QueueSteps.{adds_type}
use Rattle.tl_plan.proofs.ReadLists.{mapped_push, mapped_split}
use Rattle.tl_plan.proofs.RootSteps.{RootsSoFar, next_root, root_below, root_fails, root_within}
use Rattle.tl_plan.proofs.walk.reach.Goals as goal

pub returns-in_err-add : goal.returns-in_err-add
returns-in_err-add c =
    let before = c.args.table.now in
    let first = c.args.queue.now in
    let i = c.loop-root.root-index in
    let T = shape c.root-item.result in
    let Ts = c.loop-root.table in
    let ns = c.loop-root.queue in
    let Us = c.close.new.table in
    let n = c.in_ok-node.node in
    let at : slice_get Us n ≡ Some T = c.in_ok-node.ensures.closed ∙ ap (λ (U : Shape). Some U) (closed_none T) in
    let earlier = map shape (take i c.args.roots.now) in
    let below = root_below c.args.schema.now before first earlier T Ts ns c.loop-root.invariant Us c.in_ok-node.ensures.grows n at in
    let within = root_within c.args.schema.now before first earlier T Ts ns c.loop-root.invariant Us c.in_ok-node.ensures.grows n at in
    let one = adds_type Us ns c.add.new.self n c.levels.result c.count-none.result c.levels.ensures.distinct below within c.levels.ensures.levels (Err c.in_err-add.field-0.0) c.in_err-add.ensures in
    let named = subst (λ (d : ℕ). Walks (add (types_at Us ns) (record { of = type_at Us n; decl = d })) Us Us c.add.new.self (Err c.in_err-add.field-0.0) (λ (k : ℕ). k ≡ length (types_at Us ns))) c.count-none.ensures.count one in
    let p = err_from_is_err_and c.from_residual-in_err-add.result c.from_residual-in_err-add.ensures.1 in
    rw (p.1, p.2)
    (subst (λ (Rs : List Shape). Walks {A = Unit {0}} (add_all (types_at before first) (unnamed c.args.schema.now Rs)) before Us c.add.new.self (Err c.in_err-add.field-0.0) (λ (x : Unit {0}). Unit {0})) (sym (mapped_split shape c.args.roots.now i c.root-item.result c.loop-root-test.true c.root-item.is))
    (root_fails c.args.schema.now before first earlier T Ts ns c.loop-root.invariant Us c.in_ok-node.ensures.grows n at (map shape (drop (i + 1) c.args.roots.now)) Us c.add.new.self c.add.new.self c.in_err-add.field-0.0 (λ (k : ℕ). k ≡ length (types_at Us ns)) (λ (x : Unit {0}). Unit {0}) named))

pub loop-root-preserved : goal.loop-root-preserved
loop-root-preserved c =
    let before = c.args.table.now in
    let first = c.args.queue.now in
    let i = c.loop-root.root-index in
    let T = shape c.root-item.result in
    let Ts = c.loop-root.table in
    let ns = c.loop-root.queue in
    let Us = c.close.new.table in
    let n = c.in_ok-node.node in
    let at : slice_get Us n ≡ Some T = c.in_ok-node.ensures.closed ∙ ap (λ (U : Shape). Some U) (closed_none T) in
    let earlier = map shape (take i c.args.roots.now) in
    let below = root_below c.args.schema.now before first earlier T Ts ns c.loop-root.invariant Us c.in_ok-node.ensures.grows n at in
    let within = root_within c.args.schema.now before first earlier T Ts ns c.loop-root.invariant Us c.in_ok-node.ensures.grows n at in
    let one = adds_type Us ns c.add.new.self n c.levels.result c.count-none.result c.levels.ensures.distinct below within c.levels.ensures.levels (Ok c.in_ok-add.field-0) c.in_ok-add.ensures in
    let named = subst (λ (d : ℕ). Walks (add (types_at Us ns) (record { of = type_at Us n; decl = d })) Us Us c.add.new.self (Ok c.in_ok-add.field-0) (λ (k : ℕ). k ≡ length (types_at Us ns))) c.count-none.ensures.count one in
    subst (λ (Rs : List Shape). RootsSoFar c.args.schema.now before first Rs Us c.add.new.self) (sym (mapped_push shape c.args.roots.now i c.root-item.result c.loop-root-test.true c.root-item.is))
    (next_root c.args.schema.now before first earlier T Ts ns c.loop-root.invariant Us c.in_ok-node.ensures.grows n at c.add.new.self c.in_ok-add.field-0 (λ (k : ℕ). k ≡ length (types_at Us ns)) named)
