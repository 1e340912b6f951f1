use Rattle.std.proofs.Common.{◌≡◌, ◌<◌, ℕ, List, Some, Ok, Err, length, get_or, refl, ap, sym, ◌∙◌, subst, arith}
use Rattle.tl_schema.specs.Types.{Shape}
use Rattle.std.proofs.lemmas.Result.{err_from_is_err_and}
use Rattle.tl_plan.specs.Types.{index_of}
use Rattle.tl_plan.specs.inner.Nodes.{first_of, type_at, types_at}
use Rattle.tl_plan.specs.inner.Walks.{Walks, find}
use Rattle.tl_plan.proofs.QueueSteps.{meets_type}
use Rattle.tl_plan.proofs.NodeTypes.{grows_same}
use Rattle.tl_plan.proofs.ReadLists.{read_below}
use Rattle.tl_plan.proofs.WalkSteps.{one_part, vector_fails, vector_walk}
use Rattle.tl_plan.proofs.walk.vector.Goals as goal

pub returns-in_err-item : goal.returns-in_err-item
returns-in_err-item c =
    let Ts = c.args.table.now in
    let n = get_or c.args.parts.now 0 0 in
    let within : n < length Ts = read_below (length Ts) c.args.parts.now 0 c.requires.below (omega (arith, c.requires.parts)) in
    let one = meets_type Ts c.args.queue.now c.meet.new.self n c.levels.result c.count.result c.levels.ensures.distinct c.requires.queue within c.levels.ensures.levels (Err c.in_err-item.field-0.0) c.in_err-item.ensures in
    let named = subst (λ (d : ℕ). Walks (find (types_at Ts c.args.queue.now) (record { of = type_at Ts n; decl = d })) Ts Ts c.meet.new.self (Err c.in_err-item.field-0.0) (λ (k : ℕ). k ≡ index_of (type_at Ts n) (types_at Ts c.meet.new.self))) c.count.ensures.count one in
    let p = err_from_is_err_and c.from_residual.result c.from_residual.ensures.1 in
    rw (p.1, p.2) (vector_fails c.args.schema.now Ts c.args.parts.now (types_at Ts c.args.queue.now) Ts Ts c.meet.new.self c.meet.new.self c.in_err-item.field-0.0 _ _ c.requires.parts named)

pub returns : goal.returns
returns c =
    let Ts = c.args.table.now in
    let n = get_or c.args.parts.now 0 0 in
    let within : n < length Ts = read_below (length Ts) c.args.parts.now 0 c.requires.below (omega (arith, c.requires.parts)) in
    let one = meets_type Ts c.args.queue.now c.meet.new.self n c.levels.result c.count.result c.levels.ensures.distinct c.requires.queue within c.levels.ensures.levels (Ok c.in_ok-item.item) c.in_ok-item.ensures in
    let named = subst (λ (d : ℕ). Walks (find (types_at Ts c.args.queue.now) (record { of = type_at Ts n; decl = d })) Ts Ts c.meet.new.self (Ok c.in_ok-item.item) (λ (k : ℕ). k ≡ index_of (type_at Ts n) (types_at Ts c.meet.new.self))) c.count.ensures.count one in (
      vector_walk c.args.schema.now Ts c.args.parts.now (types_at Ts c.args.queue.now) (types_at Ts c.meet.new.self) c.requires.parts named.0,
      grows_same Ts,
      named.2,
      (refl, ap Some (named.3 ∙ ap (λ (Us : List Shape). index_of (first_of Us) (types_at Ts c.meet.new.self)) (sym (one_part Ts c.args.parts.now c.requires.parts))), c.new.ensures.items),
    )
