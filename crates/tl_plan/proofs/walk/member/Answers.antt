use Rattle.std.proofs.Common.{◌≡◌, ◌+◌, ◌++◌, ◌∷◌, [], List, Some, Ok, Err, map, take, drop, slice_get, ap, sym, ◌∙◌, subst}
use Rattle.std.proofs.lemmas.Option.{slice_get_within}
use Rattle.tl_schema.specs.Types.{Shape}
use Rattle.tl_schema.specs.Closing.{closed}
use Rattle.tl_schema.specs.Schemas.{Slot}
use Rattle.tl_schema.specs.Seen.{slot}
use Rattle.std.proofs.lemmas.Result.{err_from_is_err_and}
use Rattle.tl_plan.specs.Plans.{member_of}
use Rattle.tl_plan.specs.Seen.{member_view}
use Rattle.tl_plan.specs.declared.instances.Member.{Member}
use Rattle.tl_plan.specs.inner.Nodes.{types_at}
use Rattle.tl_plan.specs.inner.Walks.{Walks, find_all}
use Rattle.tl_plan.proofs.NodeTypes.{grows_below, grows_types}
use Rattle.tl_plan.proofs.QueueSteps.{meets_type}
use Rattle.tl_plan.proofs.ReadLists.{mapped_push, mapped_split}
use Rattle.tl_plan.proofs.WalkSteps.{FieldsSoFar, closed_below, closed_within, field_fails, named_field, next_field}
use Rattle.tl_plan.proofs.walk.member.Goals as goal

pub close-requires : goal.close-requires
close-requires c = grows_below c.args.table.now c.loop-field.table c.args.args.now c.loop-field.invariant.holds.grows c.requires.below

pub levels-requires : goal.levels-requires
levels-requires c = slice_get_within c.close.new.table c.in_ok-node.node _ c.in_ok-node.ensures.closed

pub returns-in_err-meet : goal.returns-in_err-meet
returns-in_err-meet c =
    let before = c.args.table.now in
    let first = c.args.queue.now in
    let i = c.loop-field.field-index in
    let f = slot c.field-item.result in
    let Ts = c.loop-field.table in
    let ns = c.loop-field.queue in
    let Us = c.close.new.table in
    let n = c.in_ok-node.node in
    let args = types_at before c.args.args.now in
    let grows = c.in_ok-node.ensures.grows in
    let at : slice_get Us n ≡ Some (closed args f.of) = c.in_ok-node.ensures.closed ∙ ap (λ (As : List Shape). Some (closed As f.of)) (grows_types before Ts c.args.args.now c.loop-field.invariant.holds.grows c.requires.below) in
    let earlier = map slot (take i c.fields_of-field-items.result.now) in
    let below = closed_below args c.args.entry before first earlier f Ts ns c.loop-field.fields.items c.loop-field.invariant Us grows n at in
    let within = closed_within args c.args.entry before first earlier f Ts ns c.loop-field.fields.items c.loop-field.invariant Us grows n at in
    let one = meets_type Us ns c.meet.new.self n c.levels.result c.args.entry c.levels.ensures.distinct below within c.levels.ensures.levels (Err c.in_err-meet.field-0.0) c.in_err-meet.ensures in
    let p = err_from_is_err_and c.from_residual-in_err-meet.result c.from_residual-in_err-meet.ensures.1 in
    rw (p.1, p.2)
    (subst (λ (fs : List Slot). Walks (find_all (types_at before first) (map (named_field args c.args.entry) fs)) before Us c.meet.new.self (Err c.in_err-meet.field-0.0) (λ (m : Member). member_view m ≡ member_of c.args.schema.now (types_at Us c.meet.new.self) args c.args.entry))
    (sym (mapped_split slot c.fields_of-field-items.result.now i c.field-item.result c.loop-field-test.true c.field-item.is) ∙ c.fields_of-field-items.ensures)
    (field_fails args c.args.entry before first earlier f Ts ns c.loop-field.fields.items c.loop-field.invariant Us grows n at (map slot (drop (i + 1) c.fields_of-field-items.result.now)) Us c.meet.new.self c.meet.new.self c.in_err-meet.field-0.0 (λ (m : Member). member_view m ≡ member_of c.args.schema.now (types_at Us c.meet.new.self) args c.args.entry) one))

pub loop-field-preserved : goal.loop-field-preserved
loop-field-preserved c =
    let before = c.args.table.now in
    let first = c.args.queue.now in
    let i = c.loop-field.field-index in
    let f = slot c.field-item.result in
    let Ts = c.loop-field.table in
    let ns = c.loop-field.queue in
    let Us = c.close.new.table in
    let n = c.in_ok-node.node in
    let args = types_at before c.args.args.now in
    let grows = c.in_ok-node.ensures.grows in
    let at : slice_get Us n ≡ Some (closed args f.of) = c.in_ok-node.ensures.closed ∙ ap (λ (As : List Shape). Some (closed As f.of)) (grows_types before Ts c.args.args.now c.loop-field.invariant.holds.grows c.requires.below) in
    let earlier = map slot (take i c.fields_of-field-items.result.now) in
    let below = closed_below args c.args.entry before first earlier f Ts ns c.loop-field.fields.items c.loop-field.invariant Us grows n at in
    let within = closed_within args c.args.entry before first earlier f Ts ns c.loop-field.fields.items c.loop-field.invariant Us grows n at in
    let one = meets_type Us ns c.meet.new.self n c.levels.result c.args.entry c.levels.ensures.distinct below within c.levels.ensures.levels (Ok c.in_ok-meet.field-0) c.in_ok-meet.ensures in
    subst (λ (fs : List Slot). FieldsSoFar args c.args.entry before first fs Us c.meet.new.self c.push.new.self.items) (sym (mapped_push slot c.fields_of-field-items.result.now i c.field-item.result c.loop-field-test.true c.field-item.is))
    (subst (FieldsSoFar args c.args.entry before first (earlier ++ f ∷ []) Us c.meet.new.self) (sym c.in_ok-push.ensures.items)
    (next_field args c.args.entry before first earlier f Ts ns c.loop-field.fields.items c.loop-field.invariant Us grows n at c.meet.new.self c.in_ok-meet.field-0 one))
