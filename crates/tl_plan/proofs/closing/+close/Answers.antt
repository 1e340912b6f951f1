use Rattle.std.proofs.Common.{◌≡◌, ◌++◌, ◌∷◌, [], Some, List, length, map, take, slice_get, refl, ap, sym, ◌∙◌, subst, arith, IfOk}
use Rattle.std.proofs.lemmas.List.{take_all}
use Rattle.std.proofs.lemmas.Option.{slice_get_read}
use Rattle.tl_schema.specs.Types.{Shape, shapes_of}
use Rattle.tl_schema.specs.Closing.{closed}
use Rattle.tl_schema.specs.Seen.{shape}
use Rattle.tl_plan.specs.inner.Nodes.{types_at}
use Rattle.tl_plan.proofs.ClosedNodes.{ClosedSoFar, each_closed, next_closed, variable_closed, variable_stays, vector_closed}
use Rattle.tl_plan.proofs.ReadLists.{mapped_push}
use Rattle.tl_plan.proofs.ShapeViews.{shape-Var, shape-Vector}
use Rattle.tl_plan.proofs.closing.+close.Goals as goal

pub close-returns-in-Some-clause-closed : goal.close-returns-in-Some-clause-closed
close-returns-in-Some-clause-closed t c =
    variable_closed c.args.table.now c.args.args.now c.in-Var.index c.in-Some.arg.now (shape c.args.of.now) c.requires
    (slice_get_read c.args.args.now (length c.args.args.now) c.in-Var.index c.in-Some.arg.now refl c.in-Some.ensures.lookup.3.0 c.in-Some.ensures.lookup.1)
    (shape-Var c.args.of.now c.in-Var.index c.in-Var.is)

pub close-returns-in-None-clause-closed : goal.close-returns-in-None-clause-closed
close-returns-in-None-clause-closed t c =
    subst (λ (T : Shape). IfOk c.leaf-in-None.result (λ n. slice_get c.leaf-in-None.new.table n ≡ Some T))
    (variable_stays c.args.table.now c.args.args.now c.in-Var.index (shape c.args.of.now) c.in-None.ensures.lookup.3 (shape-Var c.args.of.now c.in-Var.index c.in-Var.is)) c.leaf-in-None.ensures.number

pub close-returns-in_ok-push-in-Vector-clause-closed :
    goal.close-returns-in_ok-push-in-Vector-clause-closed
close-returns-in_ok-push-in-Vector-clause-closed t c =
    subst (λ (T : Shape). IfOk c.number.result (λ n. slice_get c.number.new.self n ≡ Some T))
    (vector_closed c.in-Vector.boxed c.close.new.table c.in_ok-part-in-Vector.part c.push.new.self.items (types_at c.args.table.now c.args.args.now) (shape c.in-Vector.item.value) (shape c.args.of.now)
    (c.in_ok-push-in-Vector.ensures.items ∙ ap (λ xs. xs ++ c.in_ok-part-in-Vector.part ∷ []) c.new-parts.ensures.items)
    (c.in_ok-part-in-Vector.ensures.closed ∙ ap (λ u. Some (closed (types_at c.args.table.now c.args.args.now) (shape u))) c.deref.ensures)
    (shape-Vector c.args.of.now c.in-Vector.boxed c.in-Vector.item c.in-Vector.is))
    c.number.ensures.number

pub close_each-loop-item-preserved : goal.close_each-loop-item-preserved
close_each-loop-item-preserved t c =
    subst (λ (Us : List Shape). ClosedSoFar c.args.table.now c.args.args.now Us c.close.new.table c.push.new.self.items) (sym (mapped_push shape c.deref-item-items.result.now c.loop-item.item-index c.item-item.result c.loop-item-test.true c.item-item.is))
    (rw c.in_ok-push.ensures.items (next_closed c.args.table.now c.args.args.now _ (shape c.item-item.result) c.loop-item.table c.loop-item.all.items c.loop-item.invariant c.requires c.close.new.table c.in_ok-close.field-0 c.in_ok-close.ensures.grows c.in_ok-close.ensures.closed))

pub close_each-returns-clause-closed : goal.close_each-returns-clause-closed
close_each-returns-clause-closed t c =
    let whole : take c.loop-item.item-index c.deref-item-items.result.now ≡ c.args.types.now.items = take_all c.loop-item.item-index c.deref-item-items.result.now (omega arith) ∙ c.deref-item-items.ensures.value in
    ap shapes_of (c.loop-item.invariant.types ∙ ap (λ ts. map (closed (types_at c.args.table.now c.args.args.now)) (map shape ts)) whole) ∙ each_closed (types_at c.args.table.now c.args.args.now) (map shape c.args.types.now.items)
