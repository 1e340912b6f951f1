use Rattle.std.proofs.Common.{◌∙◌, refl, sym, subst, ap, map, ◌≡◌}
use Rattle.std.specs.Prelude.{IfOk}
use Rattle.std.proofs.lemmas.List.{take_all}
use Rattle.std.proofs.lemmas.Option.{slice_get_read}
use Rattle.tl_types.specs.Seen.{view, views}
use Rattle.tl_types.specs.declared.value.Value.{Value}
use Rattle.tl_types.specs.Values.{ValueView}
use Rattle.tl_types.proofs.Views.{view-Absent}
use Rattle.tl_layers.specs.inner.Tables.{moved_by, moved_each, picked}
use Rattle.tl_layers.proofs.MovedValues.{each_moved, moved_at, moved_past}
use Rattle.tl_layers.proofs.lifting.+lift.Goals as goal

pub lift_all-returns : goal.lift_all-returns
lift_all-returns t c =
    c.loop-value.invariant ∙ ap (map (λ (v : Value). moved_by c.args.moved.now (view v))) (take_all c.loop-value.value-index c.args.values.now c.loop-value-test.false) ∙ each_moved c.args.moved.now c.args.values.now

pub pick-returns-in-Some-get : goal.pick-returns-in-Some-get
pick-returns-in-Some-get t c =
    let at = slice_get_read c.args.fields.now _ c.in-Some.k c.in-Some-get.value.now refl c.in-Some-get.ensures.lookup.3.0 c.in-Some-get.ensures.lookup.1 in
    let e = moved_at c.args.moved.now c.args.fields.now c.in-Some.k c.in-Some-get.value.now at ∙ ap (picked (moved_each c.args.moved.now (views c.args.fields.now))) (sym c.in-Some.is) in
    subst (λ (w : ValueView). IfOk c.lift_value.result (λ v. view v ≡ w)) e c.lift_value.ensures

pub pick-returns-in-None-get : goal.pick-returns-in-None-get
pick-returns-in-None-get t c =
    view-Absent ∙ moved_past c.args.moved.now c.args.fields.now c.in-Some.k c.in-None-get.ensures.lookup.3 ∙ ap (picked (moved_each c.args.moved.now (views c.args.fields.now))) (sym c.in-Some.is)

pub pick_all-returns : goal.pick_all-returns
pick_all-returns t c = c.loop-origin.invariant ∙ ap (map (picked (moved_each c.args.moved.now (views c.args.fields.now)))) (take_all c.loop-origin.origin-index c.args.from.now c.loop-origin-test.false)
