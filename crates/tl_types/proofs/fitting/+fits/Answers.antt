use Rattle.std.proofs.Common.{rules, length, map, arith, sym, ap, ◌∙◌}
use Rattle.std.proofs.lemmas.Result.{err_from_is_err_and}
use Rattle.tl_schema.specs.Seen.{shape}
use Rattle.tl_schema.specs.Closing.{closed}
use Rattle.tl_types.specs.Seen.{view}
use Rattle.tl_types.specs.Fitting.{misfit}
use Rattle.tl_types.specs.declared.value.Value as own
use Rattle.tl_types.proofs.Closings.{closed_none, no_arguments}
use Rattle.tl_types.proofs.MisfitSteps.{each_fault, each_more, few_items, field_fault, field_more}
use Rattle.tl_types.proofs.fitting.+fits.Goals as goal

pub field_fits-returns-then-is_empty : goal.field_fits-returns-then-is_empty
field_fits-returns-then-is_empty t c = rw (no_arguments c.args.args.now c.is_empty.result c.is_empty.ensures c.if-is_empty.true, closed_none (shape c.args.of.now)) c.value_fits.ensures

pub value_fits-each_fits-requires : goal.value_fits-each_fits-requires
value_fits-each_fits-requires t c =
    let few = few_items c.args.schema.now.decls c.args.levels c.args.bit (shape c.args.of.now) c.args.value.now c.in-List.items c.in-List.is (sym c.own_misfit.ensures ∙ c.in_default.is) in
    (search (rules, own.the_lemmas), omega (arith, few, ap length c.deref.ensures.value))

pub each_fits-returns-in_err-at_part : goal.each_fits-returns-in_err-at_part
each_fits-returns-in_err-at_part t c =
    let p = err_from_is_err_and c.from_residual.result c.from_residual.ensures.1 in
    let v = c.index-items-i.result in
    let h = c.in_err-at_part.ensures (misfit c.args.schema.now.decls c.args.levels _ (shape c.args.of.now) (view v)) c.value_fits-told.ensures in
    rw (p.1, p.2) (each_fault c.args.schema.now.decls c.args.levels (shape c.args.of.now) c.args.items.now v c.loop-i.i c.loop-i-test.true c.index-items-i.is c.loop-i.invariant _ h)

pub each_fits-loop-i-preserved : goal.each_fits-loop-i-preserved
each_fits-loop-i-preserved t c =
    let v = c.index-items-i.result in
    let h = c.in_ok-at_part.ensures (misfit c.args.schema.now.decls c.args.levels _ (shape c.args.of.now) (view v)) c.value_fits-told.ensures in
    each_more c.args.schema.now.decls c.args.levels (shape c.args.of.now) c.args.items.now v c.loop-i.i c.loop-i-test.true c.index-items-i.is c.loop-i.invariant h

pub fields_fit-returns-in_err-at_part : goal.fields_fit-returns-in_err-at_part
fields_fit-returns-in_err-at_part t c =
    let p = err_from_is_err_and c.from_residual.result c.from_residual.ensures.1 in
    let ds = c.args.schema.now.decls in
    let args = map shape c.args.args.now in
    let f = c.in-Some.field.now in
    let v = c.index-values-i.result in
    let there = c.in-Some.ensures.lookup in
    let bit = c.bit_of-bit.result in
    let h = c.in_err-at_part.ensures (misfit ds c.args.levels bit (closed args (shape f.of)) (view v)) c.field_fits-told.ensures in
    rw (p.1, p.2) (field_fault ds c.args.levels bit args c.args.slots.now c.args.values.now f v c.loop-i.i c.loop-i-test.true c.index-values-i.is there.3.0 there.1 c.bit_of-bit.ensures c.loop-i.invariant _ h)

pub fields_fit-loop-i-preserved : goal.fields_fit-loop-i-preserved
fields_fit-loop-i-preserved t c =
    let ds = c.args.schema.now.decls in
    let args = map shape c.args.args.now in
    let f = c.in-Some.field.now in
    let v = c.index-values-i.result in
    let there = c.in-Some.ensures.lookup in
    let bit = c.bit_of-bit.result in
    let h = c.in_ok-at_part.ensures (misfit ds c.args.levels bit (closed args (shape f.of)) (view v)) c.field_fits-told.ensures in
    field_more ds c.args.levels bit args c.args.slots.now c.args.values.now f v c.loop-i.i c.loop-i-test.true c.index-values-i.is there.3.0 there.1 c.bit_of-bit.ensures c.loop-i.invariant h
