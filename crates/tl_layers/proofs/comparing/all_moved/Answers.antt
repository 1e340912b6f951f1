use Rattle.std.proofs.Common.{length, arith, ap, false}
use Rattle.std.proofs.lemmas.Option.{slice_get-get_or}
use Rattle.tl_schema.specs.Schemas.{Declared}
use Rattle.tl_layers.proofs.KeptDeclarations.{one_more, all_broken, all_kept}
use Rattle.tl_layers.proofs.comparing.all_moved.Goals as goal

pub loop-i-preserved : goal.loop-i-preserved
loop-i-preserved c =
    let same = ap (λ (s : Declared). length s.decls) c.old_schema.ensures in
    one_more c.args.pair.now c.args.marks.now c.loop-i.i c.loop-i.moved.items c.loop-i.first c.loop-i.invariant _
    (slice_get-get_or c.args.marks.now c.loop-i.i false (omega (arith, c.requires, c.loop-i-test.true, c.count-i-end.ensures.count, same))) c.note.new.moved.items c.in_ok-first.first c.in_ok-first.ensures

pub returns-in-Some : goal.returns-in-Some
returns-in-Some c =
    let same = ap (λ (s : Declared). length s.decls) c.old_schema.ensures in
    let low = c.loop-i.auto.i-end in
    all_broken c.args.pair.now c.args.marks.now c.loop-i.i c.loop-i.moved.items c.loop-i.first c.loop-i.invariant (omega (arith, low, c.count-i-end.ensures.count, same)) (omega (arith, c.loop-i-test.false, c.count-i-end.ensures.count, same))
    (c.in-Some.decl, c.in-Some.cause) c.in-Some.is

pub returns-in-None : goal.returns-in-None
returns-in-None c =
    let same = ap (λ (s : Declared). length s.decls) c.old_schema.ensures in
    let low = c.loop-i.auto.i-end in
    all_kept c.args.pair.now c.args.marks.now c.loop-i.i c.loop-i.moved.items c.loop-i.first c.loop-i.invariant (omega (arith, low, c.count-i-end.ensures.count, same)) (omega (arith, c.loop-i-test.false, c.count-i-end.ensures.count, same)) c.in-None.is
