use Rattle.std.proofs.Common.{false}
use Rattle.std.proofs.lemmas.Option.{slice_get-get_or}
use Rattle.tl_layers.proofs.KeptDeclarations.{count_step, count_all}
use Rattle.tl_layers.proofs.comparing.count_of.Goals as goal

pub loop-mark-preserved : goal.loop-mark-preserved
loop-mark-preserved c =
    count_step c.args.marks.now c.loop-mark.mark-index _ (slice_get-get_or c.args.marks.now c.loop-mark.mark-index false c.loop-mark-test.true) c.loop-mark.count c.one_if-count.result c.loop-mark.invariant.0 c.loop-mark.invariant.1 c.one_if-count.ensures

pub returns : goal.returns
returns c = count_all c.args.marks.now c.loop-mark.mark-index c.loop-mark.count c.loop-mark-test.false c.loop-mark.invariant.0
