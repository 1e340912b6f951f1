use Rattle.tl_decode.proofs.ItemSteps.{takes_list_number, takes_no_list}
use Rattle.tl_decode.proofs.taking.take_list_number.Goals as goal

pub returns-then-word-ne-BOXED_VECTOR : goal.returns-then-word-ne-BOXED_VECTOR
returns-then-word-ne-BOXED_VECTOR c = takes_no_list c.args.plan.now c.args.item c.args.word _ c.if-word-ne-BOXED_VECTOR.true c.wrong.ensures

pub returns : goal.returns
returns c = takes_list_number c.args.plan.now c.args.item c.args.word c.if-word-ne-BOXED_VECTOR.false c.requires
