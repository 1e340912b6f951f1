use Rattle.std.proofs.Common.{true, false}
use Rattle.outside.specs.Answer.{done}
use Rattle.outside.specs.Printing.{after_output}
use Rattle.outside.proofs.Growing.{did_both}
use Rattle.outside.proofs.Printed.{told_nothing}
use Rattle.outside.proofs.printing.print.Goals as goal

pub returns-in-Ok : goal.returns-in-Ok
returns-in-Ok g c = did_both _ (after_output (done c.args.text.now)) _ _ _ true _ c.in-Ok.ensures (told_nothing _ _)

pub returns-in-Err : goal.returns-in-Err
returns-in-Err g c = did_both _ (after_output (done c.args.text.now)) _ _ _ false _ c.in-Err.ensures c.tell.ensures
