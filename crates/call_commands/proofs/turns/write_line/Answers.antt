use Rattle.std.proofs.Common.{true, false}
use Rattle.outside.proofs.Growing.{did_nothing, did_both}
use Rattle.call_commands.specs.CallsWork.{after_line, so_far}
use Rattle.call_commands.proofs.Going.{did_last}
use Rattle.call_commands.proofs.turns.write_line.Goals as goal

pub returns-in-Ok-clause-does : goal.returns-in-Ok-clause-does
returns-in-Ok-clause-does g c = λ past. did_both _ (after_line (so_far past c.args.end)) _ _ _ true _ c.in-Ok.ensures (did_nothing _ _)

pub returns-in-Err-clause-does : goal.returns-in-Err-clause-does
returns-in-Err-clause-does g c = λ past. did_both _ (after_line (so_far past c.args.end)) _ _ _ false _ c.in-Err.ensures (did_last _ _ _ c.tell.result c.tell.ensures)
