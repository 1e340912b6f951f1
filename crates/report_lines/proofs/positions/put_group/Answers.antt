use Rattle.std.proofs.lemmas.Result.{on_ok_weaker}
use Rattle.report_lines.proofs.Puts.{three}
use Rattle.report_lines.proofs.positions.put_group.Goals as goal

pub returns : goal.returns
returns c = on_ok_weaker c.put_number-3.result (λ last. three _ _ _ _ _ _ _ c.in_ok-put_number.ensures c.in_ok-put_number-2.ensures last) c.put_number-3.ensures
