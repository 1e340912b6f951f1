use Rattle.std.proofs.lemmas.Result.{on_ok_weaker}
use Rattle.report_lines.proofs.Puts.{four}
use Rattle.report_lines.proofs.summary.put_made.Goals as goal

pub returns : goal.returns
returns c = on_ok_weaker c.put_text.result (λ last. four _ _ _ _ _ _ _ _ _ c.in_ok-put_number.ensures c.in_ok-put_number-2.ensures c.in_ok-put_number-3.ensures last) c.put_text.ensures
