use Rattle.std.proofs.lemmas.Result.{on_ok_weaker}
use Rattle.report_lines.proofs.Puts.{three}
use Rattle.report_lines.proofs.steps.put_restarted.Goals as goal

pub returns : goal.returns
returns c = on_ok_weaker c.put_positions.result (λ last. three _ _ _ _ _ _ _ c.in_ok-put_number.ensures c.in_ok-put_text.ensures last) c.put_positions.ensures
