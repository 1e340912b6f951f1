use Rattle.std.proofs.lemmas.Result.{on_ok_weaker}
use Rattle.report_lines.proofs.Puts.{three}
use Rattle.report_lines.proofs.steps.put_posted.Goals as goal

pub returns : goal.returns
returns c = on_ok_weaker c.put_number.result (λ last. three _ _ _ _ _ _ _ c.in_ok-put_text.ensures c.in_ok-put_group.ensures last) c.put_number.ensures
