use Rattle.std.proofs.lemmas.Result.{on_ok_weaker}
use Rattle.report_lines.proofs.Puts.{three}
use Rattle.report_lines.proofs.closing.put_body.Goals as goal

pub returns : goal.returns
returns c = on_ok_weaker c.put_line_end.result (λ last. three _ _ _ _ _ _ _ c.in_ok-put_text.ensures c.in_ok-put_hex.ensures last) c.put_line_end.ensures
