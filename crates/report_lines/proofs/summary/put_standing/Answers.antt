use Rattle.std.proofs.lemmas.Result.{on_ok_weaker}
use Rattle.report_lines.proofs.Puts.{four}
use Rattle.report_lines.proofs.summary.put_standing.Goals as goal

pub returns : goal.returns
returns c = on_ok_weaker c.put_line_end.result (λ last. four _ _ _ _ _ _ _ _ _ c.in_ok-put_number.ensures c.in_ok-put_text.ensures c.in_ok-put_positions.ensures last) c.put_line_end.ensures
