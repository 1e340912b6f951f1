use Rattle.std.proofs.lemmas.Result.{on_ok_weaker}
use Rattle.report_lines.proofs.Lanes.{ends_in_limit}
use Rattle.report_lines.proofs.closing.put_span.Goals as goal

pub returns-clause-limit : goal.returns-clause-limit
returns-clause-limit c = on_ok_weaker c.put_number-2.result (λ last. ends_in_limit c.args.lane.now.state c.at.ensures.sound) c.put_number-2.ensures
