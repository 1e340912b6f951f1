use Rattle.std.proofs.Common.{◌≡◌, ◌++◌, ℕ, subst}
use Rattle.std.proofs.lemmas.Result.{on_ok_weaker}
use Rattle.update_replay.specs.StepLines.{packet_lines}
use Rattle.update_replay.specs.WorldLines.{bytes_from}
use Rattle.update_replay.proofs.LineLists.{step_puts}
use Rattle.update_replay.proofs.lines.put_step.Goals as goal

pub returns : goal.returns
returns c = on_ok_weaker c.put_packets.result (λ last. step_puts _ _ _ _ _ _ _ _ _ c.in_ok-put_step_head.ensures c.in_ok-put_outcome.ensures c.in_ok-put_line_end.ensures
    (subst (λ (k : ℕ). c.put_packets.new.lines.items ≡ c.put_line_end.new.lines.items ++ packet_lines k (bytes_from k c.args.world.now.pool)) c.first_new.ensures last))
    c.put_packets.ensures
