use Rattle.std.proofs.Common.{List, ℕ, subst, ◌∙◌, ap, ◌++◌}
use Rattle.std.specs.Io.KnownBytes.{Appends}
use Rattle.update_replay.specs.WorldLines.{end_lines}
use Rattle.update_replay.proofs.lines.write_end.Goals as goal

pub returns-clause-bytes : goal.returns-clause-bytes
returns-clause-bytes g c =
    subst (λ (x : List ℕ). Appends (g.K.Sink.state c.args.to.now).written (g.K.Sink.state c.write_all.new.to).written x)
    (c.as_slice.ensures.value ∙ c.in_ok-put_end.ensures ∙ ap (λ (l : List ℕ). l ++ end_lines c.args.world.now) c.clear.ensures.items) c.in_ok-write_all.ensures.bytes
