use Rattle.std.proofs.Common.{◌∙◌}
use Rattle.update_replay.proofs.Standing.{summed}
use Rattle.update_replay.proofs.summary.summary_of.Goals as goal

pub returns : goal.returns
returns c =
    c.from_vec.ensures ∙ summed _ _ _ _ c.args.steps c.packets.result c.bytes.result c.state.result c.args.world.now c.new-lines.ensures.items c.packets.ensures.value c.bytes.ensures.value c.state.ensures c.in_ok-put_made.ensures c.in_ok-put_server.ensures c.in_ok-put_standings.ensures
