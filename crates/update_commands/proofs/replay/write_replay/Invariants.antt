use Rattle.std.proofs.Common.{◌-◌, length}
use Rattle.update_replay.specs.declared.limits.TheConstants.{MAX_STEPS}
use Rattle.update_commands.proofs.Replayed.{Writing}
use Rattle.update_commands.proofs.replay.write_replay.Given as goal

abbrev pub invariant-steps : goal.invariant-steps
invariant-steps g l =
    let s = g.H.Host in
    let w = l.fn.world in
    record { writing : Writing w.profile (length w.clients) l.fn.journal l.world l.replay (s.state l.fn.host) (s.state l.host) }

abbrev pub decreases-steps : goal.decreases-steps
decreases-steps g l = MAX_STEPS - l.replay.steps
