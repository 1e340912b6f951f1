use Rattle.std.proofs.Common.{◌-◌, length}
use Rattle.tl_base.specs.Using.{WritesOnly}
use Rattle.update_replay.specs.declared.limits.TheConstants.{MAX_STEPS}
use Rattle.update_replay.proofs.Replaying.{Writing}
use Rattle.update_replay.proofs.replay.write_steps.Given as goal

abbrev pub invariant-steps : goal.invariant-steps
invariant-steps g l =
    let k = g.K.Sink.state in
    let w = l.fn.world in
    record {
      writing : Writing w.profile (length w.clients) l.fn.journal l.world l.replay (k l.fn.to).written (k l.to).written;
      written : WritesOnly (k l.fn.to) (k l.to) ⊥;
    }

abbrev pub decreases-steps : goal.decreases-steps
decreases-steps g l = MAX_STEPS - l.replay.steps
