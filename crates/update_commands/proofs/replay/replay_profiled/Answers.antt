use Rattle.fault_lines.proofs.Profiled.{are_profiles}
use Rattle.update_commands.specs.ReplayWork.{replays_by}
use Rattle.update_commands.proofs.Profiling.{profile_made, profile_refused}
use Rattle.update_commands.proofs.Replayed.{can_replay_by}
use Rattle.update_commands.proofs.replay.replay_profiled.Goals as goal

pub replay_file-requires-clause-sound : goal.replay_file-requires-clause-sound
replay_file-requires-clause-sound g c = (are_profiles c.args.schema.now c.in-Ok.profile c.requires.good c.in-Ok.ensures).0

pub returns-in-Ok : goal.returns-in-Ok
returns-in-Ok g c = profile_made (replays_by c.args.journal.now c.args.clients) c.args.schema.now c.in-Ok.profile _ _ _ c.in-Ok.ensures c.replay_file.ensures

pub returns-in-Err : goal.returns-in-Err
returns-in-Err g c = profile_refused (replays_by c.args.journal.now c.args.clients) c.args.schema.now c.requires.good (λ p is. can_replay_by c.args.journal.now c.args.clients p) c.in-Err.fault _ _ _ c.in-Err.ensures c.print_made.ensures
