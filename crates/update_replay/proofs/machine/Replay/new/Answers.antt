use Rattle.std.proofs.Common.{refl}
use Rattle.update_replay.proofs.Handed.{begun}
use Rattle.update_replay.proofs.Windows.{goes_by, seen_taken}
use Rattle.update_replay.proofs.machine.Replay.new.Goals as goal

pub returns : goal.returns
returns c = begun c.args.journal.now _ (seen_taken c.args.journal.now c.min-end.result c.min-end.ensures) (goes_by c.args.journal.now _ refl) refl refl
