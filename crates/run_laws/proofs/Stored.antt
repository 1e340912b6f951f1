-- How runs of `keep` end.
use Rattle.std.proofs.Common.{ℕ, List, subst}
use Rattle.outside.specs.Events.{Outside}
use Rattle.outside.specs.Fits.{Fits}
use Rattle.outside.specs.Reliable.{IsReliable}
use Rattle.box_server.specs.Keeping.{KeeperState}
use Rattle.serve_rooms.specs.Acts.{Act, KeeperGrew, events_in}
use Rattle.serve_rooms.specs.declared.status.KeptStatus.{KeptStatus}
use Rattle.commands.specs.KeepWords.{AsksToKeep, KeepText}
use Rattle.commands.specs.Work.{RunsStored, no_keep, kept}
use Rattle.commands.proofs.KeepWords.{one_keep}
use Rattle.run_laws.specs.Ended.{IsShown}
use Rattle.run_laws.specs.Kept.{KeptEnds}
use Rattle.run_laws.specs.Runs.{StoredEnds}
use Rattle.run_laws.proofs.keeping.Running.{keep_ends}

ends_by : (words : List (List ℕ)) (k : KeepText) (t : List Act) (status : KeptStatus) (s n : Outside) (old new : KeeperState) → AsksToKeep words k → IsShown s.view → Fits (events_in t) s n → KeeperGrew old t new → RunsStored words t status
    → KeptEnds k.schema k.address k.sessions (events_in t) s.view n.view (IsReliable s) old new status
ends_by words k t status s n old new asks shown f grew (no_keep none h) = absurd (none k asks)
ends_by words k t status s n old new asks shown f grew (kept j also h) =
    subst (λ (x : KeepText). KeptEnds x.schema x.address x.sessions (events_in t) s.view n.view (IsReliable s) old new status) (one_keep words j k also asks) (keep_ends j.schema j.address j.sessions t status s n old new shown h f grew)

pub stored_runs_end : StoredEnds
stored_runs_end words k t status s n old new asks over = ends_by words k t status s n old new asks over.shown over.fits over.kept over.runs
