-- The summary of a run.
use Rattle.std.proofs.Common.{ap, sym}
use Rattle.box_server.proofs.Carrying.{changed_overlays}
use Rattle.box_world.proofs.NumberWorlds.{numbers_follow}
use Rattle.update_replay.specs.Laws.{SummariesAreOfRuns}
use Rattle.update_replay.specs.Summaries.{summary}

pub summaries_are_of_runs : SummariesAreOfRuns
summaries_are_of_runs size n count steps = ap (summary size count) (sym (numbers_follow changed_overlays n steps))
