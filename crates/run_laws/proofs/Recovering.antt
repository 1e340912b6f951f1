-- Runs of `client` end as its job.
use Rattle.std.proofs.Common.{ℤ, ℕ, List}
use Rattle.tl_base.specs.Outside.{ShowsBytes}
use Rattle.outside.specs.Begun.{to_link}
use Rattle.session_commands.specs.Client.{client_job}
use Rattle.session_rooms.specs.Client.{recovers}
use Rattle.run_laws.specs.Ended.{Anything, RunsJob}
use Rattle.run_laws.proofs.links.ClientRuns as runs
use Rattle.run_laws.proofs.links.ClientSound as sounds

pub client_runs : (schema address state : List ℕ) (channels : List ℤ) → RunsJob Anything ShowsBytes (client_job schema address state channels) to_link (recovers schema address state channels)
client_runs schema address state channels = record { ends = runs.ends schema address state channels; keeps = runs.keeps schema address state channels; sound = sounds.sound schema address state channels }
