-- A run of `serve`.
use Rattle.std.proofs.Common.{ℕ, List}
use Rattle.tl_base.specs.Outside.{ShowsBytes}
use Rattle.session_commands.specs.Serve.{serve_job}
use Rattle.serve_rooms.specs.Doing.{to_serve}
use Rattle.serve_rooms.specs.Serve.{serves}
use Rattle.run_laws.specs.Ended.{Anything, RunsJob}
use Rattle.run_laws.proofs.serving.ServeEnds.{serve_ends}
use Rattle.run_laws.proofs.serving.ServeKept.{serve_keeps}
use Rattle.run_laws.proofs.serving.ServeSound.{serve_sound}

pub serve_runs : (schema address : List ℕ) (sessions : ℕ) → RunsJob Anything ShowsBytes (serve_job schema address sessions) to_serve (serves schema address sessions)
serve_runs schema address sessions = record { ends = serve_ends schema address sessions; keeps = serve_keeps schema address sessions; sound = serve_sound schema address sessions }
