-- What `make` makes of a profile, and that it can go on to its end.
use Rattle.std.proofs.Common.{ℕ, [], Result, Ok, Err, Vec, Global}
use Rattle.tl_schema.specs.CheckedPrograms.{IsSchema}
use Rattle.tl_schema.specs.Schemas.{Declared}
use Rattle.outside.specs.Answer.{refused}
use Rattle.outside.specs.Jobs.{making}
use Rattle.outside.specs.declared.stop.LoadError.{LoadError}
use Rattle.outside.specs.Printing.{Makes}
use Rattle.outside.specs.Steps.{Begins}
use Rattle.outside.proofs.Printed.{can_answer}
use Rattle.codec_rooms.proofs.Typing.{refused_made}
use Rattle.update_commands.specs.Make.{OfMadeRun, TellsRun}
use Rattle.update_commands.proofs.OneMake.{each_run}
use Rattle.update_commands.specs.MakeWork.{makes_by}
use Rattle.update_commands.specs.Profile.{OfProfile}
use Rattle.update_commands.proofs.Profiling.{can_profile}

module _ (number count : ℕ) where
  -- the run's text is an answer's
  pub run_made : (r : Result (Vec ℕ Global) LoadError) → TellsRun number count r → Makes (OfMadeRun number count) (making r)
  run_made (Ok text) h = h
  run_made (Err u) h = refused_made (OfMadeRun number count) (λ line. OfMadeRun number count (refused line)) u (λ line is. is) h

  pub can_make : (schema : Declared) → IsSchema schema → Begins (OfProfile (makes_by number count) schema) []
  can_make schema good = can_profile (makes_by number count) schema good (λ p is. let a = each_run number count in can_answer (OfMadeRun number count) a.0 a.1)
