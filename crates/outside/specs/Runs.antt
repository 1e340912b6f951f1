-- What a run does. This project's own.
use Rattle.std.specs.Prelude.{◌≡◌, List, [], Option, Some, None, Result, Ok, Err}
use Rattle.tl_base.specs.declared.host.Out.{Out}
use Rattle.outside.specs.Answer.{memory_line}
use Rattle.outside.specs.declared.status.Status.{Status}
use Rattle.outside.specs.declared.status.Status.TheVariants.{Memory}
use Rattle.outside.specs.Events.{Event, HostState}
use Rattle.outside.specs.Begun.{BeginsIn, Did}
use Rattle.outside.specs.Steps.{Step, Then, Grows}
use Rattle.outside.specs.Pieces.{Tells}

-- the work is done, with this status; or its beginning is, with nothing written but to these outs, and out of memory is told
pub data RunsIn (outs : List Out) (work : Step Status) (t : List Event) (status : Status) : Type 0 where
  done : work t status → RunsIn outs work t status
  out_of_memory : Then (λ u s. BeginsIn outs work u × (s ≡ Memory)) (Tells memory_line) t status → RunsIn outs work t status

abbrev pub Runs : Step Status → Step Status
Runs = RunsIn []

-- what `finish` does: nothing; or it tells that it ran out of memory
abbrev pub Finishes : {E : Type 0} → Result Status E → HostState → HostState → Status → Type 0
Finishes (Ok answer) old new status = (status ≡ answer) × (new ≡ old)
Finishes (Err e) old new status = Did (Tells memory_line Memory) old new (Some status)

-- a run of the work
abbrev pub RanIn : List Out → Step Status → HostState → HostState → Status → Type 0
RanIn outs work old new status = Grows old new (λ t. RunsIn outs work t status)

abbrev pub Ran : Step Status → HostState → HostState → Status → Type 0
Ran = RanIn []

-- what a call answers; none where it ran out of memory
abbrev pub answered : {A E : Type 0} → Result A E → Option A
answered (Ok answer) = Some answer
answered (Err e) = None
