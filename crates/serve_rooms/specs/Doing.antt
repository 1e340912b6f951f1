-- What is done over a host and a keeper. This project's own.
use Rattle.std.specs.Prelude.{◌≡◌, List, [], ◌∷◌, ◌++◌, map, true, Option, Some, None}
use Rattle.tl_base.specs.declared.host.Out.{Out}
use Rattle.tl_base.specs.declared.host.Out.TheVariants.{Output, Errors, Link}
use Rattle.outside.specs.Answer.{memory_line}
use Rattle.outside.specs.declared.status.Status.{Status}
use Rattle.outside.specs.declared.status.Status.TheVariants.{Memory}
use Rattle.outside.specs.Events.{Event}
use Rattle.outside.specs.Laws.{Throughout}
use Rattle.outside.specs.Pieces.{Tells}
use Rattle.outside.specs.Steps.{Step, StepOf, Then, Ends}
use Rattle.serve_rooms.specs.Acts.{Act, hosted, loaded, added, rebuilds, unaccepted, unread, events_in, KeptState, KeptGrew}
use Rattle.serve_rooms.specs.declared.status.KeptStatus.{KeptStatus}
use Rattle.serve_rooms.specs.declared.status.KeptStatus.TheVariants.{Run}

-- what a host does alone
abbrev pub Hosted : {A : Type 0} → Step A → StepOf Act A
Hosted S t a = (events : List Event) × (t ≡ map (λ e. hosted e) events) × S events a

-- the run ends by what the host does alone
abbrev pub Last : Step Status → StepOf Act KeptStatus
Last S = Then (Hosted S) (λ status. Ends (Run status))

-- the keeper doesn't fail at it
abbrev pub IsKept : Act → Type 0
IsKept (hosted e) = Unit {0}
IsKept (loaded (rebuilds s)) = Unit {0}
IsKept (loaded (unaccepted n)) = Unit {0}
IsKept (loaded unread) = ⊥
IsKept (added e ok) = ok ≡ true

-- the beginning of what a step can be, whose rest needs no failure of the keeper
pub record BeginsKept {A : Type 0} (S : StepOf Act A) (t : List Act) : Type 0 where
  pub rest : List Act
  pub answer : A
  pub kept : Throughout IsKept rest
  pub whole : S (t ++ rest) answer

-- the step with this answer; or, where memory ran out, the beginning of one
abbrev pub MeetsKept : {A : Type 0} → StepOf Act A → List Act → Option A → Type 0
MeetsKept S t (Some a) = S t a
MeetsKept S t None = BeginsKept S t

-- A call did the step over a host and a keeper, and answered so. None: it ran out of memory in the middle of one.
pub record DidKept {A : Type 0} (S : StepOf Act A) (old new : KeptState) (answer : Option A) : Type 0 where
  pub trace : List Act
  pub grew : KeptGrew old trace new
  pub holds : MeetsKept S trace answer

-- ---- runs

-- the work is done, and ends so; or its beginning is, and out of memory is told
pub data RunsKept (work : StepOf Act KeptStatus) (t : List Act) (status : KeptStatus) : Type 0 where
  done : work t status → RunsKept work t status
  out_of_memory : Then (λ u s. BeginsKept work u × (s ≡ Memory)) (λ s. Last (Tells memory_line s)) t status → RunsKept work t status

-- a run of the work
pub record RanKept (work : StepOf Act KeptStatus) (old new : KeptState) (status : KeptStatus) : Type 0 where
  pub trace : List Act
  pub grew : KeptGrew old trace new
  pub holds : RunsKept work trace status

-- ---- without a keeper

-- Output, Errors and the link, to which it is written as sessions go
abbrev pub to_serve : List Out
to_serve = Output ∷ Errors ∷ Link ∷ []

-- what a host does beside a keeper that never fails
pub record Spares (work : StepOf Act KeptStatus) (t : List Event) (status : Status) : Type 0 where
  pub acts : List Act
  pub works : work acts (Run status)
  pub kept : Throughout IsKept acts
  pub events : t ≡ events_in acts
