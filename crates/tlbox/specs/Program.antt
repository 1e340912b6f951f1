-- What the program does over its host: a run of its words, and then what becomes of State. This project's own.
use Rattle.std.specs.Prelude.{◌≡◌, ℕ, List, [], ◌∷◌, ◌++◌}
use Rattle.tl_base.specs.declared.host.Out.TheVariants.{State}
use Rattle.outside.specs.Answer.{write_fault_line}
use Rattle.outside.specs.declared.status.Status.{Status}
use Rattle.outside.specs.declared.status.Status.TheVariants.{Done, WriteFault}
use Rattle.outside.specs.Events.{Event, HostState, write_failed}
use Rattle.outside.specs.Pieces.{Tells}
use Rattle.outside.specs.Steps.{Step, Then, Ends, Grows}
use Rattle.real_host.specs.declared.state_end.StateEnd.{StateEnd}
use Rattle.real_host.specs.declared.state_end.StateEnd.TheVariants.{Named, Removed}
use Rattle.commands.specs.Work.{RunsWords}

-- this became of State last
abbrev pub IsLast : StateEnd → List StateEnd → Type 0
IsLast e ends = (before : List StateEnd) × (ends ≡ before ++ e ∷ [])

-- State took its name, and nothing else is done; or it couldn't, which is a write to it that failed, and that is told
pub data NamesState (ends : List StateEnd) (t : List Event) (status : Status) : Type 0 where
  named : IsLast Named ends → Ends Done t status → NamesState ends t status
  unnamed : (told : List Event) → t ≡ write_failed State ∷ told → Tells write_fault_line WriteFault told status → NamesState ends t status

-- what follows of a run that ended so: where its work is done State takes its name, else it is removed
pub data EndsRun (ends : List StateEnd) (ended : Status) (t : List Event) (status : Status) : Type 0 where
  done : ended ≡ Done → NamesState ends t status → EndsRun ends ended t status
  not_done : ¬ (ended ≡ Done) → IsLast Removed ends → Ends ended t status → EndsRun ends ended t status

-- what the program does of these words
abbrev pub RunsProgram : List (List ℕ) → List StateEnd → Step Status
RunsProgram words ends = Then (RunsWords words) (EndsRun ends)

-- what a host tells before and after that, and what became of State
abbrev pub RanProgram : List (List ℕ) → HostState → HostState → List StateEnd → Status → Type 0
RanProgram words old new ends status = Grows old new (λ t. RunsProgram words ends t status)
