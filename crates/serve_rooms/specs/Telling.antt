-- How the end of a session is told. This project's own.
use Rattle.std.specs.Prelude.{ℕ, List, Bool, true, false, Option, Some, None, Result, Ok, Err}
use Rattle.tl_base.specs.declared.host.Out.TheVariants.{Output, Errors}
use Rattle.outside.specs.Answer.{link_fault_line, write_fault_line}
use Rattle.outside.specs.declared.status.Status.{Status}
use Rattle.outside.specs.declared.status.Status.TheVariants.{Done, LinkFault, PeerFault, WriteFault}
use Rattle.outside.specs.Pieces.{Tells, Writes}
use Rattle.outside.specs.Steps.{Step, Ends, Then}
use Rattle.session_commands.specs.Lines.{served_line}
use Rattle.session_commands.specs.Serve.{first_fault}
use Rattle.session_commands.specs.SessionEnds.{session_line}
use Rattle.update_sessions.specs.declared.fault.SessionFault.{SessionFault}
use Rattle.serve_rooms.specs.declared.telling.Tally.{Tally}

-- sessions go on with this tally; or the run is over
pub data Told : Type 0 where
  goes_on : (tally : Tally) → Told
  is_over : (status : Status) → Told

abbrev pub new_tally : Tally
new_tally = record { status = Done; whole = true }

-- a line on Errors, where all lines before it stand there whole
abbrev pub TellsLine : Bool → List ℕ → Step Bool
TellsLine true line = Writes Errors line
TellsLine false line = Ends false

-- a fault: the first one's status stays
abbrev pub TellsFault : Tally → List ℕ → Status → Step Told
TellsFault tally line status = Then (TellsLine tally.whole line) (λ whole. Ends (goes_on (record { status = first_fault tally.status status; whole = whole })))

-- the line of a session without a fault was written, or not
abbrev pub after_line : Tally → Bool → Step Told
after_line tally true = Ends (goes_on tally)
after_line tally false = Then (Tells write_fault_line WriteFault) (λ status. Ends (is_over status))

-- the line of what the other end did wrong; or that of a link that failed
abbrev pub fault_told : Tally → Option (List ℕ) → Step Told
fault_told tally (Some line) = TellsFault tally line PeerFault
fault_told tally None = TellsFault tally link_fault_line LinkFault

-- the session with this number ended so
abbrev pub TellsEnd : ℕ → Tally → Result ℕ SessionFault → Step Told
TellsEnd number tally (Ok frames) = Then (Writes Output (served_line number frames)) (after_line tally)
TellsEnd number tally (Err fault) = fault_told tally (session_line fault)
