-- How the end of a session is told.
use Rattle.std.proofs.Common.{◌≡◌, ℕ, List, [], Bool, true, false, Option, Some, None, Result, Ok, Err, subst}
use Rattle.tl_base.specs.declared.host.Out.TheVariants.{Output, Errors}
use Rattle.outside.specs.Answer.{link_fault_line, write_fault_line}
use Rattle.outside.specs.declared.status.Status.{Status}
use Rattle.outside.specs.declared.status.Status.TheVariants.{LinkFault, PeerFault, WriteFault}
use Rattle.outside.specs.Events.{HostState}
use Rattle.outside.specs.Pieces.{Tells, Writes}
use Rattle.outside.specs.Begun.{Did}
use Rattle.outside.specs.Steps.{Begins, Ends}
use Rattle.outside.proofs.Growing.{can_end, can_then, did_both, did_nothing}
use Rattle.outside.proofs.Piecewise.{can_tell, can_write}
use Rattle.session_commands.specs.Lines.{served_line}
use Rattle.session_commands.specs.SessionEnds.{session_line}
use Rattle.update_sessions.specs.declared.fault.SessionFault.{SessionFault}
use Rattle.serve_rooms.specs.declared.telling.Tally.{Tally}
use Rattle.serve_rooms.specs.Telling.{goes_on, is_over, TellsLine, TellsFault, after_line, fault_told, TellsEnd}

-- ---- what can follow

can_tell_line : (whole : Bool) (line : List ℕ) → Begins (TellsLine whole line) []
can_tell_line true line = can_write Errors line
can_tell_line false line = can_end false

can_tell_fault : (tally : Tally) (line : List ℕ) (status : Status) → Begins (TellsFault tally line status) []
can_tell_fault tally line status = can_then _ _ (can_tell_line tally.whole line) (λ whole. can_end _)

can_after_line : (tally : Tally) (ok : Bool) → Begins (after_line tally ok) []
can_after_line tally true = can_end (goes_on tally)
can_after_line tally false = can_then _ _ (can_tell write_fault_line WriteFault) (λ status. can_end (is_over status))

can_fault_told : (tally : Tally) (o : Option (List ℕ)) → Begins (fault_told tally o) []
can_fault_told tally (Some line) = can_tell_fault tally line PeerFault
can_fault_told tally None = can_tell_fault tally link_fault_line LinkFault

pub can_tell_end : (number : ℕ) (tally : Tally) (end : Result ℕ SessionFault) → Begins (TellsEnd number tally end) []
can_tell_end number tally (Ok frames) = can_then _ _ (can_write Output (served_line number frames)) (can_after_line tally)
can_tell_end number tally (Err fault) = can_fault_told tally (session_line fault)

-- ---- a session without a fault

module _ (number frames : ℕ) (tally : Tally) (line : List ℕ) (is : line ≡ served_line number frames) where
  pub frames_told : (p q : HostState) → Did (Writes Output line) p q (Some true) → Did (TellsEnd number tally (Ok frames)) p q (Some (goes_on tally))
  frames_told p q h = did_both _ (after_line tally) p q q true _ (subst (λ (l : List ℕ). Did (Writes Output l) p q (Some true)) is h) (did_nothing q (goes_on tally))

  pub frames_untold : (p q r : HostState) (status : Status) → Did (Writes Output line) p q (Some false) → Did (Tells write_fault_line WriteFault) q r (Some status) → Did (TellsEnd number tally (Ok frames)) p r (Some (is_over status))
  frames_untold p q r status h tells =
      did_both _ (after_line tally) p q r false _ (subst (λ (l : List ℕ). Did (Writes Output l) p q (Some false)) is h) (did_both _ (λ (s : Status). Ends (is_over s)) q r r status _ tells (did_nothing r (is_over status)))
