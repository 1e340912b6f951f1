-- How the end of a replay is told.
use Rattle.std.proofs.Common.{◌≡◌, ℕ, List, Some, Result, Ok, Err, option_map, sym, ap, ◌∙◌}
use Rattle.box_events.specs.declared.steps.Step.{Step}
use Rattle.outside.specs.Answer.{refused_after}
use Rattle.box_world.specs.declared.fault.StepFault.{StepFault}
use Rattle.box_world.specs.declared.fault.StepFault.TheVariants.{NoClient, NoPacket, PoolFull, WrongEnd}
use Rattle.update_replay.specs.Endings.{Ending, whole, no_step, not_made, too_long, answer_of}
use Rattle.update_replay.specs.declared.fault.ReplayFault.{ReplayFault}
use Rattle.update_replay.specs.declared.fault.ReplayFault.TheVariants as replay
use Rattle.update_commands.specs.Replay.{ending_answer}
use Rattle.update_commands.specs.Replaying.{stop_line}
use Rattle.update_commands.specs.Steps.{step_fault_line}

-- ---- endings as they are told

abbrev err : ReplayFault → Result ℕ ReplayFault
err f = Err f

same_fault : (f g : ReplayFault) → err f ≡ err g → f ≡ g
same_fault f g e = cc

no_fault : {P : Type 0} (f : ReplayFault) (k : ℕ) → err f ≡ Ok k → P
no_fault f k e = absurd cc

cause_told : (output : List ℕ) (at : ℕ) (cause : StepFault) (line : List ℕ) → Some (step_fault_line at cause) ≡ Some line → ending_answer output (not_made at cause) ≡ Some (refused_after output line)
cause_told output at (NoClient n) line tells = ap (option_map (refused_after output)) tells
cause_told output at (NoPacket n) line tells = ap (option_map (refused_after output)) tells
cause_told output at (WrongEnd n) line tells = ap (option_map (refused_after output)) tells
cause_told output at (PoolFull n) line tells = ap (option_map (refused_after output)) tells

-- what is refused with this line is answered with it
pub fault_told : (output : List ℕ) (ending : Ending) (f : ReplayFault) (line : List ℕ) → Err f ≡ answer_of ending → stop_line f ≡ Some line → ending_answer output ending ≡ Some (refused_after output line)
fault_told output (whole k) f line is tells = no_fault f k is
fault_told output (no_step at fault) f line is tells = ap (option_map (refused_after output)) (ap stop_line (sym (same_fault f (replay.Wire at fault) is)) ∙ tells)
fault_told output (not_made at cause) f line is tells = cause_told output at cause line (ap stop_line (sym (same_fault f (replay.Step at cause) is)) ∙ tells)
fault_told output (too_long at) f line is tells = ap (option_map (refused_after output)) (ap stop_line (sym (same_fault f (replay.TooLong at) is)) ∙ tells)
