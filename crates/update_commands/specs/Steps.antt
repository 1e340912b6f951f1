-- The lines of steps that aren't made in a world, at the offset where the step begins in its journal. This project's own.
use Rattle.std.specs.Prelude.{ℕ, List, ◌++◌, codes, decimal}
use Rattle.box_world.specs.declared.fault.StepFault.TheVariants.{NoClient, NoPacket, PoolFull, WrongEnd}
use Rattle.outside.specs.Answer.{placed_line}
use Rattle.box_world.specs.declared.fault.StepFault.{StepFault}

-- why a step isn't possible
abbrev pub cause_words : StepFault → List ℕ
cause_words (NoClient n) = codes "NoClient " ++ decimal n
cause_words (NoPacket n) = codes "NoPacket " ++ decimal n
cause_words (WrongEnd n) = codes "WrongEnd " ++ decimal n
cause_words (PoolFull bytes) = codes "PoolFull " ++ decimal bytes

-- of a step that isn't made
abbrev pub step_fault_line : ℕ → StepFault → List ℕ
step_fault_line at cause = placed_line (codes "journal") at (cause_words cause)
