-- What the parts of `replay` answer. This project's own.
use Rattle.std.specs.Prelude.{◌≡◌, ℕ, List, Option, Some, None}
use Rattle.box_events.specs.declared.steps.Step.{Step}
use Rattle.fault_lines.specs.Messages.{step_line}
use Rattle.update_replay.specs.Replays.{goes_on, seen_of}
use Rattle.update_replay.specs.declared.fault.ReplayFault.{ReplayFault}
use Rattle.update_replay.specs.declared.fault.ReplayFault.TheVariants as replay
use Rattle.update_commands.specs.Replay.{long_line}
use Rattle.update_commands.specs.Steps.{step_fault_line}

-- ---- stops

-- the line of why a replay stopped at its journal; a fault of the outside, or of memory, has none
abbrev pub stop_line : ReplayFault → Option (List ℕ)
stop_line (replay.Wire at fault) = Some (step_line at fault)
stop_line (replay.Step at fault) = Some (step_fault_line at fault)
stop_line (replay.TooLong at) = Some (long_line at)
stop_line replay.ReadFault = None
stop_line replay.WriteFault = None
stop_line replay.Memory = None

-- ---- parts

-- of a journal so much was read that what is looked at is the same
abbrev pub IsSeen : List ℕ → List ℕ → Type 0
IsSeen bytes read = (seen_of read ≡ seen_of bytes) × (goes_on read ≡ goes_on bytes)

-- no journal is refused as it is read
abbrev pub NoLine : List ℕ → List ℕ → Type 0
NoLine bytes line = ⊥
