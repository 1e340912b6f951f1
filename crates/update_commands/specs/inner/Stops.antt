-- How a replay that stopped is told. This project's own.
use Rattle.std.specs.Prelude.{◌≡◌, ℕ, List, Option, Some, None}
use Rattle.outside.specs.declared.status.Status.{Status}
use Rattle.outside.specs.declared.status.Status.TheVariants.{Refused}
use Rattle.outside.specs.Events.{HostState}
use Rattle.outside.specs.Pieces.{Tells}
use Rattle.outside.specs.Begun.{Did}
use Rattle.update_commands.specs.Replaying.{stop_line}
use Rattle.update_replay.specs.declared.fault.ReplayFault.{ReplayFault}

-- its line is told; or there is none, or no memory for it
abbrev pub TellsStop : ReplayFault → HostState → HostState → Option Status → Type 0
TellsStop fault p q (Some status) = (line : List ℕ) × (stop_line fault ≡ Some line) × Did (Tells line Refused) p q (Some status)
TellsStop fault p q None = q ≡ p
