-- What a step answers, and what the world stands for then. This project's own.
use Rattle.std.specs.Prelude.{◌≡◌, Option, Some, None, Result, Ok, Err}
use Rattle.box_events.specs.declared.steps.Step.{Step}
use Rattle.box_world.specs.Worlds.{World, happens}
use Rattle.box_world.specs.declared.fault.StepFault.TheVariants.{NoClient, NoPacket, PoolFull, WrongEnd}
use Rattle.box_world.specs.Possible.{refusal}
use Rattle.box_world.specs.declared.fault.StepFault.{StepFault}
use Rattle.tl_base.specs.declared.fault.Fault.{Fault}
use Rattle.box_world.specs.declared.fault.StepFault.TheVariants.{NoClient, NoPacket, WrongEnd, PoolFull}
use Rattle.tl_base.specs.declared.fault.Fault.TheVariants.{Refused, Memory}
use Rattle.update_world.specs.declared.outcome.Outcome.{Outcome}
use Rattle.update_world.specs.Outcomes.{outcome_of}
use Rattle.update_world.specs.Shown.{Shown, StandsFor}
use Rattle.update_world.specs.Spelled.{packet_size}

-- In a world that it stands for: a step that is possible happens, and what comes of it is answered; another is refused by its first cause,
-- after which all is as before, but for a pool that would be too full. That, and out of memory, spoil it.
abbrev pub Happens : Shown → Step → World → Result Outcome (Fault StepFault) → Shown → Type 0
Happens old s w (Ok outcome) new = (refusal packet_size w s ≡ None) × (outcome ≡ outcome_of w s) × StandsFor new (happens w s) × (new.spoiled ≡ None)
Happens old s w (Err (Refused (NoClient n))) new = (refusal packet_size w s ≡ Some (NoClient n)) × (new ≡ old)
Happens old s w (Err (Refused (NoPacket n))) new = (refusal packet_size w s ≡ Some (NoPacket n)) × (new ≡ old)
Happens old s w (Err (Refused (WrongEnd n))) new = (refusal packet_size w s ≡ Some (WrongEnd n)) × (new ≡ old)
Happens old s w (Err (Refused (PoolFull bytes))) new = (refusal packet_size w s ≡ Some (PoolFull bytes)) × (new.spoiled ≡ Some (Refused (PoolFull bytes)))
Happens old s w (Err Memory) new = new.spoiled ≡ Some Memory

-- a spoiled world answers its refusal again, and stays as it is
abbrev pub AnswersAgain : Shown → Result Outcome (Fault StepFault) → Shown → Option (Fault StepFault) → Type 0
AnswersAgain old result new None = Unit {0}
AnswersAgain old result new (Some fault) = (result ≡ Err fault) × (new ≡ old)
