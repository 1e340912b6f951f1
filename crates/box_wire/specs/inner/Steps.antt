-- Why no step is read, and the step of a value. This project's own.
use Rattle.std.specs.Prelude.{◌≡◌, Option, Some, None, Result, Ok, Err}
use Rattle.box_events.specs.declared.steps.Step.{Step}
use Rattle.tl_decode.specs.declared.fault.DecodeFault.{DecodeFault}
use Rattle.tl_decode.specs.declared.fault.DecodeFault.TheVariants as decode
use Rattle.wire_profile.specs.declared.wire_fault.WireFault.{WireFault}
use Rattle.wire_profile.specs.declared.wire_fault.WireFault.TheVariants as wire
use Rattle.box_wire.specs.declared.fault.StepReadFault.{StepReadFault}
use Rattle.box_wire.specs.declared.fault.StepReadFault.TheVariants.{Wire, ReadFault, Memory}

abbrev pub as_step_fault : DecodeFault → StepReadFault
as_step_fault (decode.Refused place cause) = Wire (wire.Refused place cause)
as_step_fault decode.ReadFault = ReadFault
as_step_fault decode.Memory = Memory

-- the first cause, or else the step, out of memory aside
abbrev pub AnswersStep : Option WireFault → Step → Result (Option Step) StepReadFault → Type 0
AnswersStep (Some fault) m result = result ≡ Err (Wire fault)
AnswersStep None m (Ok (Some s)) = s ≡ m
AnswersStep None m (Ok None) = ⊥
AnswersStep None m (Err Memory) = Unit {0}
AnswersStep None m (Err ReadFault) = ⊥
AnswersStep None m (Err (Wire fault)) = ⊥
