-- What reading a step from a source answers. This project's own.
use Rattle.std.specs.Prelude.{◌≡◌, ◌⊎◌, ℕ, ◌<◌, ◌^◌, List, [], ◌++◌, length, Option, Some, None, Result, Ok, Err}
use Rattle.tl_types.specs.Values.{ValueView}
use Rattle.tl_types.specs.Refusal as refusal
use Rattle.tl_types.specs.Offsets.{moved}
use Rattle.tl_types.specs.declared.cause.Cause.{Cause}
use Rattle.tl_types.specs.declared.value.TheConstants.{MAX_LEVELS}
use Rattle.box_events.specs.declared.steps.Step.{Step}
use Rattle.box_events.specs.declared.steps.Step.TheVariants.{Date}
use Rattle.wire_profile.specs.Indexes.{ProfileView, cell_shape}
use Rattle.wire_profile.specs.SpelledForms.{owned}
use Rattle.wire_values.specs.Steps.{step_tree}
use Rattle.wire_profile.specs.declared.wire_fault.WireFault.{WireFault}
use Rattle.wire_profile.specs.declared.wire_fault.WireFault.TheVariants as wire
use Rattle.box_wire.specs.Kinds.{steps}
use Rattle.box_wire.specs.Framing.{Means, SpellsWhole}
use Rattle.box_wire.specs.declared.fault.StepReadFault.{StepReadFault}
use Rattle.box_wire.specs.declared.fault.StepReadFault.TheVariants.{Wire, ReadFault, Memory}

-- why bytes begin with no step: the first cause that holds; offsets count from the first of them
pub data StepRefused (p : ProfileView) (bytes : List ℕ) (fault : WireFault) : Type 0 where
  -- no value's spelling begins them
  no_value : (offset : ℕ) (cause : Cause) → refusal.Refused p.schema MAX_LEVELS (cell_shape p steps.cell) bytes offset cause → fault ≡ wire.Refused (moved 0 offset) cause → StepRefused p bytes fault
  -- their first value has a cause
  no_message : (v : ValueView) (x rest : List ℕ) → SpellsWhole p steps v x → bytes ≡ x ++ rest → steps.cause (owned p v) ≡ Some fault → StepRefused p bytes fault

-- a date is below 2^31, as a server's clock takes it
abbrev pub IsDated : Step → Type 0
IsDated (Date date) = date < 2 ^ 31
IsDated s = Unit {0}

-- a failed read, or out of memory
abbrev pub IsOutside : Result (Option Step) StepReadFault → Type 0
IsOutside (Ok step) = ⊥
IsOutside (Err (Wire fault)) = ⊥
IsOutside (Err ReadFault) = Unit {0}
IsOutside (Err Memory) = Unit {0}

-- what is answered, and what is left
abbrev pub StepGiven : ProfileView → List ℕ → Option (List ℕ) → Result (Option Step) StepReadFault → Type 0
StepGiven p bytes after (Ok None) = (bytes ≡ []) × (after ≡ Some [])
StepGiven p bytes after (Ok (Some s)) = (x : List ℕ) × (rest : List ℕ) × (bytes ≡ x ++ rest) × (after ≡ Some rest) × Means p steps (step_tree s) x
StepGiven p bytes after (Err (Wire fault)) = (0 < length bytes) × StepRefused p bytes fault
StepGiven p bytes after (Err ReadFault) = Unit {0}
StepGiven p bytes after (Err Memory) = Unit {0}

pub record ReadsStep (p : ProfileView) (bytes : List ℕ) (after : Option (List ℕ)) (result : Result (Option Step) StepReadFault) : Type 0 where
  -- what is given is meant by the first bytes, and just these are taken; what is refused is so for this cause
  pub given : StepGiven p bytes after result
  -- what is meant is given
  pub meant : (s : Step) (x rest : List ℕ) → bytes ≡ x ++ rest → Means p steps (step_tree s) x → (result ≡ Ok (Some s)) ⊎ IsOutside result
  -- each cause is told
  pub refused : (fault : WireFault) → 0 < length bytes → StepRefused p bytes fault → (result ≡ Err (Wire fault)) ⊎ IsOutside result
