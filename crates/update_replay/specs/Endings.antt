-- How a replay ends by its journal alone, and as what it answers that. This project's own.
use Rattle.std.specs.Prelude.{ℕ, Bool, true, false, ◌&&◌, cond, Result, Ok, Err}
use Rattle.tl_base.specs.declared.source.TextFault.{TextFault}
use Rattle.tl_base.specs.declared.source.TextFault.TheVariants as text
use Rattle.tl_types.specs.declared.cause.Cause.{Cause}
use Rattle.tl_types.specs.declared.cause.Cause.TheVariants.{Truncated}
use Rattle.wire_profile.specs.declared.wire_fault.WireFault.{WireFault}
use Rattle.wire_profile.specs.declared.wire_fault.WireFault.TheVariants as wire
use Rattle.box_world.specs.declared.fault.StepFault.{StepFault}
use Rattle.update_replay.specs.declared.fault.ReplayFault.{ReplayFault}
use Rattle.update_replay.specs.declared.fault.ReplayFault.TheVariants.{Wire, Step, TooLong, ReadFault, Memory}

-- the journal's end after so many steps; bytes at an offset that are no step; a step there that isn't possible; or too many steps, or bytes
pub data Ending : Type 0 where
  whole : ℕ → Ending
  no_step : ℕ → WireFault → Ending
  not_made : ℕ → StepFault → Ending
  too_long : ℕ → Ending

-- the bytes end inside an item
abbrev pub is_truncated : Cause → Bool
is_truncated Truncated = true
is_truncated cause = false

abbrev pub is_cut_short : WireFault → Bool
is_cut_short (wire.Refused place cause) = is_truncated cause
is_cut_short fault = false

-- A journal is looked at as if it ended at the limit: where it goes on, bytes that end too soon there are too many.
abbrev pub of_refusal : Bool → ℕ → WireFault → Ending
of_refusal goes_on at fault = cond (goes_on && is_cut_short fault) (too_long at) (no_step at fault)

abbrev pub answer_of : Ending → Result ℕ ReplayFault
answer_of (whole n) = Ok n
answer_of (no_step at fault) = Err (Wire at fault)
answer_of (not_made at cause) = Err (Step at cause)
answer_of (too_long at) = Err (TooLong at)

-- what a text that was not taken is to a replay
abbrev pub of_text : TextFault → ReplayFault
of_text text.ReadFault = ReadFault
of_text text.Memory = Memory
