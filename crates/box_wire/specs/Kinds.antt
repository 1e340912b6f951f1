-- Kinds of messages. This project's own.
use Rattle.std.specs.Prelude.{Option}
use Rattle.tl_types.specs.Values.{ValueView}
use Rattle.wire_forms.specs.declared.form.Cell.{Cell}
use Rattle.wire_forms.specs.declared.form.Cell.TheVariants.{One, Query}
use Rattle.wire_forms.specs.declared.numbers.TheConstants.{FRAME_TYPE, STEP_TYPE, CLIENT_TYPE}
use Rattle.wire_values.specs.Normal.{normal_frame, normal_saved}
use Rattle.wire_profile.specs.Causes.{call_cause, cause_of}
use Rattle.wire_profile.specs.declared.wire_fault.WireFault.{WireFault}
use Rattle.wire_profile.specs.declared.rule.Root.TheVariants.{Frame, Step, Saved}

-- A kind of messages: what their values are one of, why such a value is no message, and what it becomes where it may say the same in two ways.
pub record Kind : Type 0 where
  pub cell : Cell
  pub cause : ValueView → Option WireFault
  pub normal : ValueView → ValueView

-- what a server sends
abbrev pub frames : Kind
frames = record { cell = One FRAME_TYPE; cause = cause_of Frame; normal = normal_frame }

-- what a client asks
abbrev pub calls : Kind
calls = record { cell = Query; cause = call_cause; normal = λ t. t }

-- what a journal holds
abbrev pub steps : Kind
steps = record { cell = One STEP_TYPE; cause = cause_of Step; normal = λ t. t }

-- what a client keeps
abbrev pub saved_clients : Kind
saved_clients = record { cell = One CLIENT_TYPE; cause = cause_of Saved; normal = normal_saved }
