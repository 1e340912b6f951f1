-- The line that each fault of a packet's bytes is told by; out of memory has none. This project's own.
use Rattle.std.specs.Prelude.{◌≡◌, ℕ, ◌+◌, List, ◌++◌, codes, decimal}
use Rattle.tl_base.specs.declared.fault.Fault.{Fault}
use Rattle.tl_base.specs.declared.fault.Fault.TheVariants as fault
use Rattle.tl_decode.specs.declared.whole.WholeCause.{WholeCause}
use Rattle.tl_decode.specs.declared.whole.WholeCause.TheVariants as whole
use Rattle.tl_calls.specs.declared.fault.SendFault.{SendFault}
use Rattle.tl_calls.specs.declared.fault.SendFault.TheVariants as send
use Rattle.outside.specs.declared.stop.LoadError.{LoadError}
use Rattle.outside.specs.declared.stop.LoadError.TheVariants as load_error
use Rattle.outside.specs.Loading.{RefusesAs}
use Rattle.schema_files.specs.Lines.{cause_text, input_line}
use Rattle.call_commands.specs.CallReports.{result_cause_name}

-- ---- lines

-- a word, a number, and the line of a value
abbrev pub numbered_line : List ℕ → ℕ → List ℕ → List ℕ
numbered_line what n line = (((what ++ codes " ") ++ decimal n) ++ codes " ") ++ line

-- ---- faults

-- the offset at which bytes are refused
abbrev pub offset_in : Fault WholeCause → ℕ
offset_in (fault.Refused (whole.Refused place cause)) = place
offset_in (fault.Refused (whole.Trailing place)) = place
offset_in fault.Memory = 0

-- bytes after the first word of the packet at this offset are no value
abbrev pub TellsUnread : ℕ → Fault WholeCause → LoadError → Type 0
TellsUnread at (fault.Refused (whole.Refused place cause)) u = RefusesAs (input_line (at + (8 + place)) (cause_text cause)) u
TellsUnread at (fault.Refused (whole.Trailing place)) u = RefusesAs (input_line (at + (8 + place)) (codes "Trailing")) u
TellsUnread at fault.Memory u = u ≡ load_error.Memory

-- the call of the packet at this offset is not sent
abbrev pub TellsUnsent : ℕ → SendFault → LoadError → Type 0
TellsUnsent at send.Full u = RefusesAs (input_line at (codes "Full")) u
TellsUnsent at (send.Result cause) u = RefusesAs (input_line at (result_cause_name cause)) u
TellsUnsent at send.Memory u = u ≡ load_error.Memory
