-- What calls answer: the step's answer, or none where memory ran out. This project's own.
use Rattle.std.specs.Prelude.{◌≡◌, ℕ, Option, Some, None, option_map, Result, Ok, Err}
use Rattle.box_server.specs.Servers.{ServerState}
use Rattle.box_server.specs.declared.store_fault.KeepFault.{KeepFault}
use Rattle.box_server.specs.declared.store_fault.KeepFault.TheVariants.{Failed, Memory}
use Rattle.box_server.specs.declared.store_fault.OpenFault.{OpenFault}
use Rattle.box_server.specs.declared.store_fault.OpenFault.TheVariants as opening
use Rattle.outside.specs.declared.status.Status.{Status}
use Rattle.outside.specs.Packets.{PacketView, whole, none, wrong, broken}
use Rattle.outside.specs.declared.status.Status.TheVariants.{Refused}
use Rattle.outside.specs.Begun.{Did}
use Rattle.outside.specs.Events.{HostState}
use Rattle.outside.specs.Pieces.{Tells}
use Rattle.session_commands.specs.Keep.{bad_entry_line}
use Rattle.update_sessions.specs.declared.fault.SessionFault.{SessionFault}
use Rattle.update_sessions.specs.declared.fault.SessionFault.TheVariants.{Packet, LinkFault}
use Rattle.serve_rooms.specs.Answering.{Answered, goes_on, has_ended, fails, unkept, Session, over, lost}
use Rattle.serve_rooms.specs.Sessions.{Next, more, no_more, keep_fault_line}
use Rattle.serve_rooms.specs.Telling.{Told, is_over}
use Rattle.serve_rooms.specs.Telling as telling
use Rattle.serve_rooms.specs.declared.answering.Outcome.{Outcome}
use Rattle.serve_rooms.specs.declared.answering.Outcome.TheVariants as outcome
use Rattle.serve_rooms.specs.declared.status.KeptStatus.{KeptStatus}
use Rattle.serve_rooms.specs.declared.status.KeptStatus.TheVariants as kept
use Rattle.serve_rooms.specs.declared.telling.Tally.{Tally}

-- ---- one packet

-- what becomes of what is no packet
abbrev pub outcome_at : PacketView → Outcome
outcome_at (whole content) = outcome.Answered
outcome_at none = outcome.Ended
outcome_at (wrong cause) = outcome.Failed (Packet cause)
outcome_at broken = outcome.Failed LinkFault

abbrev pub answered_as : ServerState → Outcome → Answered
answered_as s outcome.Answered = goes_on s
answered_as s outcome.Ended = has_ended s
answered_as s (outcome.Failed fault) = fails s fault

abbrev pub answered_by : ServerState → Result Outcome KeepFault → Option Answered
answered_by t (Ok x) = Some (answered_as t x)
answered_by t (Err Memory) = None
answered_by t (Err Failed) = Some unkept

-- ---- a session

-- how a session ends by what became of a packet, after so many calls
abbrev pub end_at : ℕ → Outcome → Option (Result ℕ SessionFault)
end_at n outcome.Answered = None
end_at n outcome.Ended = Some (Ok n)
end_at n (outcome.Failed fault) = Some (Err fault)

abbrev pub session_by : ServerState → Result (Result ℕ SessionFault) KeepFault → Option Session
session_by t (Ok end) = Some (over t end)
session_by t (Err Memory) = None
session_by t (Err Failed) = Some lost

abbrev pub told_as : Result Tally Status → Told
told_as (Ok tally) = telling.goes_on tally
told_as (Err status) = is_over status

abbrev pub told_by : {E : Type 0} → Result (Result Tally Status) E → Option Told
told_by (Ok told) = Some (told_as told)
told_by (Err e) = None

-- ---- sessions

abbrev pub next_as : ServerState → Result Tally KeptStatus → Next
next_as t (Ok tally) = more t tally
next_as t (Err status) = no_more status

abbrev pub next_by : {E : Type 0} → ServerState → Result (Result Tally KeptStatus) E → Option Next
next_by t (Ok next) = Some (next_as t next)
next_by t (Err e) = None

-- why entries aren't read is told; out of memory is handed on
abbrev pub TellsUnopened : OpenFault → HostState → HostState → Option KeptStatus → Type 0
TellsUnopened (opening.BadEntry n) old new end = (answer : Option Status) × Did (Tells (bad_entry_line n) Refused) old new answer × (end ≡ option_map (λ status. kept.Run status) answer)
TellsUnopened opening.Failed old new end = Did (Tells keep_fault_line kept.KeepFault) old new end
TellsUnopened opening.Memory old new end = (end ≡ None) × (new ≡ old)
