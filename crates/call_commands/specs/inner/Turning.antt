-- What the parts of a turn answer. This project's own.
use Rattle.std.specs.Prelude.{◌≡◌, ℕ, ◌+◌, ◌≤◌, ◌∷◌, Some, None, Result, Ok, Err}
use Rattle.std.specs.declared.alloc.AllocError.{AllocError}
use Rattle.tl_schema.specs.Schemas.{Declared}
use Rattle.tl_calls.specs.Calling.{CallsView, StandsFor}
use Rattle.tl_calls.specs.Events.{Log, Logged}
use Rattle.outside.specs.Jobs.{Making}
use Rattle.outside.specs.declared.status.Status.{Status}
use Rattle.outside.specs.Events.{HostState}
use Rattle.outside.specs.Printing.{PrintsMade}
use Rattle.outside.specs.Begun.{Did}
use Rattle.outside.specs.Steps.{Step, again, leave}
use Rattle.outside.specs.Steps as steps
use Rattle.call_commands.specs.declared.limits.TheConstants.{MAX_PACKET_END}
use Rattle.call_commands.specs.CallsWork.{SoFar, so_far}
use Rattle.call_commands.specs.declared.turns.Turn.{Turn}
use Rattle.call_commands.specs.declared.turns.Turn.TheVariants.{Next, Last}

-- a turn's end, where these are the events before the next packet
abbrev pub turn_of : Log → Turn → steps.Turn SoFar Status
turn_of past (Next end) = again (so_far past end)
turn_of past (Last status) = leave status

-- the next packet begins at this offset, where there is another turn
abbrev pub IsNext : ℕ → Turn → Type 0
IsNext at (Next end) = end ≡ at
IsNext at (Last status) = Unit {0}

-- where there is another turn, the packet has eight bytes at least, ends within the limit, and is one call at most
abbrev pub GoesOn : ℕ → CallsView → CallsView → Turn → Type 0
GoesOn at old new (Next end) = (at + 8 ≤ end) × (end ≤ MAX_PACKET_END) × (new.next ≤ old.next + 1)
GoesOn at old new (Last status) = Unit {0}

-- the run ends by what was made, or out of memory
abbrev pub EndsMade : Making → HostState → HostState → Result Turn AllocError → Type 0
EndsMade m p q (Ok (Next end)) = ⊥
EndsMade m p q (Ok (Last status)) = PrintsMade m p q (Some status)
EndsMade m p q (Err e) = PrintsMade m p q None

-- A step of the turn after these events was done, and ended so. Where another turn follows, the calls stand for the events with this packet's.
abbrev pub Turns : Step (steps.Turn SoFar Status) → Declared → CallsView → Log → HostState → HostState → Result Turn AllocError → Type 0
Turns S schema new past p q (Ok (Next end)) = (e : Logged) × StandsFor schema new (e ∷ past) × Did S p q (Some (again (so_far (e ∷ past) end)))
Turns S schema new past p q (Ok (Last status)) = Did S p q (Some (leave status))
Turns S schema new past p q (Err e) = Did S p q None
