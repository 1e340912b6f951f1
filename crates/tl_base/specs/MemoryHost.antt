-- A host in memory: what it stands for, and what it answers. This project's own.
use Rattle.std.specs.Prelude.{◌≡◌, ◌⊎◌, ℕ, ◌-◌, ◌≤◌, min, Some, Result, Ok, Err, length}
use Rattle.tl_base.specs.Outside.{View, HostState, left_of, written_of}
use Rattle.tl_base.specs.Cuts.{cut_at}
use Rattle.tl_base.specs.Scripts.{ScriptView, script_of, FailsNext, none_fails, made_of}
use Rattle.tl_base.specs.MemoryShown.{view_of}
use Rattle.tl_base.specs.declared.counts.Counts.{Counts}
use Rattle.tl_base.specs.declared.host.Slot.{Slot}
use Rattle.tl_base.specs.declared.host.Out.{Out}
use Rattle.tl_base.specs.declared.mem_script.HostCall.{HostCall}
use Rattle.tl_base.specs.declared.mem_script.HostCall.TheVariants.{Read, Write}
use Rattle.tl_base.specs.declared.mem_host.MemHost.{MemHost}

-- what it shows
abbrev pub host_view : MemHost → View
host_view h = view_of h.shown

-- what it was told of its calls
abbrev pub host_script : MemHost → ScriptView
host_script h = script_of h.script

-- how often its calls have failed
abbrev pub host_counts : MemHost → Counts
host_counts h = h.counts

-- it tells its view, and is sound where it was told to fail at no call
abbrev pub host_state : MemHost → HostState
host_state h = record { view = Some (host_view h); counts = host_counts h; sound = none_fails (host_script h) }

-- a call fails exactly where its number is one told to fail, or where not P
abbrev pub AnswersAsTold : {T E : Type 0} → HostCall → (View → Type 0) → MemHost → Result T E → Type 0
AnswersAsTold call P h (Ok x) = ¬ FailsNext call (host_script h)
AnswersAsTold call P h (Err e) = FailsNext call (host_script h) ⊎ ¬ P (host_view h)

-- A read into a buffer with so much room fails where its number is one told to fail. Else it gives as many bytes as the cut, the buffer and what
-- is left allow.
abbrev pub GivesAsTold : {E : Type 0} → Slot → MemHost → ℕ → Result ℕ E → Type 0
GivesAsTold slot h room (Ok n) = ¬ FailsNext (Read slot) (host_script h) × (n ≡ min (cut_at (host_script h).cuts (made_of (Read slot) (host_script h).made)) (min room (length (left_of slot (host_view h)))))
GivesAsTold slot h room (Err e) = FailsNext (Read slot) (host_script h)

-- A write of a piece of so many bytes fails where its number is one told to fail, or where the out has no room. Else it takes as many bytes as
-- fit.
abbrev pub TakesAsTold : {E : Type 0} → Out → MemHost → ℕ → Result ℕ E → Type 0
TakesAsTold out h size (Ok n) = ¬ FailsNext (Write out) (host_script h) × (n ≡ min size ((host_view h).room - length (written_of out (host_view h))))
TakesAsTold out h size (Err e) = FailsNext (Write out) (host_script h) ⊎ ((host_view h).room ≤ length (written_of out (host_view h)))
