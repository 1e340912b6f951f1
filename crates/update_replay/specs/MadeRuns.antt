-- What a made run answers: the first of its steps that isn't possible, or its summary. This project's own.
use Rattle.std.specs.Prelude.{◌≡◌, ℕ, ◌+◌, List, [], ◌∷◌, Option, Some, None, Result, Ok, Err}
use Rattle.box_events.specs.declared.steps.Step.{Step}
use Rattle.box_world.specs.NumberWorlds.{n_run}
use Rattle.box_world.specs.declared.fault.StepFault.{StepFault}
use Rattle.box_world.specs.declared.fault.StepFault.TheVariants.{PoolFull}
use Rattle.box_world.specs.Possible.{refusal}
use Rattle.box_world.specs.Worlds.{World, happens, start}
use Rattle.box_world.specs.Sizes.{step_size}
use Rattle.update_replay.specs.Made.{made_steps}
use Rattle.update_replay.specs.Summaries.{summary}
use Rattle.update_world.specs.Spelled.{packet_size}
use Rattle.update_replay.specs.declared.made_fault.MadeFault.{MadeFault}
use Rattle.update_replay.specs.declared.made_fault.MadeFault.TheVariants.{PoolFull, Memory}

-- a step of a journal that isn't possible: its offset, and why
pub record Refusal : Type 0 where
  pub at : ℕ
  pub cause : StepFault

-- the step at this offset, or else a later one
abbrev pub refused_or : Option StepFault → ℕ → Option Refusal → Option Refusal
refused_or None at later = later
refused_or (Some cause) at later = Some (record { at = at; cause = cause })

-- the first step that isn't possible, in a world and from an offset of the journal on; in the journal each step is its spelling
abbrev pub first_refused : World → ℕ → List Step → Option Refusal
first_refused w at [] = None
first_refused w at (s ∷ ss) = refused_or (refusal packet_size w s) at (first_refused (happens w s) (at + step_size s) ss)

-- of the made run of a number with so many steps, in a world with two clients
abbrev pub made_refusal : ℕ → ℕ → Option Refusal
made_refusal number count = first_refused (start 2) 0 (made_steps number count)

-- where each of its steps is possible, its summary is answered; else that the pool would be too full. Out of memory is free here.
abbrev pub MakesRun : ℕ → ℕ → Result (List ℕ) MadeFault → Type 0
MakesRun number count (Ok text) = (made_refusal number count ≡ None) × (text ≡ summary packet_size count (n_run 2 (made_steps number count)))
MakesRun number count (Err (PoolFull at bytes)) = made_refusal number count ≡ Some (record { at = at; cause = PoolFull bytes })
MakesRun number count (Err Memory) = Unit {0}
