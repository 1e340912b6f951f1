-- A replay that is made step by step, over a journal in memory: how far it has come, and what it hands out. This project's own.
use Rattle.std.specs.Prelude.{◌≡◌, ◌⊎◌, ℕ, ◌<◌, List, [], ◌∷◌, ◌++◌, length, Bool, true, false, Option, Some, None, Result, Ok, Err}
use Rattle.box_events.specs.declared.steps.Step.{Step}
use Rattle.wire_profile.specs.Indexes.{ProfileView}
use Rattle.box_wire.specs.StepReading.{StepRefused}
use Rattle.box_wire.specs.declared.fault.StepReadFault.{StepReadFault}
use Rattle.box_wire.specs.declared.fault.StepReadFault.TheVariants as reading
use Rattle.update_world.specs.Shown.{Shown}
use Rattle.update_replay.specs.Endings.{Ending, whole, answer_of}
use Rattle.update_replay.specs.Replays.{Began, BeginsStep, Next, Replayed, StandsAfter, StandsThen, goes_on, seen_of}
use Rattle.update_replay.specs.declared.fault.ReplayFault.{ReplayFault}
use Rattle.update_replay.specs.declared.fault.ReplayFault.TheVariants.{Memory}
use Rattle.update_replay.specs.declared.machine.Replay.{Replay}

-- These steps of a journal were made, with n clients, and these lines were handed out, when the world is as it is.
pub record HasMade (p : ProfileView) (n : ℕ) (journal : List ℕ) (ss : List Step) (output : List ℕ) (w : Shown) (r : Replay) : Type 0 where
  pub began : Began p n (seen_of journal) ss r.at r.rest.now output
  pub more : r.goes_on ≡ goes_on journal
  pub number : r.steps ≡ length ss
  pub stands : StandsAfter p n w ss

-- it has come to no end yet
abbrev pub IsGoing : Shown → Replay → Type 0
IsGoing w r = (p : ProfileView) × (n : ℕ) × (journal : List ℕ) × (ss : List Step) × (output : List ℕ) × HasMade p n journal ss output w r

-- What is handed out after that, when the world is as it is: of one step more, which was made, its lines; at the journal's end the closing lines; or
-- nothing, where memory runs out, or the replay comes to an ending that is answered so.
abbrev pub HandsOut : ProfileView → ℕ → List ℕ → List Step → List ℕ → List ℕ → Shown → Replay → Result Bool ReplayFault → Type 0
HandsOut p n journal ss left output w new (Ok true) = (s : Step) × HasMade p n journal (ss ++ s ∷ []) (output ++ new.lines.items) w new × Next p n (goes_on journal) ss left new.lines.items
HandsOut p n journal ss left output w new (Ok false) = HasMade p n journal ss output w new × Replayed p n journal ss (output ++ new.lines.items) (whole (length ss)) × Next p n (goes_on journal) ss left new.lines.items
HandsOut p n journal ss left output w new (Err fault) = (new.lines.items ≡ []) × ((fault ≡ Memory) ⊎ ((ending : Ending) × Replayed p n journal ss output ending × (answer_of ending ≡ Err fault) × StandsThen ending p n w ss))

-- no step, where there are no bytes; or the step that bytes begin with, and how many of them it has; or why they begin with none
abbrev pub FindsStep : ProfileView → List ℕ → Result (Option (Step × ℕ)) StepReadFault → Type 0
FindsStep p bytes (Ok None) = bytes ≡ []
FindsStep p bytes (Ok (Some found)) = (x : List ℕ) × (rest : List ℕ) × BeginsStep p bytes found.0 x rest × (found.1 ≡ length x)
FindsStep p bytes (Err (reading.Wire fault)) = (0 < length bytes) × StepRefused p bytes fault
FindsStep p bytes (Err reading.ReadFault) = Unit {0}
FindsStep p bytes (Err reading.Memory) = Unit {0}
