-- Laws of the lines that are written of a world. This project's own.
use Rattle.std.specs.Prelude.{◌≡◌, ℕ, List, [], ◌∷◌, ◌++◌, None}
use Rattle.box_events.specs.declared.steps.Step.{Step}
use Rattle.box_world.specs.NumberWorlds.{n_run}
use Rattle.box_world.specs.Possible.{refusal}
use Rattle.box_world.specs.Worlds.{run}
use Rattle.update_replay.specs.Closings.{closing_lines}
use Rattle.update_replay.specs.StepLines.{StepLines}
use Rattle.update_world.specs.Outcomes.{outcome_of}
use Rattle.update_world.specs.Shown.{Shown, StandsFor}
use Rattle.update_world.specs.Spelled.{IsSpelled, packet_size}
use Rattle.update_replay.specs.WorldLines.{end_lines, outcome_lines}

-- The lines of a possible step of a run are those that tell it by numbers and by the bytes of the packets that it sends.
abbrev pub StepsAreTold : Type 0
StepsAreTold = (n : ℕ) (steps : List Step) (s : Step) (new : Shown) (k : ℕ) → StandsFor new (run n (steps ++ s ∷ [])) → refusal packet_size (run n steps) s ≡ None
    → StepLines (IsSpelled new.profile) k (n_run n steps) s (outcome_lines new k (outcome_of (run n steps) s))

-- The lines of the end of a run are the closing lines, which are of the server's boxes and of numbers.
abbrev pub EndsAreTold : Type 0
EndsAreTold = (n : ℕ) (steps : List Step) (s : Shown) → StandsFor s (run n steps) → end_lines s ≡ closing_lines (n_run n steps)
