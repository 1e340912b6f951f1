-- A replay of a journal: what it writes, and how it ends. This project's own.
use Rattle.std.specs.Prelude.{◌≡◌, ◌⊎◌, ℕ, ◌+◌, ◌<◌, ◌≤◌, List, [], ◌∷◌, ◌++◌, length, take, ltb, Bool, false, IsTrue, Option, Some, None, IfSome, Result, Ok, Err}
use Rattle.std.specs.Io.KnownBytes.{Appends}
use Rattle.box_events.specs.declared.steps.Step.{Step}
use Rattle.wire_profile.specs.declared.wire_fault.WireFault.{WireFault}
use Rattle.wire_profile.specs.Indexes.{ProfileView}
use Rattle.wire_values.specs.Steps.{step_tree}
use Rattle.box_wire.specs.Kinds.{steps}
use Rattle.box_wire.specs.Framing.{Means}
use Rattle.box_wire.specs.StepReading.{StepRefused}
use Rattle.box_server.specs.Servers.{new_server}
use Rattle.box_world.specs.NumberWorlds.{n_run}
use Rattle.box_world.specs.declared.fault.StepFault.{StepFault}
use Rattle.box_world.specs.declared.fault.StepFault.TheVariants.{PoolFull}
use Rattle.box_world.specs.Possible.{refusal}
use Rattle.box_world.specs.Worlds.{run, new_clients}
use Rattle.update_replay.specs.Closings.{closing_lines}
use Rattle.update_replay.specs.StepLines.{StepLines}
use Rattle.update_world.specs.Shown.{Shown, StandsFor}
use Rattle.update_world.specs.Spelled.{IsSpelled, packet_size}
use Rattle.update_replay.specs.Endings.{Ending, whole, not_made, too_long, answer_of, of_refusal}
use Rattle.update_replay.specs.declared.fault.ReplayFault.{ReplayFault}
use Rattle.update_replay.specs.declared.fault.ReplayFault.TheVariants.{Wire, Step as NotMade, TooLong, ReadFault, WriteFault, Memory}
use Rattle.update_replay.specs.declared.limits.TheConstants.{MAX_JOURNAL_BYTES, MAX_STEPS}

-- ---- a journal

-- So much of a journal is looked at, and whether it goes on after that. In what follows they are `seen` and `more`.
unfoldable pub seen_of : List ℕ → List ℕ
seen_of journal = take MAX_JOURNAL_BYTES journal

unfoldable pub goes_on : List ℕ → Bool
goes_on journal = ltb MAX_JOURNAL_BYTES (length journal)

-- bytes begin with those of a step
pub record BeginsStep (p : ProfileView) (bytes : List ℕ) (s : Step) (x rest : List ℕ) : Type 0 where
  pub parts : bytes ≡ x ++ rest
  pub means : Means p steps (step_tree s) x

-- What is left after some steps begins with another, which is possible, and isn't one too many; these are its lines.
pub record StepFollows (p : ProfileView) (n : ℕ) (ss : List Step) (left : List ℕ) (s : Step) (x rest lines : List ℕ) : Type 0 where
  pub few : length ss < MAX_STEPS
  pub begins : BeginsStep p left s x rest
  pub possible : refusal packet_size (run n ss) s ≡ None
  pub told : StepLines (IsSpelled p) (length ss) (n_run n ss) s lines

-- The bytes begin with these steps, of n clients; they end at this offset, at which this is left; and these are their lines.
pub data Began (p : ProfileView) (n : ℕ) (seen : List ℕ) : List Step → ℕ → List ℕ → List ℕ → Type 0 where
  none : Began p n seen [] 0 seen []
  one_more : (ss : List Step) (at : ℕ) (left lines : List ℕ) (s : Step) (x rest more : List ℕ) → Began p n seen ss at left lines → StepFollows p n ss left s x rest more → Began p n seen (ss ++ s ∷ []) (at + length x) rest (lines ++ more)

-- bytes follow, which begin with no step; where the journal goes on past what is looked at, also none
abbrev pub NoStepFollows : ProfileView → Bool → List ℕ → WireFault → Type 0
NoStepFollows p more left fault = StepRefused p left fault × ((0 < length left) ⊎ IsTrue more)

-- ---- replays

-- The steps that are made, the output and the ending of a replay with n clients: bytes follow that are no step; a step follows that is one too many,
-- or isn't possible; or no byte follows, and the closing lines stand.
pub data Replays (p : ProfileView) (n : ℕ) (seen : List ℕ) (more : Bool) (ss : List Step) (output : List ℕ) (ending : Ending) : Type 0 where
  no_step_follows : (at : ℕ) (left : List ℕ) (fault : WireFault) → Began p n seen ss at left output → NoStepFollows p more left fault → ending ≡ of_refusal more at fault → Replays p n seen more ss output ending
  one_too_many : (at : ℕ) (left : List ℕ) (s : Step) (x rest : List ℕ) → Began p n seen ss at left output → BeginsStep p left s x rest → MAX_STEPS ≤ length ss → ending ≡ too_long at → Replays p n seen more ss output ending
  not_possible : (at : ℕ) (left : List ℕ) (s : Step) (x rest : List ℕ) (cause : StepFault) → Began p n seen ss at left output → BeginsStep p left s x rest → length ss < MAX_STEPS
      → refusal packet_size (run n ss) s ≡ Some cause → ending ≡ not_made at cause → Replays p n seen more ss output ending
  at_its_end : (at : ℕ) (lines : List ℕ) → Began p n seen ss at [] lines → more ≡ false → output ≡ lines ++ closing_lines (n_run n ss) → ending ≡ whole (length ss) → Replays p n seen more ss output ending

abbrev pub Replayed : ProfileView → ℕ → List ℕ → List Step → List ℕ → Ending → Type 0
Replayed p n journal ss output ending = Replays p n (seen_of journal) (goes_on journal) ss output ending

-- what a replay writes next after some steps: nothing, a step's lines, or the closing lines
pub data Next (p : ProfileView) (n : ℕ) (more : Bool) (ss : List Step) (left : List ℕ) : List ℕ → Type 0 where
  nothing : Next p n more ss left []
  a_step : (s : Step) (x rest lines : List ℕ) → StepFollows p n ss left s x rest lines → Next p n more ss left lines
  the_end : left ≡ [] → more ≡ false → Next p n more ss left (closing_lines (n_run n ss))

-- the lines of some steps stand, and a prefix of what comes next
pub record Stopped (p : ProfileView) (n : ℕ) (seen : List ℕ) (more : Bool) (output : List ℕ) : Type 0 where
  pub steps : List Step
  pub at : ℕ
  pub left : List ℕ
  pub lines : List ℕ
  pub next : List ℕ
  pub prefix : List ℕ
  pub rest : List ℕ
  pub began : Began p n seen steps at left lines
  pub comes : Next p n more steps left next
  pub split : prefix ++ rest ≡ next
  pub written : output ≡ lines ++ prefix

-- ---- what is answered

-- the world isn't spoiled, and stands for the run of these steps
pub record StandsAfter (p : ProfileView) (n : ℕ) (s : Shown) (ss : List Step) : Type 0 where
  pub profile : s.profile ≡ p
  pub clients : length s.clients ≡ n
  pub fine : s.spoiled ≡ None
  pub stands : StandsFor s (run n ss)

-- which it does but after a step for which the pool is too small
abbrev pub StandsThen : Ending → ProfileView → ℕ → Shown → List Step → Type 0
StandsThen (not_made at (PoolFull bytes)) p n s ss = Unit {0}
StandsThen ending p n s ss = StandsAfter p n s ss

-- a replay came to its ending, and that is answered
pub record Settles (p : ProfileView) (n : ℕ) (seen : List ℕ) (more : Bool) (s : Shown) (output : List ℕ) (result : Result ℕ ReplayFault) : Type 0 where
  pub steps : List Step
  pub ending : Ending
  pub replays : Replays p n seen more steps output ending
  pub answered : result ≡ answer_of ending
  pub stands : StandsThen ending p n s steps

-- what is answered, when this is written and the world is as it is
abbrev pub Ends : ProfileView → ℕ → List ℕ → Bool → Shown → List ℕ → Result ℕ ReplayFault → Type 0
Ends p n seen more s output (Ok k) = Settles p n seen more s output (Ok k)
Ends p n seen more s output (Err (Wire at fault)) = Settles p n seen more s output (Err (Wire at fault))
Ends p n seen more s output (Err (NotMade at fault)) = Settles p n seen more s output (Err (NotMade at fault))
Ends p n seen more s output (Err (TooLong at)) = Settles p n seen more s output (Err (TooLong at))
Ends p n seen more s output (Err ReadFault) = (output ≡ []) × StandsAfter p n s []
Ends p n seen more s output (Err WriteFault) = Stopped p n seen more output
Ends p n seen more s output (Err Memory) = Stopped p n seen more output

-- likewise, where what was written is told
abbrev pub EndsOn : ProfileView → ℕ → List ℕ → Bool → Shown → Option (List ℕ) → Option (List ℕ) → Result ℕ ReplayFault → Type 0
EndsOn p n seen more s old new result = (output : List ℕ) × Appends old new output × Ends p n seen more s output result

abbrev pub ReplaysOn : ProfileView → ℕ → List ℕ → Shown → Option (List ℕ) → Option (List ℕ) → Result ℕ ReplayFault → Type 0
ReplaysOn p n journal s old new result = EndsOn p n (seen_of journal) (goes_on journal) s old new result

-- Where the bytes written are told, the sink is sound, and there is room for all that a replay writes, no write fails.
abbrev pub NeverFull : ProfileView → ℕ → List ℕ → Bool → Option (List ℕ) → Bool → ℕ → Type 0 → Type 0
NeverFull p n seen more written sound room failed =
    IfSome written (λ before. IsTrue sound → (ss : List Step) (output : List ℕ) (ending : Ending) → Replays p n seen more ss output ending → length before + length output ≤ room → failed → ⊥)

-- a new world, of whatever profile and as many clients as it has
abbrev pub IsNew : Shown → Type 0
IsNew s = s ≡ record { profile = s.profile; server = new_server; clients = new_clients (length s.clients); pool = []; spoiled = None }
