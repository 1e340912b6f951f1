-- The report of a replay. This project's own.
use Rattle.std.specs.Prelude.{◌≡◌, ◌≤◌, ℕ, List, [], ◌∷◌, ◌++◌, length, Some, slice_get}
use Rattle.box_events.specs.declared.steps.Step.{Step}
use Rattle.wire_profile.specs.Indexes.{ProfileView}
use Rattle.wire_values.specs.Steps.{step_tree}
use Rattle.box_wire.specs.Framing.{Means}
use Rattle.box_wire.specs.Kinds.{steps as step_kind}
use Rattle.box_client.specs.States.{ClientState}
use Rattle.box_server.specs.Servers.{state_of}
use Rattle.box_world.specs.NumberWorlds.{n_run}
use Rattle.box_world.specs.Possible.{AllPossible}
use Rattle.box_world.specs.Reached.{boxes_of}
use Rattle.box_world.specs.Worlds.{run, start}
use Rattle.report_lines.specs.Closing.{server_line}
use Rattle.update_replay.specs.StepLines.{StepLines}
use Rattle.update_replay.specs.Told.{all_own_lines}
use Rattle.update_world.specs.Spelled.{IsSpelled, packet_size}
use Rattle.update_replay.specs.declared.limits.TheConstants.{MAX_JOURNAL_BYTES, MAX_STEPS}
use Rattle.headline.specs.Boxes.{FinishedChannelsReach, FinishedReach, HasBoxes}
use Rattle.headline.specs.Forward.{IsWhole}

-- The bytes are these steps' one after another, and nothing else.
abbrev pub AreBytesOf : ProfileView → List Step → List ℕ → Type 0
AreBytesOf p [] bytes = bytes ≡ []
AreBytesOf p (s ∷ ss) bytes = (x rest : List ℕ) × (bytes ≡ x ++ rest) × Means p step_kind (step_tree s) x × AreBytesOf p ss rest

-- The lines of steps in order, after those before them: each by the numbers of the world in which it comes.
abbrev pub AreLinesOf : ProfileView → ℕ → List Step → List Step → List ℕ → Type 0
AreLinesOf p n before [] lines = lines ≡ []
AreLinesOf p n before (s ∷ ss) lines = (first rest : List ℕ) × (lines ≡ first ++ rest) × StepLines (IsSpelled p) (length before) (n_run n before) s first × AreLinesOf p n (before ++ s ∷ []) ss rest

-- The text is the report of exactly the journal's steps, with n clients: the journal is their bytes; each is possible when it comes; after their lines come
-- the server's and those of each client's own events, messages and settings, which are the server's: from its restarts to its positions, each once, and whole
-- in the common and the secret box; and each difference that was finished reached where the server was when it answered, then and at the end.
pub record Reports (p : ProfileView) (n : ℕ) (journal text : List ℕ) : Type 0 where
  pub steps : List Step
  pub lines : List ℕ
  pub bytes : AreBytesOf p steps journal
  pub limits : (length journal ≤ MAX_JOURNAL_BYTES) × (length steps ≤ MAX_STEPS)
  pub possible : AllPossible packet_size (start n) steps
  pub told : AreLinesOf p n [] steps lines
  pub is : text ≡ lines ++ (server_line (state_of (run n steps).server) ++ all_own_lines 0 (run n steps).clients)
  pub clients : length (run n steps).clients ≡ n
  pub boxes : (k : ℕ) (c : ClientState) → slice_get (run n steps).clients k ≡ Some c → HasBoxes (run n steps).server (boxes_of (run n steps)) c
  pub whole : (k : ℕ) (c : ClientState) → slice_get (run n steps).clients k ≡ Some c → IsWhole c
  pub finished : FinishedReach n steps
  pub channels_finished : FinishedChannelsReach n steps
