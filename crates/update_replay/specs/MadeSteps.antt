-- The steps of a made run, one by one. This project's own.
use Rattle.std.specs.Prelude.{◌≡◌, ℕ, ◌≤◌, ◌++◌, List, length, map, None, Some, Result, Ok, Err}
use Rattle.box_client.specs.Numbers.{client_numbers}
use Rattle.box_events.specs.declared.steps.Step.{Step}
use Rattle.box_server.specs.Servers.{state_of}
use Rattle.box_world.specs.declared.fault.StepFault.TheVariants.{PoolFull}
use Rattle.box_world.specs.Possible.{refusal}
use Rattle.box_world.specs.Worlds.{World, happens, run}
use Rattle.box_world.specs.Sizes.{step_size}
use Rattle.report_lines.specs.Closing.{server_line}
use Rattle.report_lines.specs.Texts.{made_line}
use Rattle.update_replay.specs.Made.{Chosen, made_steps}
use Rattle.update_replay.specs.Summaries.{standing_lines}
use Rattle.wire_profile.specs.Profiles.{IsProfile}
use Rattle.update_world.specs.Shown.{Shown, StandsFor, bytes_of}
use Rattle.update_world.specs.Spelled.{packet_size}
use Rattle.update_replay.specs.MadeRuns.{made_refusal}
use Rattle.update_replay.specs.declared.made_fault.MadeFault.{MadeFault}
use Rattle.update_replay.specs.declared.made_fault.MadeFault.TheVariants.{PoolFull, Memory}

-- a chosen step happens: what its spelling adds to the journal, what the world stands for then, and the generator's number
pub record Goes (w : World) (chosen : Chosen Step) (n : ℕ) (new : Shown) (x : ℕ) : Type 0 where
  pub possible : refusal packet_size w chosen.it ≡ None
  pub size : n ≡ step_size chosen.it
  pub few : n ≤ 48
  pub stands : StandsFor new (happens w chosen.it)
  pub fine : new.spoiled ≡ None
  pub number : x ≡ chosen.x

-- in a world and at an offset of the journal: it happens, or there is no place for what it sends
abbrev pub GoesOn : World → ℕ → Chosen Step → Result ℕ MadeFault → Shown → ℕ → Type 0
GoesOn w at chosen (Ok size) new x = Goes w chosen size new x
GoesOn w at chosen (Err (PoolFull place bytes)) new x = (place ≡ at) × (refusal packet_size w chosen.it ≡ Some (PoolFull bytes))
GoesOn w at chosen (Err Memory) new x = Unit {0}

-- all of them happen, so that the schema, if it was asked, is a profile's; or one isn't possible
abbrev pub GoesThrough : ℕ → ℕ → Result (Unit {0}) MadeFault → Shown → Type 0
GoesThrough number count (Ok done) new = (made_refusal number count ≡ None) × StandsFor new (run 2 (made_steps number count)) × (new.spoiled ≡ None) × (1 ≤ count → IsProfile new.profile)
GoesThrough number count (Err (PoolFull at bytes)) new = made_refusal number count ≡ Some (record { at = at; cause = PoolFull bytes })
GoesThrough number count (Err Memory) new = Unit {0}

-- the summary of what is shown of a world
abbrev pub shown_summary : ℕ → Shown → List ℕ
shown_summary count s = made_line count (length s.pool) (bytes_of s.pool) ++ server_line (state_of s.server) ++ standing_lines 0 (map client_numbers s.clients)
