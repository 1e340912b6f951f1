-- Laws of reports. This project's own.
use Rattle.std.specs.Prelude.{◌≡◌, ◌<◌, ◌≤◌, ◌+◌, ◌^◌, ℕ, List, map, [], ◌∷◌, ◌++◌, length, Some, slice_get}
use Rattle.box_events.specs.declared.steps.Step.{Step}
use Rattle.box_events.specs.declared.steps.Step.TheVariants.{Date}
use Rattle.box_server.specs.Servers.{state_of}
use Rattle.box_client.specs.Numbers.{client_numbers}
use Rattle.box_client.specs.States.{ClientState}
use Rattle.box_world.specs.NumberWorlds.{NumberWorld, numbers_of, n_happens, n_run}
use Rattle.box_world.specs.declared.fault.StepFault.{StepFault}
use Rattle.box_world.specs.declared.fault.StepFault.TheVariants.{NoClient, NoPacket, PoolFull, WrongEnd}
use Rattle.box_world.specs.Possible.{bytes_in, refusal}
use Rattle.box_world.specs.Reached.{boxes_of}
use Rattle.box_world.specs.Worlds.{Packet, World, run}
use Rattle.report_lines.specs.Closing.{server_line}
use Rattle.report_lines.specs.Texts.{made_line}
use Rattle.update_replay.specs.Closings.{closing_lines}
use Rattle.update_replay.specs.Draws.{drawn, draw_of}
use Rattle.update_replay.specs.Made.{made_step, made_steps}
use Rattle.update_replay.specs.StepLines.{new_packets}
use Rattle.update_replay.specs.Summaries.{standing_lines, summary}
use Rattle.update_replay.specs.Told.{IsTold, all_own_lines}

-- ---- lines of steps

-- a step adds the packets that its lines tell to those that were sent before, and no others
abbrev pub NewPacketsAreAdded : Type 0
NewPacketsAreAdded = (w : NumberWorld) (s : Step) → (n_happens w s).pool ≡ w.pool ++ new_packets w s

-- in a run with one more step the world after it has the numbers that follow from those before it, of which its lines tell
abbrev pub StepsAreOfRuns : Type 0
StepsAreOfRuns = (n : ℕ) (steps : List Step) (s : Step) → n_happens (numbers_of (run n steps)) s ≡ numbers_of (run n (steps ++ s ∷ []))

-- ---- closing lines

-- after every list of steps each client is told by its numbers and the server
abbrev pub ClientsAreTold : Type 0
ClientsAreTold = (n : ℕ) (steps : List Step) (k : ℕ) (c : ClientState) → slice_get (run n steps).clients k ≡ Some c → IsTold (run n steps).server (boxes_of (run n steps)) c

-- so the closing lines, which are of numbers and of the server, are the lines of what the clients themselves have
abbrev pub ClosingsAreOwn : Type 0
ClosingsAreOwn = (n : ℕ) (steps : List Step) → closing_lines (n_run n steps) ≡ server_line (state_of (run n steps).server) ++ all_own_lines 0 (run n steps).clients

-- ---- made steps

-- what is drawn has 31 bits, of a number of 64
abbrev pub DrawsAreSmall : Type 0
DrawsAreSmall = (x : ℕ) → (drawn x < 2 ^ 64) × (draw_of x < 2 ^ 31)

-- the first draw of the number 1, and the step that it chooses
abbrev pub FirstDraw : Type 0
FirstDraw = (drawn 1 ≡ 7806831264735756412) × (draw_of 1 ≡ 908834774) × (made_steps 1 1 ≡ Date 1 ∷ [])

abbrev pub IsPoolFull : StepFault → Type 0
IsPoolFull (NoClient n) = ⊥
IsPoolFull (NoPacket n) = ⊥
IsPoolFull (WrongEnd n) = ⊥
IsPoolFull (PoolFull bytes) = Unit {0}

-- in a world with two clients a step that is made is refused for the pool's bytes alone
abbrev pub MadeStepsAreRefusedByBytes : Type 0
MadeStepsAreRefusedByBytes = (size : Packet → ℕ) (w : World) (n x : ℕ) (cause : StepFault) → length w.clients ≡ 2 → refusal size w (made_step (numbers_of w) n x).it ≡ Some cause → IsPoolFull cause

-- the server's clock is set one second on
abbrev pub IsNextDate : ℕ → Step → Type 0
IsNextDate date (Date next) = next ≡ date + 1
IsNextDate date s = Unit {0}

abbrev pub MadeDatesAreNext : Type 0
MadeDatesAreNext = (w : NumberWorld) (n x : ℕ) → IsNextDate w.server.date (made_step w n x).it

-- so a made run ends at a date that isn't above the number of its steps
abbrev pub MadeDatesStayBelow : Type 0
MadeDatesStayBelow = (number count : ℕ) → (n_run 2 (made_steps number count)).server.date ≤ count

-- the summary is of the run of the made steps: of the server, the packets and the clients themselves
abbrev pub SummariesAreOfRuns : Type 0
SummariesAreOfRuns = (size : Packet → ℕ) (n count : ℕ) (steps : List Step)
    → summary size count (n_run n steps)
    ≡ made_line count (length (run n steps).pool) (bytes_in size (run n steps).pool) ++ server_line (state_of (run n steps).server) ++ standing_lines 0 (map client_numbers (run n steps).clients)
