-- The lines of a step and of the end, by what is shown of the world then. This project's own.
use Rattle.std.specs.Prelude.{ℕ, ◌<◌, List, [], ◌++◌, length, drop, map, Bool, true, false, Option, Some, None, slice_get}
use Rattle.box_server.specs.Servers.{state_of}
use Rattle.box_client.specs.States.{ClientState}
use Rattle.box_client.specs.Numbers.{client_numbers}
use Rattle.report_lines.specs.Closing.{server_line}
use Rattle.report_lines.specs.Texts.{step_line, posted_text, again_text, refused_text, date_text, served_text, heard_text, ticked_text, woken_text, watched_text, restarted_text, too_long_text, channel_too_long_text}
use Rattle.report_lines.specs.declared.heard.HeardAs.{HeardAs}
use Rattle.update_replay.specs.StepLines.{packet_lines}
use Rattle.update_replay.specs.Told.{all_own_lines}
use Rattle.update_world.specs.declared.outcome.Outcome.{Outcome}
use Rattle.update_world.specs.declared.outcome.Outcome.TheVariants.{Posted, Again, PostRefused, Date, Served, Heard, Ticked, Woken, Watched, Restarted, Pushed}
use Rattle.update_world.specs.declared.sent.SentPacket.{SentPacket}
use Rattle.update_world.specs.Shown.{Shown}

-- ---- a step

abbrev pub heard_of : ℕ → HeardAs → Option ClientState → List ℕ
heard_of k told None = []
heard_of k told (Some c) = heard_text k told (client_numbers c)

abbrev pub restarted_of : ℕ → Option ClientState → List ℕ
restarted_of k None = []
restarted_of k (Some c) = restarted_text k (client_numbers c)

abbrev pub pushed_text : ℕ → Bool → List ℕ
pushed_text m false = too_long_text m
pushed_text m true = channel_too_long_text m

-- what came of it
abbrev pub outcome_text : Shown → Outcome → List ℕ
outcome_text s (Posted state m) = posted_text state m
outcome_text s Again = again_text
outcome_text s (PostRefused fault) = refused_text fault
outcome_text s (Date date) = date_text date
outcome_text s (Served m) = served_text m
outcome_text s (Heard k told) = heard_of k told (slice_get s.clients k)
outcome_text s (Ticked k asks first) = ticked_text k asks
outcome_text s (Woken k) = woken_text k
outcome_text s (Watched k id refused) = watched_text k id refused
outcome_text s (Restarted k) = restarted_of k (slice_get s.clients k)
outcome_text s (Pushed m channel) = pushed_text m channel

-- the packets from this number on were sent by it
abbrev pub first_new : Shown → Outcome → ℕ
first_new s (Posted state m) = m
first_new s Again = length s.pool
first_new s (PostRefused fault) = length s.pool
first_new s (Date date) = length s.pool
first_new s (Served m) = m
first_new s (Heard k told) = length s.pool
first_new s (Ticked k asks first) = first
first_new s (Woken k) = length s.pool
first_new s (Watched k id refused) = length s.pool
first_new s (Restarted k) = length s.pool
first_new s (Pushed m channel) = m

abbrev pub bytes_from : ℕ → List SentPacket → List (List ℕ)
bytes_from first pool = map (λ s. s.bytes) (drop first pool)

-- the lines of step number k, after which the world is as it is shown: its own, and one for each packet that it sent
abbrev pub outcome_lines : Shown → ℕ → Outcome → List ℕ
outcome_lines s k o = step_line k (outcome_text s o) ++ packet_lines (first_new s o) (bytes_from (first_new s o) s.pool)

-- the client of whom it tells is there
abbrev pub Stands : Shown → Outcome → Type 0
Stands s (Heard k told) = k < length s.clients
Stands s (Restarted k) = k < length s.clients
Stands s o = Unit {0}

-- ---- the end

-- where the server is, and what each client has
abbrev pub end_lines : Shown → List ℕ
end_lines s = server_line (state_of s.server) ++ all_own_lines 0 s.clients
