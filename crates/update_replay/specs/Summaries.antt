-- The summary of a made run: how much was made, where the server is, and where each client is. This project's own.
use Rattle.std.specs.Prelude.{ℕ, ◌+◌, List, [], ◌∷◌, ◌++◌, length}
use Rattle.box_server.specs.Servers.{state_of}
use Rattle.box_client.specs.Numbers.{ClientNumbers}
use Rattle.box_world.specs.Worlds.{Packet}
use Rattle.box_world.specs.Possible.{bytes_in}
use Rattle.box_world.specs.NumberWorlds.{NumberWorld}
use Rattle.report_lines.specs.Texts.{made_line, standing_line}
use Rattle.report_lines.specs.Closing.{server_line}

-- clients from number k on
abbrev pub standing_lines : ℕ → List ClientNumbers → List ℕ
standing_lines k [] = []
standing_lines k (c ∷ cs) = standing_line k c ++ standing_lines (k + 1) cs

-- after so many steps; each packet has so many bytes
abbrev pub summary : (Packet → ℕ) → ℕ → NumberWorld → List ℕ
summary size steps w = made_line steps (length w.pool) (bytes_in size w.pool) ++ server_line (state_of w.server) ++ standing_lines 0 w.clients
