-- What the parts of `client` do. This project's own.
use Rattle.std.specs.Prelude.{◌≡◌, ◌⊎◌, ℕ, ℤ, List, Some, None, Result, Ok, Err}
use Rattle.box_client.specs.States.{ClientState}
use Rattle.wire_profile.specs.Indexes.{ProfileView}
use Rattle.outside.specs.Loading.{Refuses}
use Rattle.outside.specs.declared.stop.LoadError.{LoadError}
use Rattle.session_commands.specs.Client.{HasClient, TellsNoClient, watch_all, many_channels_line}

-- the line says why a state's bytes have no client that watches these channels too
abbrev pub TellsNone : ProfileView → List ℤ → List ℕ → List ℕ → Type 0
TellsNone p channels bytes line = TellsNoClient p bytes line ⊎ ((c : ClientState) × HasClient p bytes c × (watch_all channels c ≡ None) × (line ≡ many_channels_line))

-- the client of a state's bytes, which watches these channels too
abbrev pub MakesClient : ProfileView → List ℤ → List ℕ → Result ClientState LoadError → Type 0
MakesClient p channels bytes (Ok d) = (c : ClientState) × HasClient p bytes c × (watch_all channels c ≡ Some d)
MakesClient p channels bytes (Err fault) = Refuses (TellsNone p channels bytes) fault
