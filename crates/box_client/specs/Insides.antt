-- What holds of every client. This project's own.
use Rattle.std.specs.Prelude.{◌≤◌}
use Rattle.box_client.specs.declared.client.Client.TheInside.{Inside}
use Rattle.box_client.specs.States.{ClientState, HasOneMode}
use Rattle.box_client.specs.Messages.{HasMessages}
use Rattle.box_client.specs.Views.{client_of}

abbrev pub view_of : Inside → ClientState
view_of a = client_of a.parts

-- the three of the common group have one mode, the secret lane has messages alone, and requests are numbered from 1
pub record IsSteady (c : ClientState) : Type 0 where
  pub mode : HasOneMode c
  pub secret : HasMessages c.secret
  pub next : 1 ≤ c.next

abbrev pub IsWhole : Inside → Type 0
IsWhole a = IsSteady (client_of a.parts)
