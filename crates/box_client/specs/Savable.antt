-- Clients that can be saved and loaded again, as every client of the type is. This project's own.
use Rattle.std.specs.Prelude.{◌≡◌, ◌+◌, ◌≤◌, length, true}
use Rattle.std.specs.List.{All, sum_by}
use Rattle.box_events.specs.declared.limits.TheConstants.{MAX_CHANNELS}
use Rattle.box_events.specs.Events.{EventView, count_of}
use Rattle.pts_machine.specs.States.{LaneState}
use Rattle.channel_box.specs.States.{ids_of, AreDistinct}
use Rattle.box_client.specs.Messages.{are_messages}
use Rattle.box_client.specs.States.{ClientState}

-- a lane stands where its events end
abbrev pub EndsAtEvents : LaneState EventView → Type 0
EndsAtEvents t = t.at ≡ t.restart + sum_by count_of t.events

-- requests are numbered from 1, the secret lane has messages alone, and no channel is watched twice
pub record IsSavable (c : ClientState) : Type 0 where
  pub next : 1 ≤ c.next
  pub common : EndsAtEvents c.common
  pub secret : EndsAtEvents c.secret
  pub messages : are_messages c.secret.events ≡ true
  pub lanes : All (λ d. EndsAtEvents d.lane) c.channels
  pub distinct : AreDistinct (ids_of c.channels)
  pub few : length c.channels ≤ MAX_CHANNELS
