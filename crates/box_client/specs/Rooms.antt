-- Room for updates in each part of a client. This project's own.
use Rattle.std.specs.Prelude.{◌≤◌, List, length}
use Rattle.box_events.specs.declared.updates.Update.{Update}
use Rattle.channel_box.specs.Calls.{HasRoomFor}
use Rattle.box_client.specs.declared.parts.ClientParts.{ClientParts}

-- in both lanes and the settings for each update, in each channel for its own
pub record HasRoom (p : ClientParts) (us : List Update) : Type 0 where
  pub common : length us ≤ p.common.spare
  pub secret : length us ≤ p.secret.spare
  pub settings : length us ≤ p.settings.spare
  pub channels : HasRoomFor p.channels us
