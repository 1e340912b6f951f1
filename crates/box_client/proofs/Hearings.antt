-- Updates of a push, one by one.
use Rattle.std.proofs.Common.{◌≡◌, ◌≤◌, ◌+◌, ◌++◌, List, length, Vec, Global, vec_len, vec_capacity}
use Rattle.box_events.specs.declared.settings.Setting.{Setting}
use Rattle.box_events.specs.declared.updates.Update.{Update}
use Rattle.box_client.specs.declared.parts.ClientParts.{ClientParts}
use Rattle.box_client.specs.Pushes.{all_updated, settings_in}
use Rattle.box_client.specs.Ranges.{AreUpdatesInRange}
use Rattle.box_client.specs.Rooms.{HasRoom}
use Rattle.box_client.specs.Views.{client_of}

-- some updates were heard, and the others are to come
pub record Hearing (old : ClientParts) (all : List Update) (before : Vec Setting Global) (rest : List Update) (now : ClientParts) (pack : Vec Setting Global) : Type 0 where
  pub client : all_updated (client_of now) rest ≡ all_updated (client_of old) all
  pub settings : now.settings ≡ old.settings
  pub range : AreUpdatesInRange rest
  pub room : HasRoom now rest
  pub taken : pack.items ++ settings_in rest ≡ before.items ++ settings_in all
  pub slots : vec_len pack + length rest ≤ vec_capacity pack
