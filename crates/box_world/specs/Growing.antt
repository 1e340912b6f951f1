-- A server that goes on: its boxes and its settings have more after what they had, and its date doesn't fall. This project's own.
use Rattle.std.specs.Prelude.{◌≡◌, ◌≤◌, ℕ, ℤ, List, ◌++◌, true}
use Rattle.std.specs.List.{All}
use Rattle.box_events.specs.Events.{EventView, is_new}
use Rattle.box_events.specs.Boxes.{ending, AreCounted}
use Rattle.box_events.specs.SettingLists.{Dated, NeverFallFrom}
use Rattle.box_server.specs.Servers.{ChannelBox, ServerState, channel_in}
use Rattle.box_world.specs.WholeBoxes.{kept_of}
use Rattle.box_world.specs.Agreeing.{Boxes, Each}

-- the box has more events after those that it had
abbrev pub HasMore : List EventView → List EventView → Type 0
HasMore prefix box = (more : List EventView) × (box ≡ prefix ++ more)

-- settings were appended, none of them dated before a date
abbrev pub HasLater : ℕ → List Dated → List Dated → Type 0
HasLater date prefix L = (more : List Dated) × (L ≡ prefix ++ more) × All (λ e. date ≤ e.date) more

-- from a server and whole boxes to others
pub record Continues (s t : ServerState) (before after : Boxes) : Type 0 where
  pub common : HasMore s.common t.common
  pub secret : HasMore s.secret t.secret
  pub channels : (id : ℤ) → HasMore (before id) (after id)
  pub settings : HasLater s.date s.settings t.settings
  pub date : s.date ≤ t.date

-- of the whole box of a channel the server keeps the last 500 events
pub record IsKept (whole : List EventView) (c : ChannelBox) : Type 0 where
  pub gone : List EventView
  pub parts : whole ≡ gone ++ c.events
  pub first : c.first ≡ ending gone
  pub kept : c.events ≡ kept_of whole

-- What is needed of a server for what its clients have of it: events count, the secret box has messages alone, of each channel's whole box the
-- last events are kept, no setting is dated after the server, and their dates never fall.
pub record IsLedger (s : ServerState) (boxes : Boxes) : Type 0 where
  pub common : AreCounted s.common
  pub secret : AreCounted s.secret
  pub messages : Each (λ e. is_new e ≡ true) s.secret
  pub channels : (id : ℤ) → AreCounted (boxes id)
  pub kept : (id : ℤ) → IsKept (boxes id) (channel_in s.channels id)
  pub dates : All (λ e. e.date ≤ s.date) s.settings
  pub rise : NeverFallFrom 0 s.settings
