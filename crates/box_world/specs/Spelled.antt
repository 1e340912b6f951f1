-- Servers and clients of which each part has a spelling. This project's own.
use Rattle.std.specs.Prelude.{◌≡◌, ℕ, ℤ, ◌<◌, ◌^◌, length, Some}
use Rattle.std.specs.FinMap as map
use Rattle.std.specs.List.{All}
use Rattle.box_events.specs.declared.positions.Receipt.{Receipt}
use Rattle.box_events.specs.Events.{EventView}
use Rattle.box_server.specs.Servers.{ChannelBox, ServerState}
use Rattle.pts_machine.specs.States.{LaneState}
use Rattle.pts_machine.specs.Packs.{Pack}
use Rattle.pts_machine.specs.SeqStates.{SettingsState}
use Rattle.channel_box.specs.States.{ChannelState}
use Rattle.box_client.specs.States.{ClientState}
use Rattle.wire_forms.specs.IsOf.{IsLong, IsText}
use Rattle.wire_values.specs.CarriedFrames.{FitsEvent, FitsReceipt, FitsSetting, IsList, IsWord}

-- the id and the events of a channel's box
pub record FitsBox (c : ChannelBox) : Type 0 where
  pub id : IsLong c.id
  pub events : All FitsEvent c.events

-- each event, each setting and each receipt of a server, and each id of a channel
pub record FitsServer (s : ServerState) : Type 0 where
  pub common : All FitsEvent s.common
  pub secret : All FitsEvent s.secret
  pub channels : All FitsBox s.channels
  pub settings : All (λ e. FitsSetting e.setting) s.settings
  pub receipts : (random_id : ℤ) (r : Receipt) → map.get s.receipts random_id ≡ Some r → FitsReceipt r

-- each item that a lane has or holds
pub record HoldsAll {E : Type 0} (P : E → Type 0) (t : LaneState E) : Type 0 where
  pub events : All P t.events
  pub held : (start : ℕ) (x : ℕ × E) → map.get t.held start ≡ Some x → P x.1

-- a watched channel: its id, its events and its recent messages
pub record FitsChannel (c : ChannelState) : Type 0 where
  pub id : IsLong c.id
  pub lane : HoldsAll FitsEvent c.lane
  pub recent : IsList IsText c.recent

-- each key and each value, and each setting that is held
pub record FitsSettings (b : SettingsState) : Type 0 where
  pub table : All (λ e. IsText e.0 × IsText e.1) (map.entries b.table)
  pub held : (start : ℕ) (x : ℕ × Pack) → map.get b.held start ≡ Some x → All FitsSetting x.1.settings

-- all that a client has or holds
pub record FitsClient (c : ClientState) : Type 0 where
  pub common : HoldsAll FitsEvent c.common
  pub secret : HoldsAll FitsEvent c.secret
  pub settings : FitsSettings c.settings
  pub channels : All FitsChannel c.channels

-- a lane's numbers have 32 bits, and its events are fewer than 2^31
pub record IsNarrowLane (t : LaneState EventView) : Type 0 where
  pub restart : IsWord t.restart
  pub at : IsWord t.at
  pub events : length t.events < 2 ^ 31

-- a client's numbers have 32 bits, and its lists have fewer than 2^31 elements
pub record IsNarrow (c : ClientState) : Type 0 where
  pub next : IsWord c.next
  pub common : IsNarrowLane c.common
  pub secret : IsNarrowLane c.secret
  pub date : IsWord c.settings.date
  pub seq : IsWord c.settings.at
  pub settings : map.len c.settings.table < 2 ^ 31
  pub lanes : All (λ d. IsNarrowLane d.lane) c.channels
  pub channels : length c.channels < 2 ^ 31
