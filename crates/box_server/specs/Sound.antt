-- What holds of every server. This project's own.
use Rattle.std.specs.Prelude.{◌≡◌, ◌<◌, ◌≤◌, ◌^◌, List, [], ◌∷◌, length, true, false}
use Rattle.std.specs.List.{All, list_any}
use Rattle.std.specs.Ordering.{int_eq}
use Rattle.box_events.specs.declared.limits.TheConstants.{MAX_END, MAX_CHANNELS, MAX_KEYS, KEPT_EVENTS, MAX_KEY_BYTES, MAX_VALUE_BYTES}
use Rattle.box_events.specs.Events.{EventView, is_new}
use Rattle.box_events.specs.Views.{HasCount}
use Rattle.box_events.specs.Boxes.{ending, AreCounted}
use Rattle.box_events.specs.SettingLists.{Dated, NeverFallFrom}
use Rattle.box_server.specs.Servers.{ChannelBox, ServerState, channel_end}
use Rattle.box_server.specs.LastEntries.{keys_in}

-- each event counts for one number at least, and the box ends at 1,000,000 at most
abbrev pub IsSoundBox : List EventView → Type 0
IsSoundBox es = AreCounted es × (ending es ≤ MAX_END)

-- of a channel's box the last 500 events are kept at most
pub record IsSoundChannel (c : ChannelBox) : Type 0 where
  pub counted : AreCounted c.events
  pub limit : channel_end c ≤ MAX_END
  pub few : length c.events ≤ KEPT_EVENTS

-- no id stands twice
abbrev pub AreDistinct : List ChannelBox → Type 0
AreDistinct [] = Unit {0}
AreDistinct (c ∷ cs) = (list_any (λ d. int_eq d.id c.id) cs ≡ false) × AreDistinct cs

-- each event of each box counts for 4,096 numbers at most
pub record HasEvents (s : ServerState) : Type 0 where
  pub common : All HasCount s.common
  pub secret : All HasCount s.secret
  pub channels : All (λ c. All HasCount c.events) s.channels

-- a setting's key has 64 bytes at most, its value 1,024
abbrev pub IsSmall : Dated → Type 0
IsSmall e = (length e.setting.key ≤ MAX_KEY_BYTES) × (length e.setting.value ≤ MAX_VALUE_BYTES)

-- the secret box has messages alone; no setting is dated after the server, nor before one that was set earlier
pub record IsSound (s : ServerState) : Type 0 where
  pub date : s.date < 2 ^ 31
  pub common : IsSoundBox s.common
  pub secret : IsSoundBox s.secret
  pub messages : All (λ e. is_new e ≡ true) s.secret
  pub channels : All IsSoundChannel s.channels
  pub distinct : AreDistinct s.channels
  pub few : length s.channels ≤ MAX_CHANNELS
  pub seq : length s.settings ≤ MAX_END
  pub keys : keys_in s.settings ≤ MAX_KEYS
  pub dates : All (λ e. e.date ≤ s.date) s.settings
  pub rise : NeverFallFrom 0 s.settings
  pub events : HasEvents s
  pub sizes : All IsSmall s.settings
