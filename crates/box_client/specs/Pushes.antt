-- What a push does to a client.
-- From "Working with Updates" (core.telegram.org/api/updates): each update has its place in its box, updatesTooLong and updateChannelTooLong
-- say that more is new, and a container's seq numbers the settings that it carries.
use Rattle.std.specs.Prelude.{ℕ, ◌-◌, List, [], ◌∷◌, Bool, true, false, ◌||◌, ltb}
use Rattle.box_events.specs.Events.{EventView, added, count_of}
use Rattle.box_events.specs.declared.settings.Setting.{Setting}
use Rattle.box_events.specs.declared.updates.Update.{Update}
use Rattle.box_events.specs.declared.updates.Update.TheVariants.{Common, Secret, Channel, ChannelTooLong, Setting as SettingUpdate}
use Rattle.box_events.specs.declared.updates.Push.{Push}
use Rattle.box_events.specs.declared.updates.Push.TheVariants.{TooLong, Container}
use Rattle.pts_machine.specs.Steps.{Heard, hear}
use Rattle.pts_machine.specs.Packs.{pack_of}
use Rattle.pts_machine.specs.SeqStates.{HeardPack, hear_pack}
use Rattle.channel_box.specs.Steps.{is_dropped, heard, told_too_long}
use Rattle.box_client.specs.States.{ClientState}

-- an item that found no room sets the flag
abbrev pub common_heard : ClientState → Heard EventView → ClientState
common_heard c h = record c { common = h.state; flag = c.flag || is_dropped h.seen }

abbrev pub secret_heard : ClientState → Heard EventView → ClientState
secret_heard c h = record c { secret = h.state; flag = c.flag || is_dropped h.seen }

abbrev pub settings_heard : ClientState → HeardPack → ClientState
settings_heard c h = record c { settings = h.state; flag = c.flag || is_dropped h.seen }

-- an update that ends at pts, or at qts, is an item of its lane; settings come together, after the other updates
abbrev pub updated : ClientState → Update → ClientState
updated c (Common event pts) = common_heard c (hear c.common (pts - count_of event) pts event)
updated c (Secret body qts) = secret_heard c (hear c.secret (qts - 1) qts (added body))
updated c (Channel id event pts) = record c { channels = heard c.channels id (pts - count_of event) pts event }
updated c (ChannelTooLong id) = record c { channels = told_too_long c.channels id }
updated c (SettingUpdate setting) = c

abbrev pub all_updated : ClientState → List Update → ClientState
all_updated c [] = c
all_updated c (u ∷ us) = all_updated (updated c u) us

-- the settings among the updates, in order
abbrev pub settings_in : List Update → List Setting
settings_in [] = []
settings_in (Common event pts ∷ us) = settings_in us
settings_in (Secret body qts ∷ us) = settings_in us
settings_in (Channel id event pts ∷ us) = settings_in us
settings_in (ChannelTooLong id ∷ us) = settings_in us
settings_in (SettingUpdate setting ∷ us) = setting ∷ settings_in us

-- a container with a seq has a pack of settings, from its first seq to its last
abbrev pub pack_heard : Bool → ClientState → ℕ → ℕ → ℕ → List Setting → ClientState
pack_heard true c seq_start seq date settings = settings_heard c (hear_pack c.settings (seq_start - 1) seq (pack_of date settings))
pack_heard false c seq_start seq date settings = c

-- a client after a push
abbrev pub pushed : ClientState → Push → ClientState
pushed c TooLong = record c { flag = true }
pushed c (Container updates date seq_start seq) = pack_heard (ltb 0 seq) (all_updated c updates) seq_start seq date (settings_in updates)
