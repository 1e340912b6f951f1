-- A client, apart from the code.
-- From "Working with Updates" (core.telegram.org/api/updates): a client has the events of the common box up to pts, those of the secret box up
-- to qts, what is numbered by seq, and a box for each channel. Flags, modes and request numbers are this project's own.
use Rattle.std.specs.Prelude.{◌≡◌, ℕ, List, [], Bool, false, refl}
use Rattle.std.specs.Coded.{Coded, code_by, coded×, coded_ℕ, coded_bool, coded_list}
use Rattle.box_events.specs.Events.{EventView}
use Rattle.box_events.specs.inner.EventCodes.{event_code}
use Rattle.pts_machine.specs.States.{LaneState, state_code}
use Rattle.pts_machine.specs.Steps.{new_lane}
use Rattle.pts_machine.specs.SeqStates.{SettingsState, new_settings}
use Rattle.pts_machine.specs.SeqStates as settings_states
use Rattle.channel_box.specs.States.{ChannelState, channel_code}

-- the number of the next request; the common group: two lanes, the settings, and whether to ask about them though nothing is held; and the
-- channels in order of watching
pub record ClientState : Type 0 where
  pub next : ℕ
  pub common : LaneState EventView
  pub secret : LaneState EventView
  pub settings : SettingsState
  pub flag : Bool
  pub channels : List ChannelState

-- a client that has heard of nothing
abbrev pub new_client : ClientState
new_client = record { next = 1; common = new_lane; secret = new_lane; settings = new_settings; flag = false; channels = [] }

-- the common lane, the secret lane and the settings have one mode
abbrev pub HasOneMode : ClientState → Type 0
HasOneMode c = (c.secret.mode ≡ c.common.mode) × (c.settings.mode ≡ c.common.mode)

-- a client as a row of its parts
abbrev pub client_code : Coded ClientState
client_code = code_by (ℕ × (LaneState EventView × (LaneState EventView × (SettingsState × (Bool × List ChannelState)))))
    (coded× coded_ℕ (coded× (state_code event_code) (coded× (state_code event_code) (coded× settings_states.state_code (coded× coded_bool (coded_list channel_code))))))
    (λ c. (c.next, (c.common, (c.secret, (c.settings, (c.flag, c.channels))))))
    (λ p. record { next = p.0; common = p.1.0; secret = p.1.1.0; settings = p.1.1.1.0; flag = p.1.1.1.1.0; channels = p.1.1.1.1.1 }) (λ _. refl)
