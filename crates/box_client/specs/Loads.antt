-- What loading answers. This project's own.
use Rattle.std.specs.Prelude.{◌≡◌, ℕ, List, [], ◌∷◌, ◌++◌, length, true, false, Option, None, Some, Result, Ok, Err}
use Rattle.box_events.specs.Events.{count_of}
use Rattle.box_events.specs.declared.saved.Saved.{Saved}
use Rattle.box_events.specs.declared.saved.SavedChannel.{SavedChannel}
use Rattle.pts_machine.specs.Steps.{loaded}
use Rattle.channel_box.specs.States.{ChannelState, ids_of}
use Rattle.channel_box.specs.Steps.{channel_of}
use Rattle.box_client.specs.declared.fault.LoadFault.{LoadFault}
use Rattle.box_client.specs.declared.fault.LoadFault.TheVariants.{BadNext, BadLane, BadSettings, BadChannels, Memory}
use Rattle.box_client.specs.States.{ClientState}
use Rattle.box_client.specs.Asking.{restarted}
use Rattle.box_client.specs.Saving.{load_cause, bad_next, bad_lane, bad_settings, bad_channels, is_next, uneven_lane, unsorted, is_surplus, client_loaded}

-- each fault is the first cause; memory may be wanting at any time
abbrev pub IsCauseOf : Saved → LoadFault → Type 0
IsCauseOf s (BadNext next) = load_cause s ≡ Some (bad_next next)
IsCauseOf s (BadLane lane) = load_cause s ≡ Some (bad_lane lane)
IsCauseOf s (BadSettings place) = load_cause s ≡ Some (bad_settings place)
IsCauseOf s (BadChannels place) = load_cause s ≡ Some (bad_channels place)
IsCauseOf s Memory = Unit {0}

-- there is no cause, and this client is loaded
pub record IsLoadedAs (s : Saved) (c : ClientState) : Type 0 where
  pub cause : load_cause s ≡ None
  pub client : c ≡ client_loaded s

-- no cause but perhaps one of the channels' ids
pub record IsRight (s : Saved) : Type 0 where
  pub next : is_next s.next ≡ true
  pub lanes : uneven_lane s ≡ None
  pub settings : unsorted s.settings ≡ None

-- the ids of channels are the fault's cause
abbrev pub IsSurplusOf : Option ℕ → LoadFault → Type 0
IsSurplusOf o (BadNext next) = ⊥
IsSurplusOf o (BadLane lane) = ⊥
IsSurplusOf o (BadSettings place) = ⊥
IsSurplusOf o (BadChannels place) = o ≡ Some place
IsSurplusOf o Memory = Unit {0}

-- A saved channel is watched, last in order, its flag not set; or its id is the fault's cause.
abbrev pub Adds : List ChannelState → SavedChannel → Result (Unit {0}) LoadFault → List ChannelState → Type 0
Adds old c (Ok done) new = (is_surplus (ids_of old) c.id ≡ false) × (new ≡ old ++ channel_of c.id (loaded count_of c.lane.restart c.lane.events) c.recent ∷ [])
Adds old c (Err (BadNext next)) new = ⊥
Adds old c (Err (BadLane lane)) new = ⊥
Adds old c (Err (BadSettings place)) new = ⊥
Adds old c (Err (BadChannels place)) new = (is_surplus (ids_of old) c.id ≡ true) × (place ≡ length (ids_of old))
Adds old c (Err Memory) new = Unit {0}

-- what was saved is loaded as the client after a restart
pub record IsRestartOf (c : ClientState) (s : Saved) : Type 0 where
  pub cause : load_cause s ≡ None
  pub client : client_loaded s ≡ restarted c
