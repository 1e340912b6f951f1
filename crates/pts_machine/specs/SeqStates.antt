-- The settings of a client, apart from the code: a lane of packs, with a date and a table.
-- From "Working with Updates" (core.telegram.org/api/updates), "seq", in that a pack below the seq is known, one in turn is applied and
-- one past it waits; settings under a seq are this project's own.
use Rattle.std.specs.Prelude.{◌≡◌, ◌<◌, ◌+◌, ◌^◌, ℕ, List, [], refl}
use Rattle.std.specs.Coded.{Coded, code_by, coded×, coded_ℕ}
use Rattle.std.specs.FinMap as map
use Rattle.pts_machine.specs.Holding.{Items}
use Rattle.pts_machine.specs.declared.mode.Mode.{Mode}
use Rattle.pts_machine.specs.declared.mode.Mode.TheVariants.{Live, Asking, Again}
use Rattle.pts_machine.specs.declared.seen.Seen.{Seen}
use Rattle.pts_machine.specs.States.{LaneState, mode_code, AreSized, StartAfter}
use Rattle.pts_machine.specs.Steps.{hear, settle}
use Rattle.box_events.specs.declared.settings.Setting.{Setting}
use Rattle.box_events.specs.SettingLists.{Values}
use Rattle.pts_machine.specs.Packs.{Pack, size, puts, puts_all, last_date, pack_code}
use Rattle.pts_machine.specs.Tables.{values_code}
use Rattle.pts_machine.specs.Totals.{total}

-- the seq, the date, the values, the held packs, and whether it waits for an answer
pub record SettingsState : Type 0 where
  pub at : ℕ
  pub date : ℕ
  pub table : Values
  pub held : Items Pack
  pub mode : Mode

-- settings that have heard of nothing
abbrev pub new_settings : SettingsState
new_settings = record { at = 0; date = 0; table = map.empty; held = map.empty; mode = Live }

-- settings as a lane: nothing stands in it but what is held
abbrev pub lane_of : SettingsState → LaneState Pack
lane_of b = record { restart = b.at; events = []; at = b.at; held = b.held; mode = b.mode }

-- what the lane applied goes to the table, and the last of it gives the date
abbrev pub applied : SettingsState → LaneState Pack → SettingsState
applied b t = record { at = t.at; date = last_date b.date t.events; table = puts_all b.table t.events; held = t.held; mode = t.mode }

-- settings after a pack, and what came of the pack
pub record HeardPack : Type 0 where
  pub state : SettingsState
  pub seen : Seen

-- a pack is heard as a lane hears an event
unfoldable pub hear_pack : SettingsState → ℕ → ℕ → Pack → HeardPack
hear_pack b start end pack =
    let h = hear (lane_of b) start end pack in
    record { state = applied b h.state; seen = h.seen }

-- settings are put beside what is kept, the seq and the date are as told, and held packs settle as in a live lane
unfoldable pub overlaid : SettingsState → List Setting → ℕ → ℕ → SettingsState
overlaid b settings seq date =
    let put : SettingsState = record b { at = seq; date = date; table = puts b.table settings; mode = Live } in
    applied put (settle (lane_of put))

-- an answer to the request of this number is waited for
abbrev pub asked : SettingsState → ℕ → SettingsState
asked b number = record b { mode = Asking number }

-- the settings are to be asked for again
abbrev pub asks_again : SettingsState → SettingsState
asks_again b = record b { mode = Again }

-- nothing is held, and no answer waited for
abbrev pub forgotten : SettingsState → SettingsState
forgotten b = record b { held = map.empty; mode = Live }

-- settings that were kept, at a seq and a date: nothing is held
abbrev pub loaded : ℕ → ℕ → Values → SettingsState
loaded seq date table = record { at = seq; date = date; table = table; held = map.empty; mode = Live }

-- what holds of all settings: each held pack ends after its start by its size, and live settings hold none at or below their seq
pub record IsSoundState (b : SettingsState) : Type 0 where
  pub sized : AreSized size b.held
  pub ahead : b.mode ≡ Live → StartAfter b.at b.held

-- what callers see: the settings, and for how many more there is room
pub record SettingsView : Type 0 where
  pub state : SettingsState
  pub spare : ℕ

-- keys, held settings and room come to fewer than 2^31
abbrev pub IsBounded : SettingsView → Type 0
IsBounded v = map.len v.state.table + total v.state.held + v.spare < 2 ^ 31

-- the settings and what callers see as rows of their parts
abbrev pub state_code : Coded SettingsState
state_code = code_by (ℕ × (ℕ × (Values × (Items Pack × Mode))))
    (coded× coded_ℕ (coded× coded_ℕ (coded× values_code (coded× (map.code coded_ℕ (coded× coded_ℕ pack_code)) mode_code))))
    (λ b. (b.at, (b.date, (b.table, (b.held, b.mode))))) (λ p. record { at = p.0; date = p.1.0; table = p.1.1.0; held = p.1.1.1.0; mode = p.1.1.1.1 }) (λ _. refl)

abbrev pub view_code : Coded SettingsView
view_code = code_by (SettingsState × ℕ) (coded× state_code coded_ℕ) (λ v. (v.state, v.spare)) (λ p. record { state = p.0; spare = p.1 }) (λ _. refl)
