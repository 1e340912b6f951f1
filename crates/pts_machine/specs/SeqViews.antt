-- The fields of the settings as what they are. This project's own.
use Rattle.std.specs.Prelude.{◌≡◌, ◌+◌, ◌^◌, ◌<◌, ◌≤◌}
use Rattle.std.specs.FinMap as map
use Rattle.pts_machine.specs.declared.settings.Settings.TheInside.{Inside}
use Rattle.pts_machine.specs.Totals.{total}
use Rattle.pts_machine.specs.SeqStates.{SettingsState, SettingsView, IsSoundState}

-- the fields as settings, and as what callers see
abbrev pub state_of : Inside → SettingsState
state_of a = record { at = a.at; date = a.store.date; table = a.store.table.values; held = a.gap.held; mode = a.mode }

abbrev pub view_of : Inside → SettingsView
view_of a = record { state = state_of a; spare = a.spare }

-- what holds of all settings: the number of held settings is exact, there is room to keep all of them and the further ones, and keys,
-- held settings and room come to fewer than 2^31
pub record IsWhole (a : Inside) : Type 0 where
  pub sound : IsSoundState (state_of a)
  pub total : a.store.waiting ≡ total a.gap.held
  pub table : a.store.waiting + a.spare ≤ a.store.table.spare
  pub gap : a.spare ≤ a.gap.spare
  pub few : map.len a.store.table.values + a.store.waiting + a.spare < 2 ^ 31
