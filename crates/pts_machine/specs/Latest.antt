-- A client's settings that are the latest of a list. This project's own.
use Rattle.std.specs.Prelude.{◌≡◌, ℕ, ◌≤◌, List, Some, take, drop, map as each}
use Rattle.std.specs.List.{All}
use Rattle.std.specs.FinMap as map
use Rattle.pts_machine.specs.Holding.{Items}
use Rattle.box_events.specs.SettingLists.{Values, Dated, IsLatest, AreSince}
use Rattle.pts_machine.specs.Packs.{Pack, puts}
use Rattle.pts_machine.specs.SeqStates.{SettingsState}

-- the table of the first s entries, each put in turn
abbrev pub latest : List Dated → ℕ → Values
latest L s = puts map.empty (each (λ e. e.setting) (take s L))

-- a pack from start to end is its stretch of the list, and its date is that of each of its settings there
pub record IsStretch (L : List Dated) (start end : ℕ) (pack : Pack) : Type 0 where
  pub order : start ≤ end
  pub is : pack.settings ≡ each (λ e. e.setting) (drop start (take end L))
  pub dated : All (λ e. e.date ≡ pack.date) (drop start (take end L))

-- each held pack is its stretch of the list
abbrev pub AreStretches : List Dated → Items Pack → Type 0
AreStretches L m = (s : ℕ) (x : ℕ × Pack) → map.get m s ≡ Some x → IsStretch L s x.0 x.1

-- no setting past the seq of a client's settings is dated before their date
abbrev pub IsSince : List Dated → SettingsState → Type 0
IsSince L b = AreSince L b.at b.date

-- the table of settings is the latest of the list at their seq, and each held pack is its stretch
pub record IsLatestState (L : List Dated) (b : SettingsState) : Type 0 where
  pub table : IsLatest L b.at b.table
  pub held : AreStretches L b.held
