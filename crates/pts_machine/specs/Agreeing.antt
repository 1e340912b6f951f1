-- A client's settings that agree with a server's list of them. This project's own.
use Rattle.std.specs.Prelude.{◌≡◌, ℕ, ◌<◌, ◌≤◌, List, Some, length}
use Rattle.std.specs.FinMap as map
use Rattle.pts_machine.specs.Holding.{Items}
use Rattle.box_events.specs.SettingLists.{Dated}
use Rattle.pts_machine.specs.Packs.{Pack}
use Rattle.pts_machine.specs.SeqStates.{SettingsState}
use Rattle.pts_machine.specs.Latest.{IsLatestState, IsSince}

-- each held pack starts before its end, and ends within the list
abbrev pub LieWithin : List Dated → Items Pack → Type 0
LieWithin L m = (s : ℕ) (x : ℕ × Pack) → map.get m s ≡ Some x → (s < x.0) × (x.0 ≤ length L)

-- The settings are the latest of the list at their seq, which isn't past its end, and each held pack is its stretch of the list. Their
-- date is past neither that of any setting past the seq nor the server's date.
pub record SettingsAgree (L : List Dated) (now : ℕ) (b : SettingsState) : Type 0 where
  pub latest : IsLatestState L b
  pub within : LieWithin L b.held
  pub inside : b.at ≤ length L
  pub since : IsSince L b
  pub past : b.date ≤ now
