-- What the longer laws of settings say. This project's own.
use Rattle.std.specs.Prelude.{◌≡◌, ◌<◌, ◌≤◌, ◌+◌, ◌++◌, ℕ, List, length, map}
use Rattle.std.specs.List.{All}
use Rattle.box_events.specs.declared.settings.Setting.{Setting}
use Rattle.box_events.specs.SettingLists.{Dated, AreSince, IsOverlay, NeverFallFrom}
use Rattle.pts_machine.specs.Packs.{Pack}
use Rattle.pts_machine.specs.SeqStates.{SettingsState, hear_pack, overlaid}
use Rattle.pts_machine.specs.Latest.{IsStretch, AreStretches, IsSince, IsLatestState}
use Rattle.pts_machine.specs.Agreeing.{LieWithin, SettingsAgree}

-- Settings stay the latest under an overlay that tells each key that was set since their date.
abbrev pub OverlayStaysLatest : Type 0
OverlayStaysLatest =
    (L : List Dated) (b : SettingsState) (settings : List Setting) (seq date : ℕ) → b.at ≤ seq → IsLatestState L b
    → IsSince L b → IsOverlay L seq b.date settings → IsLatestState L (overlaid b settings seq date)

-- No setting past the seq is dated before the date held: a pack that is its stretch keeps that.
abbrev pub PackStaysSince : Type 0
PackStaysSince =
    (L : List Dated) (b : SettingsState) (start end : ℕ) (pack : Pack) → NeverFallFrom b.at L → AreStretches L b.held
    → LieWithin L b.held → start < end → end ≤ length L → IsStretch L start end pack → IsSince L b
    → IsSince L (hear_pack b start end pack).state

-- An overlay keeps it whose date is not past that of a setting past its seq.
abbrev pub OverlayStaysSince : Type 0
OverlayStaysSince =
    (L : List Dated) (b : SettingsState) (settings : List Setting) (seq date : ℕ) → NeverFallFrom seq L
    → AreStretches L b.held → LieWithin L b.held → AreSince L seq date → IsSince L (overlaid b settings seq date)

-- Settings that are appended with one date are a stretch.
abbrev pub IsAppendedStretch : Type 0
IsAppendedStretch =
    (L more : List Dated) (pack : Pack) → pack.settings ≡ map (λ e. e.setting) more
    → All (λ e. e.date ≡ pack.date) more → IsStretch (L ++ more) (length L) (length L + length more) pack

-- Settings that agree with a server's list still do when they hear a pack that is its stretch.
abbrev pub PackStaysAgreed : Type 0
PackStaysAgreed =
    (L : List Dated) (now : ℕ) (b : SettingsState) (start end : ℕ) (pack : Pack) → NeverFallFrom b.at L
    → All (λ e. e.date ≤ now) L → SettingsAgree L now b → start < end → end ≤ length L → IsStretch L start end pack
    → SettingsAgree L now (hear_pack b start end pack).state

-- They still do under an overlay of the list.
abbrev pub OverlayStaysAgreed : Type 0
OverlayStaysAgreed =
    (L : List Dated) (now : ℕ) (b : SettingsState) (settings : List Setting) (seq date : ℕ) → NeverFallFrom seq L
    → All (λ e. e.date ≤ now) L → SettingsAgree L now b → b.at ≤ seq → seq ≤ length L → AreSince L seq date
    → date ≤ now → IsOverlay L seq b.date settings → SettingsAgree L now (overlaid b settings seq date)

-- A pack that is its stretch of a list keeps that no setting past the seq is dated before the date held.
abbrev pub StaysSince : SettingsState → SettingsState → ℕ → ℕ → Pack → Type 0
StaysSince old new start end pack =
    (L : List Dated) → NeverFallFrom old.at L → IsLatestState L old → IsStretch L start end pack → IsSince L old → IsSince L new
