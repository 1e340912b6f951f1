-- Laws of replays. This project's own.
use Rattle.std.specs.Prelude.{◌≡◌, ◌↔◌, ℕ, ◌<◌, List, ◌++◌, length}
use Rattle.tl_numbers.specs.Bytes.{AreBytes}
use Rattle.box_events.specs.declared.steps.Step.{Step}
use Rattle.wire_profile.specs.Indexes.{ProfileView}
use Rattle.wire_profile.specs.Profiles.{IsProfile}
use Rattle.update_replay.specs.Endings.{Ending}
use Rattle.update_replay.specs.Replays.{Replayed, Stopped, goes_on, seen_of}
use Rattle.update_replay.specs.declared.limits.TheConstants.{MAX_JOURNAL_BYTES}

-- a journal has one replay at most: the same steps, the same output, the same ending
abbrev pub ReplaysAreOne : Type 0
ReplaysAreOne =
    (p : ProfileView) → IsProfile p → (n : ℕ) (journal : List ℕ) → AreBytes journal → (ss others : List Step) (output other : List ℕ) (e f : Ending)
    → Replayed p n journal ss output e → Replayed p n journal others other f → (ss ≡ others) × (output ≡ other) × (e ≡ f)

-- and it has one
abbrev pub EachJournalIsReplayed : Type 0
EachJournalIsReplayed =
    (p : ProfileView) → IsProfile p → (n : ℕ) (journal : List ℕ) → AreBytes journal → (ss : List Step) × (output : List ℕ) × (ending : Ending) × Replayed p n journal ss output ending

-- what a replay that stopped has written is a prefix of its output
abbrev pub StoppedArePrefixes : Type 0
StoppedArePrefixes =
    (p : ProfileView) → IsProfile p → (n : ℕ) (journal : List ℕ) → AreBytes journal → (part output : List ℕ) (ss : List Step) (ending : Ending)
    → Stopped p n (seen_of journal) (goes_on journal) part → Replayed p n journal ss output ending → (rest : List ℕ) × (part ++ rest ≡ output)

-- of a journal past the limit it is the same whatever follows
abbrev pub LongJournalsAreAlike : Type 0
LongJournalsAreAlike =
    (p : ProfileView) (n : ℕ) (front rest : List ℕ) → MAX_JOURNAL_BYTES < length front → (ss : List Step) (output : List ℕ) (ending : Ending) → Replayed p n front ss output ending ↔ Replayed p n (front ++ rest) ss output ending
