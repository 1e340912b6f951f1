-- What `replay` does. This project's own.
use Rattle.std.specs.Prelude.{ℕ, List, Option, Some, None}
use Rattle.tl_base.specs.declared.host.Slot.TheVariants.{Input}
use Rattle.wire_profile.specs.Indexes.{ProfileView}
use Rattle.outside.specs.declared.status.Status.{Status}
use Rattle.outside.specs.Pieces.{ReadsFile}
use Rattle.outside.specs.Printing.{Answers, Unread}
use Rattle.outside.specs.Steps.{Step, Then}
use Rattle.codec_rooms.specs.Typed.{OfCommand}
use Rattle.update_replay.specs.declared.limits.TheConstants.{MAX_JOURNAL_BYTES}
use Rattle.update_commands.specs.Replay.{OfJournal}
use Rattle.update_commands.specs.Profile.{OfProfile}

-- what follows of the journal: its steps are made with n clients, and what they write is printed, and the line of what is refused
abbrev pub after_journal : ℕ → ProfileView → Option (List ℕ) → Step Status
after_journal n p (Some journal) = Answers (OfJournal p n journal)
after_journal n p None = Unread

-- what follows of a profile: the journal's file is read, to its end or to one byte past the limit
abbrev pub replays_by : List ℕ → ℕ → ProfileView → Step Status
replays_by journal n p = Then (ReadsFile Input journal MAX_JOURNAL_BYTES) (after_journal n p)

-- `replay SCHEMA JOURNAL CLIENTS`: the schema's file is read, and only of a profile the journal's
abbrev pub replays : List ℕ → List ℕ → ℕ → Step Status
replays schema journal n = OfCommand (OfProfile (replays_by journal n)) schema
