-- What `replay` answers: the report of its journal, or where and why schema, profile or journal is refused. This project's own.
use Rattle.std.specs.Prelude.{◌≡◌, ℕ, List, Option, Some, codes}
use Rattle.tl_base.specs.Contents.{Files, HoldBytes}
use Rattle.tl_base.specs.Outside.{HasFile, IsFile}
use Rattle.box_events.specs.declared.steps.Step.{Step}
use Rattle.wire_profile.specs.Indexes.{ProfileView}
use Rattle.outside.specs.Answer.{Answer, done, refused_after, placed_line}
use Rattle.outside.specs.Jobs.{Job, unlinked_job}
use Rattle.outside.specs.Kept.{KeepsUnread}
use Rattle.fault_lines.specs.Messages.{step_line}
use Rattle.fault_lines.specs.Profiled.{HasProfile, OfProfileFile}
use Rattle.update_replay.specs.Endings.{Ending, whole, no_step, not_made, too_long}
use Rattle.update_replay.specs.Replays.{Replayed}
use Rattle.update_commands.specs.Steps.{step_fault_line}

-- the step at this offset is one too many, or goes past what a journal may have
abbrev pub long_line : ℕ → List ℕ
long_line at = placed_line (codes "journal") at (codes "TooLong")

-- what is answered where a replay has written this and comes to its ending: the lines stand, and a refusal is told
abbrev pub ending_answer : List ℕ → Ending → Option Answer
ending_answer output (whole k) = Some (done output)
ending_answer output (no_step at fault) = Some (refused_after output (step_line at fault))
ending_answer output (not_made at cause) = Some (refused_after output (step_fault_line at cause))
ending_answer output (too_long at) = Some (refused_after output (long_line at))

-- the journal's steps are made up to its end, or to what is refused there
pub record OfJournal (p : ProfileView) (n : ℕ) (journal : List ℕ) (a : Answer) : Type 0 where
  pub steps : List Step
  pub output : List ℕ
  pub ending : Ending
  pub replayed : Replayed p n journal steps output ending
  pub answered : ending_answer output ending ≡ Some a

-- of a profile the journal's file tells
abbrev pub OfJournalFile : Files → List ℕ → ℕ → ProfileView → Answer → Type 0
OfJournalFile files journal n p a = (bytes : List ℕ) × HasFile files journal bytes × OfJournal p n bytes a

-- replay's answer
abbrev pub ReplayAnswer : Files → List ℕ → List ℕ → ℕ → Answer → Type 0
ReplayAnswer files schema journal n a = OfProfileFile (OfJournalFile files journal n) files schema a

-- files of bytes have one answer at most, and one where both are there
pub record HasOneReplay (files : Files) (schema journal : List ℕ) (n : ℕ) : Type 0 where
  pub one : (a b : Answer) → ReplayAnswer files schema journal n a → ReplayAnswer files schema journal n b → a ≡ b
  pub there : IsFile files schema → IsFile files journal → (a : Answer) × ReplayAnswer files schema journal n a

abbrev pub EachHasOneReplay : Type 0
EachHasOneReplay = (files : Files) → HoldBytes files → (schema journal : List ℕ) (n : ℕ) → HasOneReplay files schema journal n

-- `replay SCHEMA JOURNAL CLIENTS`, which writes as it goes, and comes to Input where the schema is a profile
abbrev pub replay_job : List ℕ → List ℕ → ℕ → Job
replay_job schema journal n = unlinked_job (λ v a. ReplayAnswer v.files schema journal n a) (Unit {0}) (λ v w. KeepsUnread (HasProfile v.files schema) v w)
