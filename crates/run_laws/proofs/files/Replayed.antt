-- A run of `replay`.
use Rattle.std.proofs.Common.{◌≡◌, ℕ, ◌+◌, List, length, take, drop, Bool, Some, codes, Ok, refl, sym, subst, inl, inr, arith}
use Rattle.std.proofs.lemmas.Bool.{cases_lt}
use Rattle.std.proofs.lemmas.List.{take_all, take-append-drop, length-take}
use Rattle.tl_base.specs.Contents.{Files}
use Rattle.tl_base.specs.declared.host.Slot.TheVariants.{Schema, Input}
use Rattle.tl_schema.specs.Schemas.{Declared}
use Rattle.wire_profile.specs.Faults.{IsAnswer}
use Rattle.wire_profile.specs.Indexes.{ProfileView}
use Rattle.outside.specs.Answer.{Answer}
use Rattle.fault_lines.specs.Profiled.{HasProfile}
use Rattle.fault_lines.specs.Profiled as answer
use Rattle.outside.specs.Begun.{to_output}
use Rattle.update_replay.specs.Endings.{Ending, whole, no_step, not_made, too_long}
use Rattle.update_replay.specs.Replays.{Replays, goes_on, seen_of}
use Rattle.update_replay.specs.declared.limits.TheConstants.{MAX_JOURNAL_BYTES}
use Rattle.update_commands.specs.Replay.{OfJournal, OfJournalFile, ReplayAnswer, ending_answer, replay_job}
use Rattle.update_commands.specs.Replaying.{IsSeen}
use Rattle.update_commands.proofs.JournalFiles.{stays_long}
use Rattle.update_commands.proofs.OneReplay.{some_is}
use Rattle.update_commands.proofs.ProfiledFiles.{each_has_one}
use Rattle.update_commands.specs.Profile.{OfProfile}
use Rattle.update_commands.specs.ReplayWork.{after_journal, replays, replays_by}
use Rattle.run_laws.specs.Ended.{Anything, FileBytes, RunsJob}
use Rattle.run_laws.proofs.files.Coming.{Comes, comes_file}
use Rattle.run_laws.proofs.files.Ending.{IsPrinted, after_printed, done_printed, runs_output}
use Rattle.run_laws.proofs.files.Profiled.{comes_profile, profile_printed}
use Rattle.run_laws.proofs.files.Schemas.{Reached, bytes_come, comes_schema, file_printed}

-- ---- what is answered is printed

ending_printed : (output : List ℕ) (ending : Ending) (a : Answer) → ending_answer output ending ≡ Some a → IsPrinted a
ending_printed output (whole k) a is = done_printed output a (sym (some_is _ _ is))
ending_printed output (no_step at fault) a is = after_printed output _ a (sym (some_is _ _ is))
ending_printed output (not_made at cause) a is = after_printed output _ a (sym (some_is _ _ is))
ending_printed output (too_long at) a is = after_printed output _ a (sym (some_is _ _ is))

-- ---- a journal

module _ (p : ProfileView) (n : ℕ) (journal : List ℕ) where
  seen_as : (file text : List ℕ) (a : Answer) → IsSeen file text → OfJournal p n text a → OfJournal p n file a
  seen_as file text a same h = record {
    steps = h.steps;
    output = h.output;
    ending = h.ending;
    replayed = subst (λ (more : Bool). Replays p n (seen_of file) more h.steps h.output h.ending) same.1 (subst (λ (x : List ℕ). Replays p n x (goes_on text) h.steps h.output h.ending) same.0 h.replayed);
    answered = h.answered;
  }

  journal_stays : (file : List ℕ) (a : Answer) → OfJournal p n (take (MAX_JOURNAL_BYTES + 1) file) a → OfJournal p n file a
  journal_stays file a h =
      let first = take (MAX_JOURNAL_BYTES + 1) file in
      elim (cases_lt MAX_JOURNAL_BYTES (length file)) [
        | inl long ↦
            seen_as file first a
            (stays_long journal file first (drop (MAX_JOURNAL_BYTES + 1) file) (Ok first) (sym (take-append-drop (MAX_JOURNAL_BYTES + 1) file)) (omega (arith, long, length-take (MAX_JOURNAL_BYTES + 1) file)) (refl, refl)) h
        | inr few ↦ subst (λ (l : List ℕ). OfJournal p n l a) (take_all (MAX_JOURNAL_BYTES + 1) file (omega (arith, few))) h
      ]

  journal_printed : (files : Files) (a : Answer) → OfJournalFile files journal n p a → IsPrinted a
  journal_printed files a (bytes, has, h) = ending_printed h.output h.ending a h.answered

  journal_comes : Comes (λ s. OfJournalFile s.view.files journal n p) Reached (replays_by journal n p)
  journal_comes =
      comes_file Input journal MAX_JOURNAL_BYTES (after_journal n p) (λ s. OfJournalFile s.view.files journal n p) Reached tt refl (λ s. inr tt) (λ t status h. h) (λ s a is. (is.0, is.1))
      (λ text file t u v status s m k read has is h f g. bytes_come journal MAX_JOURNAL_BYTES (OfJournal p n) journal_stays file text u v status s has is h)

-- ---- the run

module _ (schema journal : List ℕ) (n : ℕ) where
  abbrev Of : Files → Answer → Type 0
  Of files a = ReplayAnswer files schema journal n a

  abbrev OfFiles : Declared → Files → Answer → Type 0
  OfFiles S files = answer.OfProfile (OfJournalFile files journal n) S

  are_printed : (files : Files) (a : Answer) → Of files a → IsPrinted a
  are_printed files a is = file_printed (codes "schema") (λ S. OfFiles S files) (profile_printed (OfJournalFile files journal n) (λ p. journal_printed p n journal files)) files schema a is

  -- the schema is a profile
  abbrev IsOne : Declared → Type 0
  IsOne S = (p : ProfileView) × IsAnswer S (Ok p)

  comes : Comes (λ s. Of s.view.files) (λ s. HasProfile s.view.files schema) (replays schema journal n)
  comes =
      comes_schema (codes "schema") (OfProfile (replays_by journal n)) OfFiles IsOne
      (λ S. comes_profile (replays_by journal n) (λ p files. OfJournalFile files journal n p) (Unit {0}) (IsOne S) S (λ p is came. (p, is)) (λ p. journal_comes p n journal)) Schema tt refl schema
      (λ s. HasProfile s.view.files schema) (λ s. inl tt) (λ s file S has is came. record { text = file; p = came.0; there = has; is = record { schema = S; read = is; is = came.1 } })

  pub replay_runs : RunsJob Anything FileBytes (replay_job schema journal n) to_output (replays schema journal n)
  replay_runs =
      runs_output Of (Unit {0}) (λ v. HasProfile v.files schema) are_printed (replays schema journal n) FileBytes (λ v bytes a b. (each_has_one v.files bytes schema journal n).one a b) comes tt
