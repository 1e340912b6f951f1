-- Laws of `replay`.
use Rattle.std.proofs.Common.{◌≡◌, codes, ℕ, List, [], ◌++◌, Option, Some, None, refl, subst, inl, inr}
use Rattle.tl_base.specs.declared.host.Slot.TheVariants.{Schema, Input}
use Rattle.wire_profile.specs.Indexes.{ProfileView}
use Rattle.outside.specs.Answer.{Answer}
use Rattle.outside.specs.declared.status.Status.{Status}
use Rattle.outside.specs.declared.status.Status.TheVariants.{ReadFault}
use Rattle.outside.specs.Events.{Event}
use Rattle.outside.specs.Laws.{Keeps, Explains, HasCause}
use Rattle.outside.specs.Pieces.{ReadsFile}
use Rattle.outside.specs.Begun.{to_output}
use Rattle.outside.specs.Runs.{RunsIn}
use Rattle.outside.proofs.Causing.{keeps_answer, keeps_file, keeps_tell, keeps_then, cause_answer, cause_run, cause_tell, cause_then, explains_last, unread_file}
use Rattle.codec_rooms.specs.Laws.{Named, IsOf, IsUsed}
use Rattle.codec_rooms.proofs.FileLaws.{Touches, touches}
use Rattle.codec_rooms.proofs.TypedLaws.{keeps_named, cause_of_file}
use Rattle.update_replay.specs.Endings.{Ending, whole, no_step, not_made, too_long}
use Rattle.update_replay.specs.declared.limits.TheConstants.{MAX_JOURNAL_BYTES}
use Rattle.update_commands.specs.Replay.{OfJournal, ending_answer}
use Rattle.update_commands.proofs.OneReplay.{some_is}
use Rattle.update_commands.specs.Profile.{OfProfile}
use Rattle.update_commands.specs.ReplayWork.{after_journal, replays, replays_by}
use Rattle.update_commands.specs.Commands.{replay}
use Rattle.update_commands.proofs.ProfiledLaws.{keeps_profile, cause_profile}

module _ (schema journal : List ℕ) (n : ℕ) where
  abbrev reads : Named
  reads = (replay schema journal n).reads

  abbrev P : Event → Type 0
  P = IsOf reads

  is_used : IsUsed reads Input
  is_used = (journal, inr (inl (refl, refl)))

  keeps_journal : (p : ProfileView) (text : Option (List ℕ)) → Keeps P (after_journal n p text)
  keeps_journal p (Some text) = keeps_answer P (λ _. tt) tt (λ _. tt) tt (OfJournal p n text)
  keeps_journal p None = keeps_tell P (λ _. tt) tt _ _

  keeps_replay : Keeps P (replays schema journal n)
  keeps_replay =
      keeps_named reads Schema schema (inl (refl, refl)) (codes "schema") (OfProfile (replays_by journal n))
      (keeps_profile (replays_by journal n) P (λ _. tt) tt (λ _. tt) tt
      (λ p. keeps_then P (ReadsFile Input journal MAX_JOURNAL_BYTES) (after_journal n p) (keeps_file P Input journal MAX_JOURNAL_BYTES (λ _. inr (inl (refl, refl))) (λ _. is_used) is_used is_used) (keeps_journal p)))

pub replay_touches : (schema journal : List ℕ) (n : ℕ) → Touches (replay schema journal n)
replay_touches schema journal n = touches (replay schema journal n) (keeps_replay schema journal n)

-- ---- why it fails

plain_as : (a b : Answer) → Some a ≡ Some b → Explains a.status [] → Explains b.status []
plain_as a b is h = subst (λ (x : Answer). Explains x.status []) (some_is a b is) h

plain_ending : (output : List ℕ) (ending : Ending) (a : Answer) → ending_answer output ending ≡ Some a → Explains a.status []
plain_ending output (whole k) a is = plain_as _ a is tt
plain_ending output (no_step at fault) a is = plain_as _ a is tt
plain_ending output (not_made at cause) a is = plain_as _ a is tt
plain_ending output (too_long at) a is = plain_as _ a is tt

module _ (journal : List ℕ) (n : ℕ) (p : ProfileView) where
  after_read : (text : Option (List ℕ)) (t u : List Event) (status : Status) → ReadsFile Input journal MAX_JOURNAL_BYTES t text → after_journal n p text u status → Explains status (t ++ u)
  after_read (Some text) t u status read h = explains_last status t u (cause_answer (OfJournal p n text) (λ a j. plain_ending j.output j.ending a j.answered) u status h)
  after_read None t u status read h = cause_tell _ ReadFault t u status (unread_file Input journal MAX_JOURNAL_BYTES t read) h

  cause_journal : HasCause (replays_by journal n p)
  cause_journal = cause_then (ReadsFile Input journal MAX_JOURNAL_BYTES) (after_journal n p) after_read

pub replay_has_cause : (schema journal : List ℕ) (n : ℕ) → HasCause (RunsIn to_output (replays schema journal n))
replay_has_cause schema journal n = cause_run (replays schema journal n) (cause_of_file Schema refl (codes "schema") (OfProfile (replays_by journal n)) schema (cause_profile (replays_by journal n) (cause_journal journal n)))
