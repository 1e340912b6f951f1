-- The replay of a journal's file by a schema's file.
use Rattle.std.proofs.Common.{◌≡◌, ℕ, List, subst}
use Rattle.tl_base.specs.Contents.{Files, HoldBytes}
use Rattle.tl_base.specs.Outside.{IsFile}
use Rattle.wire_profile.specs.Indexes.{ProfileView}
use Rattle.wire_profile.specs.Profiles.{IsProfile}
use Rattle.outside.specs.Answer.{Answer}
use Rattle.outside.proofs.SameFiles.{same_file, file_bytes}
use Rattle.fault_lines.proofs.Profiled.{each_profiled, one_profiled}
use Rattle.update_replay.proofs.Windows.{seen_bytes}
use Rattle.update_commands.specs.Replay.{OfJournal, OfJournalFile, ReplayAnswer, EachHasOneReplay}
use Rattle.update_commands.proofs.OneReplay.{answered, each_journal, one_journal}

-- ---- one answer

module _ (files : Files) (good : HoldBytes files) (journal : List ℕ) (n : ℕ) where
  one_file : (p : ProfileView) → IsProfile p → (a b : Answer) → OfJournalFile files journal n p a → OfJournalFile files journal n p b → a ≡ b
  one_file p is a b (bytes, has, first) (other, also, second) =
      let same : other ≡ bytes = same_file files journal other bytes also has in
      one_journal p n bytes is (seen_bytes bytes (file_bytes files journal bytes good has)) a b first (subst (λ (x : List ℕ). OfJournal p n x b) same second)

  pub one_replay : (schema : List ℕ) (a b : Answer) → ReplayAnswer files schema journal n a → ReplayAnswer files schema journal n b → a ≡ b
  one_replay = one_profiled (OfJournalFile files journal n) one_file files

  each_file : IsFile files journal → (p : ProfileView) → IsProfile p → (a : Answer) × OfJournalFile files journal n p a
  each_file (bytes, holds) p is =
      let all = each_journal p n bytes is (seen_bytes bytes (file_bytes files journal bytes good holds)) in
      let told = answered p n bytes all.0 all.1 all.2 all.3 in
      (told.0, (bytes, holds, told.1))

  pub each_replay : (schema : List ℕ) → IsFile files schema → IsFile files journal → (a : Answer) × ReplayAnswer files schema journal n a
  each_replay schema text file = each_profiled (OfJournalFile files journal n) (each_file file) files schema text

pub each_has_one : EachHasOneReplay
each_has_one files good schema journal n = record { one = one_replay files good journal n schema; there = each_replay files good journal n schema }
