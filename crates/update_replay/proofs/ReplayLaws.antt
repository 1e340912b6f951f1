-- The laws of replays.
use Rattle.std.proofs.Common.{ℕ, List, ◌++◌, Bool, sym, subst}
use Rattle.update_replay.specs.ReplayLaws.{EachJournalIsReplayed, LongJournalsAreAlike, ReplaysAreOne, StoppedArePrefixes}
use Rattle.update_replay.specs.Replays.{Replays, goes_on, seen_of}
use Rattle.update_replay.proofs.EachReplay.{each_replayed}
use Rattle.update_replay.proofs.OneReplay.{replays_once}
use Rattle.update_replay.proofs.ReplayPrefixes.{stopped_first}
use Rattle.update_replay.proofs.Windows.{goes_alike, seen_alike, seen_bytes}

pub replays_are_one : ReplaysAreOne
replays_are_one p good n journal are ss others output other e f h g = replays_once p good n (seen_of journal) (seen_bytes journal are) (goes_on journal) ss others output other e f h g

pub each_journal_is_replayed : EachJournalIsReplayed
each_journal_is_replayed p good n journal are = each_replayed p good n (seen_of journal) (goes_on journal) (seen_bytes journal are)

pub stopped_are_prefixes : StoppedArePrefixes
stopped_are_prefixes p good n journal are part output ss ending s replayed = stopped_first p good n (seen_of journal) (seen_bytes journal are) (goes_on journal) ss output ending replayed part s

pub long_journals_are_alike : LongJournalsAreAlike
long_journals_are_alike p n front rest long ss output ending =
    let seen = seen_alike front rest long in
    let goes = goes_alike front rest long in (
      λ h. subst (λ (b : Bool). Replays p n (seen_of (front ++ rest)) b ss output ending) goes (subst (λ (x : List ℕ). Replays p n x (goes_on front) ss output ending) seen h),
      λ h. subst (λ (b : Bool). Replays p n (seen_of front) b ss output ending) (sym goes) (subst (λ (x : List ℕ). Replays p n x (goes_on (front ++ rest)) ss output ending) (sym seen) h),
    )
