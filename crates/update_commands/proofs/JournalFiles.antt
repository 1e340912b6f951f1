-- What is looked at of a journal, where it is read to one byte past the limit.
use Rattle.std.proofs.Common.{ℕ, List, Ok, Err, sym, ap, ◌∙◌}
use Rattle.tl_base.specs.declared.host.Slot.TheVariants.{Input}
use Rattle.outside.proofs.Loaded.{StaysLong, refuses_as}
use Rattle.update_replay.specs.Replays.{goes_on, seen_of}
use Rattle.update_replay.specs.declared.limits.TheConstants.{MAX_JOURNAL_BYTES}
use Rattle.update_replay.proofs.Windows.{goes_alike, seen_alike}
use Rattle.update_commands.specs.Replaying.{IsSeen, NoLine}

pub stays_long : (name : List ℕ) → StaysLong Input name MAX_JOURNAL_BYTES IsSeen NoLine
stays_long name bytes read rest (Ok x) e long h =
    (h.0 ∙ seen_alike read rest long ∙ ap seen_of (sym e), h.1 ∙ goes_alike read rest long ∙ ap goes_on (sym e))
stays_long name bytes read rest (Err u) e long h = refuses_as (NoLine read) (NoLine bytes) u (λ line none. none) h
