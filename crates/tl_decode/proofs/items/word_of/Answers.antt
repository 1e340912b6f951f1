use Rattle.std.proofs.Common.{rules}
use Rattle.tl_decode.proofs.FixedItems.{word_read, word_ended}
use Rattle.tl_decode.proofs.items.word_of.Goals as goal

pub returns-in-Ok-clause-read : goal.returns-in-Ok-clause-read
returns-in-Ok-clause-read g c = word_read _ _ c.args.at.now c.saturating_add.result c.from_le_bytes.result c.in-Ok.word (search rules) c.in-Ok.ensures.bytes (search rules) c.from_le_bytes.ensures

pub returns-in-Err-Ended-clause-read : goal.returns-in-Err-Ended-clause-read
returns-in-Err-Ended-clause-read g c = word_ended _ _ c.args.at.now _ _ (rw c.in-Err-Ended.field-0-is at c.in-Err-Ended.ensures.bytes)
