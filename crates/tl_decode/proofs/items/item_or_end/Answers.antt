use Rattle.std.proofs.Common.{arith}
use Rattle.tl_decode.proofs.SourceItems.{or_short}
use Rattle.tl_decode.proofs.items.item_or_end.Goals as goal

pub returns-else-had-eq0-clause-read : goal.returns-else-had-eq0-clause-read
returns-else-had-eq0-clause-read g c = or_short c.args.wanted _ _ c.args.at.now c.args.at.now c.in-Err-Ended.had c.requires (λ e. omega (arith, e, c.if-had-eq0.false)) (rw c.in-Err-Ended.field-0-is at c.in-Err-Ended.ensures.bytes)
