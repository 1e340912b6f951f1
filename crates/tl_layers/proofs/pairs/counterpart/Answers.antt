use Rattle.std.proofs.Common.{◌∙◌, arith}
use Rattle.tl_layers.proofs.FoundCounterparts.{counterpart_found, counterpart_past}
use Rattle.tl_layers.proofs.pairs.counterpart.Goals as goal

pub returns-then-i-count-clause-is : goal.returns-then-i-count-clause-is
returns-then-i-count-clause-is c = c.own_of.ensures.is ∙ counterpart_found c.args.old.now c.args.new.now c.args.i _ c.find.result c.entry-entry.ensures (rw c.as_slice.ensures.value at c.find.ensures)

pub returns-else-i-count-clause-is : goal.returns-else-i-count-clause-is
returns-else-i-count-clause-is c = counterpart_past c.args.old.now c.args.new.now c.args.i (omega (arith, c.if-i-count.false, c.count.ensures.count))
