use Rattle.std.proofs.Common.{arith}
use Rattle.tl_decode.proofs.RootsOrEnds.{says_few, says_refused, says_some}
use Rattle.tl_decode.proofs.endings.decode_or_end.Goals as goal

pub returns-clause-spelled : goal.returns-clause-spelled
returns-clause-spelled g c = says_some c.args.plan.now c.root.ensures.sound c.args.root c.requires.four _ _ c.args.at.now _ c.root_or_end.result (omega arith) (rw c.root.ensures.root at c.root_or_end.ensures.read)

pub returns-clause-refused : goal.returns-clause-refused
returns-clause-refused g c = says_refused c.args.plan.now c.root.ensures.sound c.args.root _ _ c.args.at.now _ c.root_or_end.result (omega arith) (rw c.root.ensures.root at c.root_or_end.ensures.read)

pub returns-clause-bounded : goal.returns-clause-bounded
returns-clause-bounded g c = says_few c.args.plan.now c.root.ensures.sound c.args.root _ _ c.args.at.now _ c.root_or_end.result (omega arith) (g.met.S.Source.are_bytes c.args.from.now) (rw c.root.ensures.root at c.root_or_end.ensures.read)
