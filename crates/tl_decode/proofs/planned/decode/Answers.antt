use Rattle.std.proofs.Common.{arith}
use Rattle.tl_decode.proofs.Outcomes.{gives_root, gives_root_fault}
use Rattle.tl_decode.proofs.SizesGiven.{gives_few}
use Rattle.tl_decode.proofs.planned.decode.Goals as goal

pub returns-clause-spelled : goal.returns-clause-spelled
returns-clause-spelled g c = gives_root c.args.plan.now c.root.ensures.sound c.args.root 120 _ _ c.args.at.now _ c.root_of.result (omega arith) (rw c.root.ensures.root at c.root_of.ensures.read)

pub returns-clause-refused : goal.returns-clause-refused
returns-clause-refused g c = gives_root_fault c.args.plan.now c.root.ensures.sound c.args.root 120 _ _ c.args.at.now _ c.root_of.result (omega arith) (rw c.root.ensures.root at c.root_of.ensures.read)

pub returns-clause-bounded : goal.returns-clause-bounded
returns-clause-bounded g c = gives_few c.args.plan.now c.root.ensures.sound c.args.root _ _ c.args.at.now _ c.root_of.result (omega arith) (g.met.S.Source.are_bytes c.args.from.now) (rw c.root.ensures.root at c.root_of.ensures.read)
