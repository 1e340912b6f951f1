use Rattle.std.proofs.Common.{arith}
use Rattle.tl_base.proofs.Appending.{gives}
use Rattle.tl_base.proofs.slices.give.Goals as goal

pub returns-clause-bytes : goal.returns-clause-bytes
returns-clause-bytes c = gives c.args.bytes.now c.copy_from_slice.new.self _ c.args.at.now c.min-count.result c.copy_from_slice.ensures.after (omega (arith, c.min-count.ensures))
