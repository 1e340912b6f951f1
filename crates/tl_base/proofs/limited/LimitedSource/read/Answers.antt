use Rattle.std.proofs.Common.{arith}
use Rattle.std.proofs.lemmas.Grind.{common_steps}
use Rattle.tl_base.proofs.Limiting.{limited_read, limited_used}
use Rattle.tl_base.proofs.limited.LimitedSource.read.Goals as goal

pub returns-clause-bytes : goal.returns-clause-bytes
returns-clause-bytes g c =
    limited_read _ _ c.args.self.now.rest c.in_ok-count.count c.min-room.result c.read.new.into _ c.in_ok-count.ensures.bound.0 (grind (arith, common_steps)) (grind (arith, common_steps)) c.in_ok-count.ensures.bytes

pub returns-clause-used : goal.returns-clause-used
returns-clause-used g c =
    limited_used c.args.self.now.limit c.args.self.now.rest _ c.in_ok-count.count (g.S.Source.state c.args.self.now.from.now) (g.S.Source.state c.read.new.self) c.read.new.into _ c.in_ok-count.ensures.bound.0 (grind (arith, common_steps)) c.in_ok-count.ensures.used c.in_ok-count.ensures.bytes.0
