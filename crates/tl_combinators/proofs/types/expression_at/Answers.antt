use Rattle.tl_combinators.specs.Types.{expression}
use Rattle.tl_combinators.proofs.types.expression_at.Goals as goal

pub returns-clause-read : goal.returns-clause-read
unfolding expression
returns-clause-read c = c.type_at.ensures.read
