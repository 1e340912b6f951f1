use Rattle.tl_combinators.specs.Types.{term}
use Rattle.tl_combinators.proofs.types.term_at.Goals as goal

pub returns-clause-read : goal.returns-clause-read
unfolding term
returns-clause-read c = c.type_at.ensures.read
