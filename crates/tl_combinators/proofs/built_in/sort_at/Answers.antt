use Rattle.std.proofs.Common.{rules}
use Rattle.tl_lexer.proofs.Steps.{yes, no, fails_here}
use Rattle.tl_combinators.specs.Tokens.{fault_of}
use Rattle.tl_combinators.specs.BuiltInLines.{sort}
use Rattle.tl_combinators.proofs.built_in.sort_at.Goals as goal

pub returns-then-begins-clause-read : goal.returns-then-begins-clause-read
unfolding sort
returns-then-begins-clause-read c = yes _ _ (c.begins.ensures.yes c.if-begins.true) (fails_here fault_of _ (search rules))

pub returns-clause-read : goal.returns-clause-read
unfolding sort
returns-clause-read c = no _ _ (c.begins.ensures.no c.if-begins.false) (rw c.as_slice.ensures at c.take_this.ensures.read)
