use Rattle.tl_lexer.proofs.Steps.{one_ok}
use Rattle.tl_combinators.specs.Tokens.{unexpected, token}
use Rattle.tl_combinators.proofs.OneToken.{one_err}
use Rattle.tl_combinators.proofs.reading.take_token.Goals as goal

pub returns-then-begins-clause-read : goal.returns-then-begins-clause-read
unfolding token
returns-then-begins-clause-read c = one_ok (unexpected c.args.text.now) _ _ c.args.at.now _ (c.begins.ensures.within c.if-begins.true) (c.begins.ensures.yes c.if-begins.true)

pub returns-else-begins-clause-read : goal.returns-else-begins-clause-read
unfolding token
returns-else-begins-clause-read c = one_err c.args.text.now _ _ _ (c.begins.ensures.no c.if-begins.false) c.unexpected_at.ensures
