use Rattle.tl_lexer.proofs.Steps.{one_ok}
use Rattle.tl_combinators.specs.Tokens.{unexpected}
use Rattle.tl_combinators.proofs.OneToken.{one_err}
use Rattle.tl_combinators.proofs.names.last_at.Goals as goal

pub returns-then-begins_last-clause-read : goal.returns-then-begins_last-clause-read
returns-then-begins_last-clause-read c = one_ok (unexpected c.args.text.now) _ _ c.args.at.now _ (c.begins_last.ensures.within c.if-begins_last.true) (c.begins_last.ensures.yes c.if-begins_last.true)

pub returns-else-begins_last-clause-read : goal.returns-else-begins_last-clause-read
returns-else-begins_last-clause-read c = one_err c.args.text.now _ _ _ (c.begins_last.ensures.no c.if-begins_last.false) c.unexpected_at.ensures
