use Rattle.tl_lexer.proofs.Steps.{one_ok}
use Rattle.tl_combinators.specs.Tokens.{unexpected}
use Rattle.tl_combinators.proofs.OneToken.{one_err}
use Rattle.tl_combinators.proofs.reading.take_word.Goals as goal

pub returns-then-begins_word-clause-read : goal.returns-then-begins_word-clause-read
returns-then-begins_word-clause-read c = one_ok (unexpected c.args.text.now) _ _ c.args.at.now _ (c.begins_word.ensures.within c.if-begins_word.true) (c.begins_word.ensures.yes c.if-begins_word.true)

pub returns-else-begins_word-clause-read : goal.returns-else-begins_word-clause-read
returns-else-begins_word-clause-read c = one_err c.args.text.now _ _ _ (c.begins_word.ensures.no c.if-begins_word.false) c.unexpected_at.ensures
