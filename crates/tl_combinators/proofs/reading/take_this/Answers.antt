use Rattle.tl_lexer.proofs.Steps.{one_ok}
use Rattle.tl_combinators.specs.Tokens.{unexpected, this_word}
use Rattle.tl_combinators.proofs.OneToken.{one_err}
use Rattle.tl_combinators.proofs.reading.take_this.Goals as goal

pub returns-then-begins_this-clause-read : goal.returns-then-begins_this-clause-read
unfolding this_word
returns-then-begins_this-clause-read c = one_ok (unexpected c.args.text.now) _ _ c.args.at.now _ (c.begins_this.ensures.within c.if-begins_this.true) (c.begins_this.ensures.yes c.if-begins_this.true)

pub returns-else-begins_this-clause-read : goal.returns-else-begins_this-clause-read
unfolding this_word
returns-else-begins_this-clause-read c = one_err c.args.text.now _ _ _ (c.begins_this.ensures.no c.if-begins_this.false) c.unexpected_at.ensures
