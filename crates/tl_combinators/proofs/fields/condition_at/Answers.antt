use Rattle.std.proofs.Common.{rules}
use Rattle.tl_lexer.proofs.Steps.{then_ok, then_err, as_err, gives_ok}
use Rattle.tl_combinators.specs.Tokens.{letter_word}
use Rattle.tl_combinators.specs.Fields.{condition}
use Rattle.tl_combinators.proofs.fields.condition_at.Goals as goal

pub returns-in_err-word-clause-read : goal.returns-in_err-word-clause-read
unfolding condition letter_word
returns-in_err-word-clause-read c = as_err c.from_residual.ensures.1 (then_err _ c.in_err-word.ensures.read)

pub returns-in_err-take_token-clause-read : goal.returns-in_err-take_token-clause-read
unfolding condition letter_word
returns-in_err-take_token-clause-read c = as_err c.from_residual-in_err-take_token.ensures.1 (then_ok _ c.in_ok-word.ensures.read (then_err _ c.in_err-take_token.ensures.read))

pub returns-in_err-bit-clause-read : goal.returns-in_err-bit-clause-read
unfolding condition letter_word
returns-in_err-bit-clause-read c = as_err c.from_residual-in_err-bit.ensures.1 (then_ok _ c.in_ok-word.ensures.read (then_ok _ c.in_ok-take_token.ensures.read (then_err _ c.in_err-bit.ensures.read)))

pub returns-in_err-take_token-2-clause-read : goal.returns-in_err-take_token-2-clause-read
unfolding condition letter_word
returns-in_err-take_token-2-clause-read c = as_err c.from_residual-in_err-take_token-2.ensures.1 (then_ok _ c.in_ok-word.ensures.read (then_ok _ c.in_ok-take_token.ensures.read (then_ok _ c.in_ok-bit.ensures.read (then_err _ c.in_err-take_token-2.ensures.read))))

pub returns-clause-read : goal.returns-clause-read
unfolding condition letter_word
returns-clause-read c = then_ok _ c.in_ok-word.ensures.read (then_ok _ c.in_ok-take_token.ensures.read (then_ok _ c.in_ok-bit.ensures.read (then_ok _ c.in_ok-take_token-2.ensures.read (gives_ok (search rules)))))
