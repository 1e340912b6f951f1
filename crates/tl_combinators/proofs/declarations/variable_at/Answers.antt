use Rattle.std.proofs.Common.{rules}
use Rattle.tl_lexer.proofs.Steps.{then_ok, then_err, as_err, gives_ok}
use Rattle.tl_combinators.specs.Tokens.{letter_word}
use Rattle.tl_combinators.specs.Declarations.{variable}
use Rattle.tl_combinators.proofs.declarations.variable_at.Goals as goal

pub returns-in_err-take_token-clause-read : goal.returns-in_err-take_token-clause-read
unfolding variable letter_word
returns-in_err-take_token-clause-read c = as_err c.from_residual.ensures.1 (then_err _ c.in_err-take_token.ensures.read)

pub returns-in_err-word-clause-read : goal.returns-in_err-word-clause-read
unfolding variable letter_word
returns-in_err-word-clause-read c = as_err c.from_residual-in_err-word.ensures.1 (then_ok _ c.in_ok-take_token.ensures.read (then_err _ c.in_err-word.ensures.read))

pub returns-in_err-take_token-2-clause-read : goal.returns-in_err-take_token-2-clause-read
unfolding variable letter_word
returns-in_err-take_token-2-clause-read c = as_err c.from_residual-in_err-take_token-2.ensures.1 (then_ok _ c.in_ok-take_token.ensures.read (then_ok _ c.in_ok-word.ensures.read (then_err _ c.in_err-take_token-2.ensures.read)))

pub returns-in_err-sort_at-clause-read : goal.returns-in_err-sort_at-clause-read
unfolding variable letter_word
returns-in_err-sort_at-clause-read c = as_err c.from_residual-in_err-sort_at.ensures.1 (then_ok _ c.in_ok-take_token.ensures.read (then_ok _ c.in_ok-word.ensures.read (then_ok _ c.in_ok-take_token-2.ensures.read (then_err _ c.in_err-sort_at.ensures.read))))

pub returns-in_err-take_token-3-clause-read : goal.returns-in_err-take_token-3-clause-read
unfolding variable letter_word
returns-in_err-take_token-3-clause-read c = as_err c.from_residual-in_err-take_token-3.ensures.1 (then_ok _ c.in_ok-take_token.ensures.read (then_ok _ c.in_ok-word.ensures.read (then_ok _ c.in_ok-take_token-2.ensures.read (then_ok _ c.in_ok-sort_at.ensures.read (then_err _ c.in_err-take_token-3.ensures.read)))))

pub returns-clause-read : goal.returns-clause-read
unfolding variable letter_word
returns-clause-read c = then_ok _ c.in_ok-take_token.ensures.read (then_ok _ c.in_ok-word.ensures.read (then_ok _ c.in_ok-take_token-2.ensures.read (then_ok _ c.in_ok-sort_at.ensures.read (then_ok _ c.in_ok-take_token-3.ensures.read (gives_ok (search rules))))))
