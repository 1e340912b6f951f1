use Rattle.std.proofs.Common.{rules, sym, ◌∙◌}
use Rattle.std.proofs.lemmas.Bool.{false≢true}
use Rattle.tl_lexer.proofs.Steps.{then_ok, then_err, as_err, yes, no, gives_ok, fails_here}
use Rattle.tl_combinators.specs.Tokens.{fault_of, letter_word}
use Rattle.tl_combinators.specs.Fields.{called}
use Rattle.tl_combinators.proofs.fields.called_at.Goals as goal

pub returns-then-not-function-clause-read : goal.returns-then-not-function-clause-read
unfolding called letter_word
returns-then-not-function-clause-read c = no _ _ (λ h. false≢true (sym c.if-not-function.true ∙ h)) (fails_here fault_of _ (search rules))

pub returns-in_err-take_token-clause-read : goal.returns-in_err-take_token-clause-read
unfolding called letter_word
returns-in_err-take_token-clause-read c = as_err c.from_residual.ensures.1 (yes _ _ c.if-not-function.false (then_err _ c.in_err-take_token.ensures.read))

pub returns-in_err-word-clause-read : goal.returns-in_err-word-clause-read
unfolding called letter_word
returns-in_err-word-clause-read c = as_err c.from_residual-in_err-word.ensures.1 (yes _ _ c.if-not-function.false (then_ok _ c.in_ok-take_token.ensures.read (then_err _ c.in_err-word.ensures.read)))

pub returns-clause-read : goal.returns-clause-read
unfolding called letter_word
returns-clause-read c = yes _ _ c.if-not-function.false (then_ok _ c.in_ok-take_token.ensures.read (then_ok _ c.in_ok-word.ensures.read (gives_ok (search rules))))
