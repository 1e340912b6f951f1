use Rattle.std.proofs.Common.{rules}
use Rattle.tl_lexer.proofs.Steps.{then_ok, then_err, as_err, yes, no, gives_ok, fails_here}
use Rattle.tl_combinators.specs.Tokens.{fault_of, letter_word}
use Rattle.tl_combinators.specs.Fields.{field, where_field}
use Rattle.tl_combinators.proofs.fields.field_at.Goals as goal

pub returns-then-begins_multiplicity-clause-read : goal.returns-then-begins_multiplicity-clause-read
unfolding field where_field letter_word
returns-then-begins_multiplicity-clause-read c = yes _ _ (c.begins_multiplicity.ensures.yes c.if-begins_multiplicity.true) (fails_here fault_of _ (search rules))

pub returns-then-begins_unnamed-clause-read : goal.returns-then-begins_unnamed-clause-read
unfolding field where_field letter_word
returns-then-begins_unnamed-clause-read c = no _ _ (c.begins_multiplicity.ensures.no c.if-begins_multiplicity.false) (yes _ _ (c.begins_unnamed.ensures.yes c.if-begins_unnamed.true) (fails_here fault_of _ (search rules)))

pub returns-in_err-word-clause-read : goal.returns-in_err-word-clause-read
unfolding field where_field letter_word
returns-in_err-word-clause-read c = as_err c.from_residual.ensures.1 (no _ _ (c.begins_multiplicity.ensures.no c.if-begins_multiplicity.false) (no _ _ (c.begins_unnamed.ensures.no c.if-begins_unnamed.false) (then_err _ c.in_err-word.ensures.read)))

pub returns-in_err-take_token-clause-read : goal.returns-in_err-take_token-clause-read
unfolding field where_field letter_word
returns-in_err-take_token-clause-read c = as_err c.from_residual-in_err-take_token.ensures.1 (no _ _ (c.begins_multiplicity.ensures.no c.if-begins_multiplicity.false) (no _ _ (c.begins_unnamed.ensures.no c.if-begins_unnamed.false) (then_ok _ c.in_ok-word.ensures.read (then_err _ c.in_err-take_token.ensures.read))))

pub returns-in_err-cond-clause-read : goal.returns-in_err-cond-clause-read
unfolding field where_field letter_word
returns-in_err-cond-clause-read c = as_err c.from_residual-in_err-cond.ensures.1 (no _ _ (c.begins_multiplicity.ensures.no c.if-begins_multiplicity.false) (no _ _ (c.begins_unnamed.ensures.no c.if-begins_unnamed.false) (then_ok _ c.in_ok-word.ensures.read (then_ok _ c.in_ok-take_token.ensures.read (then_err _ c.in_err-cond.ensures.read)))))

pub returns-clause-read : goal.returns-clause-read
unfolding field where_field letter_word
returns-clause-read c = no _ _ (c.begins_multiplicity.ensures.no c.if-begins_multiplicity.false) (no _ _ (c.begins_unnamed.ensures.no c.if-begins_unnamed.false) (then_ok _ c.in_ok-word.ensures.read (then_ok _ c.in_ok-take_token.ensures.read (then_ok _ c.in_ok-cond.ensures.read (gives_ok (search rules))))))
