use Rattle.std.proofs.Common.{refl}
use Rattle.tl_lexer.proofs.Steps.{then_ok, then_err, gives_ok, yes, no, as_err}
use Rattle.tl_combinators.specs.Names.{number_by, number}
use Rattle.tl_combinators.proofs.numbers.number_at.Goals as goal

pub returns-in_err-hash-clause-read : goal.returns-in_err-hash-clause-read
unfolding number number_by
returns-in_err-hash-clause-read c = as_err c.from_residual.ensures.1 (yes _ _ (c.begins_at.ensures.yes c.if-begins_at.true) (then_err _ c.in_err-hash.ensures.read))

pub returns-in_err-number-clause-read : goal.returns-in_err-number-clause-read
unfolding number number_by
returns-in_err-number-clause-read c = as_err c.from_residual-in_err-number.ensures.1 (yes _ _ (c.begins_at.ensures.yes c.if-begins_at.true) (then_ok _ c.in_ok-hash.ensures.read (then_err _ c.in_err-number.ensures.read)))

pub returns-then-begins_at-clause-read : goal.returns-then-begins_at-clause-read
unfolding number number_by
returns-then-begins_at-clause-read c = yes _ _ (c.begins_at.ensures.yes c.if-begins_at.true) (then_ok _ c.in_ok-hash.ensures.read (then_ok _ c.in_ok-number.ensures.read (gives_ok refl)))

pub returns-clause-read : goal.returns-clause-read
unfolding number number_by
returns-clause-read c = no _ _ (c.begins_at.ensures.no c.if-begins_at.false) (gives_ok refl)
