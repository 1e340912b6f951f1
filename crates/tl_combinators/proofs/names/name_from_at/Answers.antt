use Rattle.std.proofs.Common.{rules}
use Rattle.tl_lexer.proofs.Steps.{then_ok, then_err, gives_ok, yes, no, as_err}
use Rattle.tl_combinators.specs.Names.{name_from}
use Rattle.tl_combinators.proofs.names.name_from_at.Goals as goal

pub returns-in_err-dot-clause-read : goal.returns-in_err-dot-clause-read
unfolding name_from
returns-in_err-dot-clause-read c = as_err c.from_residual-in_err-dot.ensures.1 (yes _ _ (c.is_space.ensures.yes c.if-is_space.true) (then_err _ c.in_err-dot.ensures.read))

pub returns-in_err-last-clause-read : goal.returns-in_err-last-clause-read
unfolding name_from
returns-in_err-last-clause-read c = as_err c.from_residual-in_err-last.ensures.1 (yes _ _ (c.is_space.ensures.yes c.if-is_space.true) (then_ok _ c.in_ok-dot.ensures.read (then_err _ c.in_err-last.ensures.read)))

pub returns-then-is_space-clause-read : goal.returns-then-is_space-clause-read
unfolding name_from
returns-then-is_space-clause-read c = yes _ _ (c.is_space.ensures.yes c.if-is_space.true) (then_ok _ c.in_ok-dot.ensures.read (then_ok _ c.in_ok-last.ensures.read (gives_ok (search rules))))

pub returns-clause-read : goal.returns-clause-read
unfolding name_from
returns-clause-read c = no _ _ (c.is_space.ensures.no c.if-is_space.false) (gives_ok (search rules))
