use Rattle.std.proofs.Common.{refl}
use Rattle.tl_lexer.proofs.Steps.{then_ok, then_err, as_err, yes, no, gives_ok}
use Rattle.tl_combinators.specs.Fields.{held}
use Rattle.tl_combinators.proofs.fields.held_at.Goals as goal

pub returns-in_err-take_token-clause-read : goal.returns-in_err-take_token-clause-read
unfolding held
returns-in_err-take_token-clause-read c = as_err c.from_residual.ensures.1 (yes _ _ (c.begins.ensures.yes c.if-begins.true) (then_err _ c.in_err-take_token.ensures.read))

pub returns-then-begins-clause-read : goal.returns-then-begins-clause-read
unfolding held
returns-then-begins-clause-read c = yes _ _ (c.begins.ensures.yes c.if-begins.true) (then_ok _ c.in_ok-take_token.ensures.read (gives_ok refl))

pub returns-then-begins-2-clause-read : goal.returns-then-begins-2-clause-read
unfolding held
returns-then-begins-2-clause-read c = no _ _ (c.begins.ensures.no c.if-begins.false) (yes _ _ (c.begins-2.ensures.yes c.if-begins-2.true) (c.called_at.ensures.read))

pub returns-then-begins_condition-clause-read : goal.returns-then-begins_condition-clause-read
unfolding held
returns-then-begins_condition-clause-read c = no _ _ (c.begins.ensures.no c.if-begins.false) (no _ _ (c.begins-2.ensures.no c.if-begins-2.false) (yes _ _ (c.begins_condition.ensures.yes c.if-begins_condition.true) (c.in_condition_at.ensures.read)))

pub returns-in_err-tree-clause-read : goal.returns-in_err-tree-clause-read
unfolding held
returns-in_err-tree-clause-read c = as_err c.from_residual-in_err-tree.ensures.1 (no _ _ (c.begins.ensures.no c.if-begins.false) (no _ _ (c.begins-2.ensures.no c.if-begins-2.false) (no _ _ (c.begins_condition.ensures.no c.if-begins_condition.false) (then_err _ c.in_err-tree.ensures.read))))

pub returns-clause-read : goal.returns-clause-read
unfolding held
returns-clause-read c = no _ _ (c.begins.ensures.no c.if-begins.false) (no _ _ (c.begins-2.ensures.no c.if-begins-2.false) (no _ _ (c.begins_condition.ensures.no c.if-begins_condition.false) (then_ok _ c.in_ok-tree.ensures.read (gives_ok refl))))
