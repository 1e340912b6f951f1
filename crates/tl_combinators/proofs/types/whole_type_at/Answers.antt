use Rattle.std.proofs.Common.{drop, refl}
use Rattle.tl_lexer.proofs.Steps.{then_ok, then_err, gives_ok, yes, no, as_err, err_any}
use Rattle.tl_combinators.specs.Types.{whole_type}
use Rattle.tl_program.proofs.TreeViews.{view-AnyCall}
use Rattle.tl_program.specs.Trees.{view}
use Rattle.tl_combinators.proofs.types.whole_type_at.Goals as goal

pub returns-in_err-take_token : goal.returns-in_err-take_token
unfolding whole_type
returns-in_err-take_token c = as_err c.from_residual.ensures.1 (err_any {look = view} {other = drop c.take_token.new.at c.args.tokens.now} (yes _ _ (c.begins.ensures.yes c.if-begins.true) (then_err _ c.in_err-take_token.ensures.read)))

pub returns-in_err-end_at : goal.returns-in_err-end_at
unfolding whole_type
returns-in_err-end_at c = as_err c.from_residual-in_err-end_at.ensures.1 (yes _ _ (c.begins.ensures.yes c.if-begins.true) (then_ok _ c.in_ok-take_token.ensures.read (then_err _ c.in_err-end_at.ensures)))

pub returns-then-begins : goal.returns-then-begins
unfolding whole_type
returns-then-begins c = yes _ _ (c.begins.ensures.yes c.if-begins.true) (then_ok _ c.in_ok-take_token.ensures.read (then_ok _ c.in_ok-end_at.ensures (gives_ok view-AnyCall)))

pub returns-in_err-tree : goal.returns-in_err-tree
unfolding whole_type
returns-in_err-tree c = as_err c.from_residual-in_err-tree.ensures.1 (err_any {look = view} {other = drop c.expression_at.new.at c.args.tokens.now} (no _ _ (c.begins.ensures.no c.if-begins.false) (then_err _ c.in_err-tree.ensures.read)))

pub returns-in_err-end_at-2 : goal.returns-in_err-end_at-2
unfolding whole_type
returns-in_err-end_at-2 c = as_err c.from_residual-in_err-end_at-2.ensures.1 (no _ _ (c.begins.ensures.no c.if-begins.false) (then_ok _ c.in_ok-tree.ensures.read (then_err _ c.in_err-end_at-2.ensures)))

pub returns : goal.returns
unfolding whole_type
returns c = no _ _ (c.begins.ensures.no c.if-begins.false) (then_ok _ c.in_ok-tree.ensures.read (then_ok _ c.in_ok-end_at-2.ensures (gives_ok refl)))
