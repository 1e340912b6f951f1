use Rattle.std.proofs.Common.{refl}
use Rattle.tl_lexer.proofs.Steps.{then_ok, then_err, as_err, yes, no, gives_ok}
use Rattle.tl_combinators.specs.Sentences.{section}
use Rattle.tl_combinators.proofs.parser.section_at.Goals as goal

pub returns-in_err-take_this-clause-read : goal.returns-in_err-take_this-clause-read
unfolding section
returns-in_err-take_this-clause-read c = as_err c.from_residual.ensures.1 (yes _ _ (rw c.as_slice.ensures at (c.begins_this.ensures.yes c.if-begins_this.true)) (then_err _ (rw c.as_slice-then-begins_this.ensures at c.in_err-take_this.ensures.read)))

pub returns-in_err-take_token-clause-read : goal.returns-in_err-take_token-clause-read
unfolding section
returns-in_err-take_token-clause-read c = as_err c.from_residual-in_err-take_token.ensures.1 (yes _ _ (rw c.as_slice.ensures at (c.begins_this.ensures.yes c.if-begins_this.true)) (then_ok _ (rw c.as_slice-then-begins_this.ensures at c.in_ok-take_this.ensures.read) (then_err _ c.in_err-take_token.ensures.read)))

pub returns-then-begins_this-clause-read : goal.returns-then-begins_this-clause-read
unfolding section
returns-then-begins_this-clause-read c = yes _ _ (rw c.as_slice.ensures at (c.begins_this.ensures.yes c.if-begins_this.true)) (then_ok _ (rw c.as_slice-then-begins_this.ensures at c.in_ok-take_this.ensures.read) (then_ok _ c.in_ok-take_token.ensures.read (gives_ok refl)))

pub returns-in_err-take_this-2-clause-read : goal.returns-in_err-take_this-2-clause-read
unfolding section
returns-in_err-take_this-2-clause-read c = as_err c.from_residual-in_err-take_this-2.ensures.1 (no _ _ (rw c.as_slice.ensures at (c.begins_this.ensures.no c.if-begins_this.false)) (then_err _ (rw c.as_slice-2.ensures at c.in_err-take_this-2.ensures.read)))

pub returns-in_err-take_token-2-clause-read : goal.returns-in_err-take_token-2-clause-read
unfolding section
returns-in_err-take_token-2-clause-read c = as_err c.from_residual-in_err-take_token-2.ensures.1 (no _ _ (rw c.as_slice.ensures at (c.begins_this.ensures.no c.if-begins_this.false)) (then_ok _ (rw c.as_slice-2.ensures at c.in_ok-take_this-2.ensures.read) (then_err _ c.in_err-take_token-2.ensures.read)))

pub returns-clause-read : goal.returns-clause-read
unfolding section
returns-clause-read c = no _ _ (rw c.as_slice.ensures at (c.begins_this.ensures.no c.if-begins_this.false)) (then_ok _ (rw c.as_slice-2.ensures at c.in_ok-take_this-2.ensures.read) (then_ok _ c.in_ok-take_token-2.ensures.read (gives_ok refl)))
