use Rattle.std.proofs.Common.{ap, ◌∙◌, map}
use Rattle.tl_lexer.proofs.Steps.{then_ok, then_err, gives_ok, as_err}
use Rattle.tl_combinators.specs.BuiltInLines.{built_in_line}
use Rattle.tl_program.specs.Trees.{plain}
use Rattle.tl_program.specs.Program.{field_text}
use Rattle.tl_combinators.proofs.BuiltInLines.{line_is}
use Rattle.tl_program.proofs.TreeViews.{view-plain}
use Rattle.tl_combinators.proofs.built_in.built_in_line_at.Goals as goal

pub returns-in_err-number-clause-read : goal.returns-in_err-number-clause-read
unfolding built_in_line
returns-in_err-number-clause-read c = as_err c.from_residual.ensures.1 (then_err _ c.in_err-number.ensures.read)

pub returns-in_err-line_at-clause-read : goal.returns-in_err-line_at-clause-read
unfolding built_in_line
returns-in_err-line_at-clause-read c = as_err c.from_residual-in_err-line_at.ensures.1 (then_ok _ c.in_ok-number.ensures.read (then_err _ c.in_err-line_at.ensures.read))

pub returns-clause-read : goal.returns-clause-read
unfolding built_in_line
returns-clause-read c = then_ok _ c.in_ok-number.ensures.read (then_ok _ c.in_ok-line_at.ensures.read (gives_ok (line_is c.args.line _ _ _ _ _ _ c.requires.named c.new.ensures.items (ap (map field_text) c.new-2.ensures.items) (view-plain _ _ c.new-3.ensures.items ∙ ap plain (c.in_ok-result_name.ensures ∙ c.boxed_name.ensures)) c.new-4.ensures)))
