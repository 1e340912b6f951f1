use Rattle.std.proofs.Common.{◌≡◌, ℕ, ◌-◌, take, drop, List, [], arith, sym, ap, ◌∙◌, Option}
use Rattle.tl_lexer.proofs.Steps.{then_ok, then_err, as_err}
use Rattle.tl_program.specs.declared.built_in.BuiltIn.{BuiltIn}
use Rattle.tl_combinators.specs.Names.{name_text}
use Rattle.tl_program.specs.BuiltIns.{built_in}
use Rattle.tl_combinators.specs.Declarations.{declaration}
use Rattle.tl_combinators.proofs.EqualDescriptions.{named_as, shown_on}
use Rattle.tl_combinators.proofs.TokenParts.{taken_ok, taken_err}
use Rattle.tl_combinators.proofs.declarations.declaration_at.Goals as goal

named_by : (bytes name : List ℕ) (o p : Option BuiltIn) → bytes ≡ name → o ≡ built_in bytes → o ≡ p → built_in name ≡ p
named_by bytes name o p e f g = sym (f ∙ ap built_in e) ∙ g

pub returns-in_err-name-clause-read : goal.returns-in_err-name-clause-read
unfolding declaration
returns-in_err-name-clause-read c = as_err c.from_residual.ensures.1 (then_err _ (taken_err c.in_err-name.ensures.read))

pub returns-in-Some-clause-read : goal.returns-in-Some-clause-read
unfolding declaration
returns-in-Some-clause-read c = then_ok _ (taken_ok c.args.tokens.now c.args.at.now c.declared_name_at.new.at (omega (arith, c.in_ok-name.ensures.on)) c.in_ok-name.ensures.read) (named_as c.args.text.now c.args.function (name_text c.in_ok-name.name) _ (built_in c.in_ok-name.name.bytes) (named_by _ _ _ _ c.as_slice.ensures.value c.of.ensures c.in-Some.is) c.built_in_line_at.ensures.read)

pub returns-in-None-clause-read : goal.returns-in-None-clause-read
unfolding declaration
returns-in-None-clause-read c = then_ok _ (taken_ok c.args.tokens.now c.args.at.now c.declared_name_at.new.at (omega (arith, c.in_ok-name.ensures.on)) c.in_ok-name.ensures.read) (named_as c.args.text.now c.args.function (name_text c.in_ok-name.name) _ (built_in c.in_ok-name.name.bytes) (named_by _ _ _ _ c.as_slice.ensures.value c.of.ensures c.in-None.is) (c.combinator_at.ensures.read _ (shown_on c.args.text.now [] (take (c.declared_name_at.new.at - c.args.at.now) (drop c.args.at.now c.args.tokens.now)) c.new-described.ensures c.in_ok-show_all.ensures)))
