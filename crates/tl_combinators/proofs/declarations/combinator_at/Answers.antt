use Rattle.std.proofs.Common.{◌-◌, take, drop, ◌++◌, rules, arith}
use Rattle.tl_lexer.proofs.Steps.{then_ok, then_err, as_err, gives_ok}
use Rattle.tl_combinators.specs.Declarations.{combinator}
use Rattle.tl_combinators.specs.Description.{left_out}
use Rattle.tl_combinators.proofs.EqualDescriptions.{fields_as, shown_on, left_on}
use Rattle.tl_combinators.proofs.DescribedRule.{description_ok}
use Rattle.tl_combinators.proofs.TokenParts.{taken_ok, taken_err}
use Rattle.tl_combinators.proofs.declarations.combinator_at.Goals as goal

pub returns-in_err-number-clause-read : goal.returns-in_err-number-clause-read
unfolding combinator
returns-in_err-number-clause-read c = λ ps e.
    as_err c.from_residual.ensures.1 (then_err _ (taken_err c.in_err-number.ensures.read))

pub returns-in_err-vars-clause-read : goal.returns-in_err-vars-clause-read
unfolding combinator
returns-in_err-vars-clause-read c = λ ps e.
    as_err c.from_residual-in_err-vars.ensures.1 (then_ok _ (taken_ok c.args.tokens.now c.args.at.now c.number_at.new.at c.in_ok-number.ensures.on c.in_ok-number.ensures.read) (then_err _ (taken_err c.in_err-vars.ensures.read)))

pub returns-in_err-fields-clause-read : goal.returns-in_err-fields-clause-read
unfolding combinator
returns-in_err-fields-clause-read c = λ ps e.
    let ts = take (c.number_at.new.at - c.args.at.now) (drop c.args.at.now c.args.tokens.now) in
    let us = take (c.variables_at.new.at - c.number_at.new.at) (drop c.number_at.new.at c.args.tokens.now) in
    let f = c.in_err-fields.ensures.read _ (shown_on c.args.text.now (ps ++ left_out ts) us (left_on ps ts e c.leave_all_out.ensures) c.in_ok-show_all.ensures) in
    as_err c.from_residual-in_err-fields.ensures.1 (then_ok _ (taken_ok c.args.tokens.now c.args.at.now c.number_at.new.at c.in_ok-number.ensures.on c.in_ok-number.ensures.read) (then_ok _ (taken_ok c.args.tokens.now c.number_at.new.at c.variables_at.new.at c.in_ok-vars.ensures.on c.in_ok-vars.ensures.read) (then_err _ (fields_as c.args.text.now c.args.function _ (omega (arith, c.len.ensures, c.in_ok-vars.vars.ok.0)) f.read))))

pub returns-in_err-result-clause-read : goal.returns-in_err-result-clause-read
unfolding combinator
returns-in_err-result-clause-read c = λ ps e.
    let ts = take (c.number_at.new.at - c.args.at.now) (drop c.args.at.now c.args.tokens.now) in
    let us = take (c.variables_at.new.at - c.number_at.new.at) (drop c.number_at.new.at c.args.tokens.now) in
    let f = c.in_ok-fields.ensures.read _ (shown_on c.args.text.now (ps ++ left_out ts) us (left_on ps ts e c.leave_all_out.ensures) c.in_ok-show_all.ensures) in
    as_err c.from_residual-in_err-result.ensures.1 (then_ok _ (taken_ok c.args.tokens.now c.args.at.now c.number_at.new.at c.in_ok-number.ensures.on c.in_ok-number.ensures.read) (then_ok _ (taken_ok c.args.tokens.now c.number_at.new.at c.variables_at.new.at c.in_ok-vars.ensures.on c.in_ok-vars.ensures.read) (then_ok _ (fields_as c.args.text.now c.args.function _ (omega (arith, c.len.ensures, c.in_ok-vars.vars.ok.0)) f.read) (then_err _ (taken_err c.in_err-result.ensures.read)))))

pub returns-in_err-take_token-clause-read : goal.returns-in_err-take_token-clause-read
unfolding combinator
returns-in_err-take_token-clause-read c = λ ps e.
    let ts = take (c.number_at.new.at - c.args.at.now) (drop c.args.at.now c.args.tokens.now) in
    let us = take (c.variables_at.new.at - c.number_at.new.at) (drop c.number_at.new.at c.args.tokens.now) in
    let f = c.in_ok-fields.ensures.read _ (shown_on c.args.text.now (ps ++ left_out ts) us (left_on ps ts e c.leave_all_out.ensures) c.in_ok-show_all.ensures) in
    as_err c.from_residual-in_err-take_token.ensures.1 (then_ok _ (taken_ok c.args.tokens.now c.args.at.now c.number_at.new.at c.in_ok-number.ensures.on c.in_ok-number.ensures.read) (then_ok _ (taken_ok c.args.tokens.now c.number_at.new.at c.variables_at.new.at c.in_ok-vars.ensures.on c.in_ok-vars.ensures.read) (then_ok _ (fields_as c.args.text.now c.args.function _ (omega (arith, c.len.ensures, c.in_ok-vars.vars.ok.0)) f.read) (then_ok _ (taken_ok c.args.tokens.now c.fields_at.new.at c.result_type_at.new.at (omega (arith, c.in_ok-result.ensures.on)) c.in_ok-result.ensures.read) (then_err _ c.in_err-take_token.ensures.read)))))

pub returns-clause-read : goal.returns-clause-read
unfolding combinator
returns-clause-read c = λ ps e.
    let ts = take (c.number_at.new.at - c.args.at.now) (drop c.args.at.now c.args.tokens.now) in
    let us = take (c.variables_at.new.at - c.number_at.new.at) (drop c.number_at.new.at c.args.tokens.now) in
    let f = c.in_ok-fields.ensures.read _ (shown_on c.args.text.now (ps ++ left_out ts) us (left_on ps ts e c.leave_all_out.ensures) c.in_ok-show_all.ensures) in
    then_ok _ (taken_ok c.args.tokens.now c.args.at.now c.number_at.new.at c.in_ok-number.ensures.on c.in_ok-number.ensures.read) (then_ok _ (taken_ok c.args.tokens.now c.number_at.new.at c.variables_at.new.at c.in_ok-vars.ensures.on c.in_ok-vars.ensures.read) (then_ok _ (fields_as c.args.text.now c.args.function _ (omega (arith, c.len.ensures, c.in_ok-vars.vars.ok.0)) f.read) (then_ok _ (taken_ok c.args.tokens.now c.fields_at.new.at c.result_type_at.new.at (omega (arith, c.in_ok-result.ensures.on)) c.in_ok-result.ensures.read) (then_ok _ c.in_ok-take_token.ensures.read (then_ok _ (description_ok _ _ c.into_bytes.result _ (shown_on c.args.text.now f.all (take (c.result_type_at.new.at - c.fields_at.new.at) (drop c.fields_at.new.at c.args.tokens.now)) f.described c.in_ok-show_all-2.ensures) c.into_bytes.ensures) (gives_ok (search rules)))))))
