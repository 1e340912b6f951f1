use Rattle.std.proofs.Common.{rules}
use Rattle.tl_lexer.proofs.Steps.{of_next}
use Rattle.tl_combinators.specs.Names.{IsHex}
use Rattle.tl_combinators.proofs.OneToken.{no_next}
use Rattle.tl_combinators.proofs.Digits.{hex_ok, hex_err}
use Rattle.tl_combinators.proofs.numbers.hex_at.Goals as goal

pub returns-then-at-tokens-clause-read : goal.returns-then-at-tokens-clause-read
returns-then-at-tokens-clause-read c = hex_err c.args.text.now c.args.edge _ _ (no_next (IsHex c.args.text.now c.args.edge) _ c.args.at.now c.if-at-tokens.true) c.unexpected_at.ensures

pub returns-in-Some-clause-read : goal.returns-in-Some-clause-read
returns-in-Some-clause-read c = hex_ok c.args.text.now c.args.edge _ _ c.args.at.now _ (search rules) c.in-Some.ensures.some.0 c.in-Some.ensures.some.1

pub returns-in-None-clause-read : goal.returns-in-None-clause-read
returns-in-None-clause-read c = hex_err c.args.text.now c.args.edge _ _ (λ q. c.in-None.ensures.none (of_next (IsHex c.args.text.now c.args.edge) _ c.args.at.now _ (search rules) q)) c.unexpected_at-in-None.ensures
