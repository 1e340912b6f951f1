use Rattle.std.proofs.Common.{arith}
use Rattle.tl_lexer.specs.declared.token.TokenKind.TheVariants.{Word}
use Rattle.tl_combinators.specs.DescriptionSoFar.{shown_as_string}
use Rattle.tl_combinators.proofs.TokenParts.{fold_more}
use Rattle.tl_combinators.proofs.description.Description.show_all_as_string.Goals as goal

pub loop-i-preserved : goal.loop-i-preserved
loop-i-preserved c =
    fold_more (shown_as_string c.args.text.now) c.args.self.now c.args.tokens.now c.args.from c.loop-i.i (record { kind = Word; start = 0; end = 0 }) _ _ c.loop-i.auto.i (omega (arith, c.requires.within, c.loop-i-test.true)) c.loop-i.invariant c.in_ok-show_as_string.ensures
