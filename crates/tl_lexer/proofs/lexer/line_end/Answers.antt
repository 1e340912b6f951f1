use Rattle.std.proofs.Common.{arith, refl}
use Rattle.tl_lexer.proofs.Turns.{loop_ok}
use Rattle.tl_lexer.specs.Tokens.{bytes_while}
use Rattle.tl_lexer.proofs.Runs.{run_more}
use Rattle.tl_lexer.proofs.lexer.line_end.Goals as goal

pub loop-at-preserved : goal.loop-at-preserved
loop-at-preserved c = record {
  far = omega arith;
  inside = omega (arith, c.in_line.ensures.within c.loop-at-test.true);
  came = run_more _ _ _ _ c.loop-at.at (c.in_line.ensures.within c.loop-at-test.true) c.loop-at.invariant.came (c.in_line.ensures.yes c.loop-at-test.true);
}

pub returns-clause-read : goal.returns-clause-read
unfolding bytes_while
returns-clause-read c = loop_ok c.loop-at.invariant.came (c.in_line.ensures.no c.loop-at-test.false) refl
