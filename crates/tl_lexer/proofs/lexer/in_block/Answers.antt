use Rattle.tl_lexer.proofs.Runs.{some_left, false_of}
use Rattle.tl_lexer.proofs.lexer.in_block.Goals as goal

pub returns-then-at-text-clause-yes : goal.returns-then-at-text-clause-yes
returns-then-at-text-clause-yes c = λ e. (some_left _ c.args.at c.if-at-text.true, c.starts.ensures.no (false_of _ e))
