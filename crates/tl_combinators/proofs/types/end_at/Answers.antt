use Rattle.tl_combinators.proofs.OneToken.{end_ok, end_err}
use Rattle.tl_combinators.proofs.types.end_at.Goals as goal

pub returns-then-at-tokens : goal.returns-then-at-tokens
returns-then-at-tokens c = end_err c.args.text.now _ c.args.at c.if-at-tokens.true c.unexpected_at.ensures

pub returns : goal.returns
returns c = end_ok c.args.text.now _ c.args.at c.if-at-tokens.false
