use Rattle.std.proofs.Common.{true≢false, sym, ◌∙◌}
use Rattle.tl_schema.proofs.Results.{never_plain}
use Rattle.tl_schema.proofs.bad_result.is_name.Goals as goal

pub returns-else-is_empty : goal.returns-else-is_empty
returns-else-is_empty c = (
  λ e. absurd (true≢false (sym e ∙ c.if-is_empty.false)),
  λ e. absurd (never_plain c.args.tree.now c.in-Named.head c.args.name.now c.in-Named.args c.in-Named.is c.if-is_empty.ensures e),
)
