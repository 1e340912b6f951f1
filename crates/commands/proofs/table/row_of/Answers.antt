use Rattle.std.proofs.Common.{rules}
use Rattle.clap.specs.Words.{app_of, rule_of}
use Rattle.commands.proofs.RowsTold.{one_more}
use Rattle.commands.proofs.table.row_of.Goals as goal

pub loop-operand-preserved : goal.loop-operand-preserved
loop-operand-preserved c = (
  one_more c.args.command.now c.args.operands.now c.loop-operand.operand-index c.new.result.id _ (app_of c.loop-operand.row) (app_of c.in_ok-row.row) (rule_of c.required.result)
      (search rules) c.new.ensures.id (search rules) c.loop-operand.invariant.0 (c.in_ok-row.ensures.shape (search rules)),
  search rules,
)
