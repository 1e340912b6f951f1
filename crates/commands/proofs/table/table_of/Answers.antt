use Rattle.std.proofs.Common.{rules}
use Rattle.clap.specs.Words.{app_of}
use Rattle.commands.proofs.RowsTold.{one_more_row}
use Rattle.commands.proofs.table.table_of.Goals as goal

pub loop-row-preserved : goal.loop-row-preserved
loop-row-preserved c =
    one_more_row c.rows-row-items.result.now c.loop-row.row-index _ (app_of c.loop-row.program) (app_of c.in_ok-program.program) (app_of c.in_ok-row_of.field-0)
    (search rules) c.in_ok-row_of.ensures.row c.loop-row.invariant (c.in_ok-program.ensures.shape c.in_ok-row_of.ensures.local)
