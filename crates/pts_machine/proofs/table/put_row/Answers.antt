use Rattle.pts_machine.proofs.RowSteps.{set_rows, insert_rows}
use Rattle.pts_machine.proofs.table.put_row.Goals as goal

pub returns-in-At-clause-rows : goal.returns-in-At-clause-rows
returns-in-At-clause-rows c = set_rows c.args.rows.now.items c.args.setting c.in-At.i (rw (c.deref.ensures.value, c.as_slice.ensures.value) at c.in-At.ensures.place)

pub returns-in-Ok-clause-rows : goal.returns-in-Ok-clause-rows
returns-in-Ok-clause-rows c = rw c.in-Ok.ensures.items (insert_rows c.args.rows.now.items c.args.setting c.in-Before.i (rw (c.deref.ensures.value, c.as_slice.ensures.value) at c.in-Before.ensures.place))
