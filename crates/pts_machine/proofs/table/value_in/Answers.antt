use Rattle.std.proofs.Common.{Some, sym, ap, ◌∙◌}
use Rattle.pts_machine.proofs.SortedRows.{value_found, value_missed}
use Rattle.pts_machine.proofs.table.value_in.Goals as goal

pub returns-in-At : goal.returns-in-At
returns-in-At c = value_found c.args.rows.now c.args.key.now _ c.in-At.ensures.place c.index-rows-i.result ∙ ap Some (sym c.as_slice.ensures.value)

pub returns-in-Before : goal.returns-in-Before
returns-in-Before c = value_missed c.args.rows.now c.args.key.now _ c.requires.sorted c.in-Before.ensures.place
