-- A table's fields as a table. This project's own.
use Rattle.std.specs.Prelude.{◌-◌, vec_len, vec_capacity}
use Rattle.pts_machine.specs.declared.table.Table.TheInside.{Inside}
use Rattle.pts_machine.specs.Rows.{values_of}
use Rattle.pts_machine.specs.Tables.{TableView}

-- the rows as values, and the room after them
abbrev pub view_of : Inside → TableView
view_of a = record { values = values_of a.rows.items; spare = vec_capacity a.rows - vec_len a.rows }
