use Rattle.std.proofs.Common.{◌≡◌, map, take}
use Rattle.clap.specs.Words.{app_of}
use Rattle.commands.specs.CommandLine.{program, row_text, with_rows}
use Rattle.commands.proofs.table.table_of.Given as goal

abbrev pub invariant-loop-row : goal.invariant-loop-row
invariant-loop-row l = app_of l.program ≡ with_rows program (map row_text (take l.row-index l.row-items))
