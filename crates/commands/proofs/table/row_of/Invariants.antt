use Rattle.std.proofs.Common.{◌≡◌, map, take, false}
use Rattle.clap.specs.Words.{app_of}
use Rattle.clap.specs.declared.builder.command.Command.TheViews.{out-Command as fields_of}
use Rattle.commands.specs.CommandLine.{row}
use Rattle.commands.proofs.table.row_of.Given as goal

abbrev pub invariant-loop-operand : goal.invariant-loop-operand
invariant-loop-operand l =
    (app_of l.row ≡ row l.fn.command (map (λ s. s.now) (take l.operand-index l.operands))) × ((fields_of l.row).has_globals ≡ false)
