use Rattle.std.proofs.Common.{map}
use Rattle.tl_program.specs.Program.{program_text}
use Rattle.tl_schema.specs.Seen.{declaration}
use Rattle.tl_schema.proofs.DeclaredEntries.{entered}
use Rattle.tl_schema.proofs.checks.declare.Goals as goal

pub schema_of-requires : goal.schema_of-requires
schema_of-requires c =
    entered (program_text c.args.program.now) (record { program = c.args.index; decls = map declaration c.in_ok-entered.entered.entries.items }) c.in_ok-entered.entered.known c.in_ok-numbers.numbers.entries c.args.marks.items
    c.requires.same c.requires.limits c.requires.passes c.in_ok-entered.ensures c.in_ok-numbers.ensures c.requires.empty
