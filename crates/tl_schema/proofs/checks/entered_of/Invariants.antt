use Rattle.std.proofs.Common.{map}
use Rattle.tl_program.specs.Program.{program_text}
use Rattle.tl_schema.specs.Seen.{declaration}
use Rattle.tl_schema.specs.inner.NamesNoted.{Enters}
use Rattle.tl_schema.proofs.checks.entered_of.Given as goal

abbrev pub invariant-loop-at : goal.invariant-loop-at
invariant-loop-at l = Enters (program_text l.program) l.at (map declaration l.entered.entries.items) l.entered.known
