use Rattle.std.proofs.Common.{◌≡◌, ◌++◌, drop, map, false}
use Rattle.tl_program.specs.Program.{decl_text}
use Rattle.tl_print.specs.Written.{written_program}
use Rattle.tl_print.proofs.printing.put_program.Given as goal

abbrev pub invariant-loop-decl : goal.invariant-loop-decl
invariant-loop-decl l =
    l.out.items ++ written_program l.function (map decl_text (drop l.decl-index l.decl-items)) ≡ l.fn.out.items ++ written_program false (map decl_text l.decl-items)
