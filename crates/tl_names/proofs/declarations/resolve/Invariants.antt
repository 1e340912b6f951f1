use Rattle.std.proofs.Common.{◌≡◌, map, take}
use Rattle.tl_program.specs.Program.{program_text}
use Rattle.tl_names.specs.MeantDecls.{meant_decl}
use Rattle.tl_names.specs.MeantViews.{decl_view}
use Rattle.tl_names.proofs.declarations.resolve.Given as goal

abbrev pub invariant-loop-decl : goal.invariant-loop-decl
invariant-loop-decl l = map decl_view l.meant.items ≡ map (meant_decl l.index) (take l.decl-index (program_text l.program))
