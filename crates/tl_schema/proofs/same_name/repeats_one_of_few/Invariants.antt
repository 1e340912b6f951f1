use Rattle.std.proofs.Common.{◌<◌, ℕ}
use Rattle.tl_program.specs.Program.{decl_text}
use Rattle.tl_names.specs.NameLists.{IsRepeat}
use Rattle.tl_schema.specs.SameName.{part_names}
use Rattle.tl_schema.proofs.same_name.repeats_one_of_few.Given as goal

abbrev pub invariant-loop-i : goal.invariant-loop-i
invariant-loop-i l = (k : ℕ) → k < l.i → ¬ IsRepeat (part_names (decl_text l.decl)) k
