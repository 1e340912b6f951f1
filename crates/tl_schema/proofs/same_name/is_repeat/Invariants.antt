use Rattle.std.proofs.Common.{◌≡◌, ◌<◌, ℕ, Some, slice_get}
use Rattle.tl_program.specs.Program.{decl_text}
use Rattle.tl_schema.specs.SameName.{part_names}
use Rattle.tl_schema.proofs.same_name.is_repeat.Given as goal

abbrev pub invariant-loop-j : goal.invariant-loop-j
invariant-loop-j l = (k : ℕ) → k < l.j → ¬ (slice_get (part_names (decl_text l.decl)) k ≡ Some l.name)
