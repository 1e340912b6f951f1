use Rattle.std.proofs.Common.{◌<◌}
use Rattle.tl_program.specs.Program.{decl_text}
use Rattle.tl_schema.specs.BadFlag.{HasBadCondition}
use Rattle.tl_schema.proofs.bad_flag.has_bad_condition.Given as goal

abbrev pub invariant-loop-i : goal.invariant-loop-i
invariant-loop-i l = (h : HasBadCondition (decl_text l.decl)) → h.i < l.i → ⊥
