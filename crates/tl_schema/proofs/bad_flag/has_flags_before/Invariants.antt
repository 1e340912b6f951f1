use Rattle.tl_program.specs.Program.{decl_text}
use Rattle.tl_schema.specs.BadFlag.{IsFlagsBefore}
use Rattle.tl_schema.proofs.bad_flag.has_flags_before.Given as goal

abbrev pub invariant-loop-field : goal.invariant-loop-field
invariant-loop-field l = ¬ IsFlagsBefore (decl_text l.decl) l.field-index l.flags
