use Rattle.std.proofs.Common.{◌∙◌, sym}
use Rattle.tl_program.specs.Program.{decl_text}
use Rattle.tl_names.proofs.IndexSteps.{names_other, names_more}
use Rattle.tl_names.proofs.index.note_name.Goals as goal

pub returns-in_ok-note : goal.returns-in_ok-note
returns-in_ok-note c = λ ds e before.
    names_more ds (decl_text c.args.decl.now) c.args.names.now c.note.new.self c.args.at (sym c.is_constructor.ensures ∙ c.if-is_constructor.true) e (rw c.as_slice.ensures.value at c.in_ok-note.ensures.noted) before

pub returns-else-is_constructor : goal.returns-else-is_constructor
returns-else-is_constructor c = λ ds e before.
    names_other ds (decl_text c.args.decl.now) c.args.names.now (sym c.is_constructor.ensures ∙ c.if-is_constructor.false) before
