use Rattle.std.proofs.Common.{◌∙◌, ap, sym}
use Rattle.tl_program.specs.Program.{decl_text}
use Rattle.tl_names.specs.MeantViews.{meant_view}
use Rattle.tl_names.proofs.BuiltMeants.{view-Named}
use Rattle.tl_names.proofs.NameMeanings.{head_in_meant, no_own, own_meant}
use Rattle.tl_names.proofs.declarations.head_of.Goals as goal

pub returns-then-not-is_constructor : goal.returns-then-not-is_constructor
returns-then-not-is_constructor c =
    no_own c.args.index.now (decl_text c.args.decl.now) (sym c.is_constructor.ensures ∙ c.if-not-is_constructor.true)

pub returns-in-Named : goal.returns-in-Named
returns-in-Named c =
    let means = sym (view-Named c.in-Named.what c.in-Named.args) ∙ sym (ap meant_view c.in-Named.is) ∙ c.requires in
    c.type_meant.ensures ∙ ap (head_in_meant c.args.index.now) means ∙ own_meant c.args.index.now (decl_text c.args.decl.now) (sym c.is_constructor.ensures ∙ c.if-not-is_constructor.false)
