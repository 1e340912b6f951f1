use Rattle.std.proofs.Common.{◌∙◌, sym}
use Rattle.tl_program.specs.Program.{decl_text}
use Rattle.tl_schema.proofs.Results.{bad_result, no_bad_result}
use Rattle.tl_schema.proofs.bad_result.OtherResultDeclTest.passes.Goals as goal

pub returns-then-not-is_constructor : goal.returns-then-not-is_constructor
returns-then-not-is_constructor c = λ same. no_bad_result (decl_text c.args.decl.now) (sym c.is_constructor.ensures ∙ c.if-not-is_constructor.true)

pub returns : goal.returns
returns c = λ same.
    bad_result (decl_text c.args.decl.now) c.is_good_result.result (sym c.is_constructor.ensures ∙ c.if-not-is_constructor.false) c.is_good_result.ensures
