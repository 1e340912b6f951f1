use Rattle.std.proofs.Common.{◌∙◌, not, rules, tests}
use Rattle.std.specs.List.{list_any}
use Rattle.std.proofs.lemmas.Iterator.{YieldsList-from_slice}
use Rattle.std.proofs.lemmas.Iterator.Search.{any_from_yields_List}
use Rattle.tl_program.specs.declared.program.Field.{Field}
use Rattle.tl_program.specs.Program.{decl_text, kind_text}
use Rattle.tl_names.specs.Writing.{is_variable}
use Rattle.tl_schema.specs.UnknownVariable.{called_by}
use Rattle.tl_schema.proofs.Calls.{any_call_passes}
use Rattle.tl_schema.proofs.unknown_variable.calls_another.Goals as goal

pub returns : goal.returns
returns c =
    let fields = c.args.decl.now.fields.items in
    any_from_yields_List (λ (f : Field). list_any (λ name. not (is_variable (decl_text c.args.decl.now) name)) (called_by (kind_text f.kind))) _ _ _ c.any.ensures.ran (YieldsList-from_slice fields cc) (λ x b q k. search (rules, tests)) ∙ any_call_passes (λ name. not (is_variable (decl_text c.args.decl.now) name)) fields
