use Rattle.std.proofs.Common.{◌≡◌, ◌∙◌, length, map, arith}
use Rattle.tl_program.specs.Trees.{view}
use Rattle.tl_program.specs.Program.{decl_text}
use Rattle.tl_names.specs.MeantDecls.{meant_field}
use Rattle.tl_names.specs.MeantViews.{field_view}
use Rattle.tl_names.proofs.ResolvedNames.{decl_same, fields_same, type_same}
use Rattle.tl_names.proofs.declarations.meant_decl.Goals as goal

pub head_of-requires : goal.head_of-requires
head_of-requires c =
    c.in_ok-result.ensures ∙ type_same c.args.index.now (decl_text c.args.decl.now) c.in_ok-vars.vars (rw c.deref.ensures.value at c.in_ok-vars.ensures) (view c.args.decl.now.result)

pub returns : goal.returns
returns c =
    let d = decl_text c.args.decl.now in
    let numbers = rw c.deref.ensures.value at c.in_ok-vars.ensures in
    let vars : c.len.result ≡ length d.vars = omega (arith, c.len.ensures, c.args.decl.now.vars.ok.0) in
    let fields : map field_view c.in_ok-meant_fields.field-0.items ≡ map (meant_field c.args.index.now d) d.fields = (rw c.deref-2.ensures.value at c.in_ok-meant_fields.ensures) ∙ fields_same c.args.index.now d c.in_ok-vars.vars numbers in
    decl_same c.args.index.now d vars fields (c.in_ok-result.ensures ∙ type_same c.args.index.now d c.in_ok-vars.vars numbers (view c.args.decl.now.result)) c.head_of.ensures
