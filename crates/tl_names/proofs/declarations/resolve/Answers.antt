use Rattle.tl_program.specs.Program.{decl_text, program_text}
use Rattle.tl_names.specs.MeantDecls.{meant_decl}
use Rattle.tl_names.specs.MeantViews.{decl_view}
use Rattle.tl_names.proofs.Maps.{slice_get_item}
use Rattle.tl_names.proofs.FewParts.{few_parts_at}
use Rattle.tl_names.proofs.MadeLists.{made_more}
use Rattle.tl_names.proofs.declarations.resolve.Goals as goal

pub meant_decl-requires : goal.meant_decl-requires
meant_decl-requires c =
    let at = slice_get_item decl_text c.args.program.now.decls.items c.loop-decl.decl-index c.decl-item.result (rw c.deref-decl-items.ensures.value at c.loop-decl-test.true) (rw c.deref-decl-items.ensures.value at c.decl-item.is) in
    few_parts_at (program_text c.args.program.now) c.requires.parts c.loop-decl.decl-index (decl_text c.decl-item.result) at

pub loop-decl-preserved : goal.loop-decl-preserved
loop-decl-preserved c =
    let at = slice_get_item decl_text c.args.program.now.decls.items c.loop-decl.decl-index c.decl-item.result (rw c.deref-decl-items.ensures.value at c.loop-decl-test.true) (rw c.deref-decl-items.ensures.value at c.decl-item.is) in
    rw c.in_ok-push.ensures.items
    (made_more decl_view (meant_decl c.args.index.now) c.loop-decl.meant.items (program_text c.args.program.now) c.loop-decl.decl-index c.loop-decl.invariant c.in_ok-meant_decl.field-0 (decl_text c.decl-item.result) at c.in_ok-meant_decl.ensures)
