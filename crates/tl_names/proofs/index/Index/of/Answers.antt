use Rattle.std.proofs.Common.{◌≤◌, length, take, arith}
use Rattle.std.proofs.lemmas.List.{length-map, length-take-le, length_push}
use Rattle.tl_program.specs.Program.{decl_text, program_text}
use Rattle.tl_names.proofs.Maps.{slice_get_item, take_push}
use Rattle.tl_names.proofs.IndexSteps.{counted_more}
use Rattle.tl_names.proofs.TypeNumbers.{are_numbered, few_types}
use Rattle.tl_names.proofs.index.Index.of.Goals as goal

pub note_type-requires-clause-numbered : goal.note_type-requires-clause-numbered
note_type-requires-clause-numbered c =
    are_numbered (take c.loop-at.at (program_text c.args.program.now)) c.loop-at.types c.loop-at.families.items c.loop-at.invariant.made

pub note_type-requires-clause-few : goal.note_type-requires-clause-few
note_type-requires-clause-few c =
    let within = rw c.deref-decl-items.ensures.value at c.loop-at-test.true in
    let inside : c.loop-at.at ≤ length (program_text c.args.program.now) = omega (arith, within, length-map c.args.program.now.decls.items decl_text) in
    omega (arith, c.loop-at.invariant.made.count, few_types (take c.loop-at.at (program_text c.args.program.now)), length-take-le c.loop-at.at (program_text c.args.program.now) inside)

pub loop-at-preserved : goal.loop-at-preserved
loop-at-preserved c =
    let within = rw c.deref-decl-items.ensures.value at c.loop-at-test.true in
    let at = slice_get_item decl_text c.args.program.now.decls.items c.loop-at.at c.decl-item.result within (rw c.deref-decl-items.ensures.value at c.decl-item.is) in
    let inside : c.loop-at.at ≤ length (program_text c.args.program.now) = omega (arith, within, length-map c.args.program.now.decls.items decl_text) in
    let before = length-take-le c.loop-at.at (program_text c.args.program.now) inside in
    rw (c.in_ok-push.ensures.items, take_push (program_text c.args.program.now) c.loop-at.at (decl_text c.decl-item.result) at) (record {
      named = c.in_ok-note_name.ensures (take c.loop-at.at (program_text c.args.program.now)) before c.loop-at.invariant.named;
      made = c.in_ok-note_type.ensures (take c.loop-at.at (program_text c.args.program.now)) before c.loop-at.invariant.made;
      counted = counted_more (take c.loop-at.at (program_text c.args.program.now)) (decl_text c.decl-item.result) c.loop-at.vars.items c.len.result (omega (arith, c.len.ensures, c.decl-item.result.vars.ok.0)) c.loop-at.invariant.counted;
      few = omega (arith, length_push (take c.loop-at.at (program_text c.args.program.now)) (decl_text c.decl-item.result), before, within, length-map c.args.program.now.decls.items decl_text, c.requires);
    })
