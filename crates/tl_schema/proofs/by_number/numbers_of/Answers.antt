use Rattle.std.proofs.Common.{◌≡◌, length, subst, arith}
use Rattle.std.proofs.lemmas.List.{length-map}
use Rattle.tl_program.specs.Program.{decl_text, program_text}
use Rattle.tl_names.proofs.Maps.{slice_get_item}
use Rattle.tl_schema.proofs.NumberedIndexes.{AreNumbersSoFar, are_numbers, line_more, no_numbers, number_more}
use Rattle.tl_schema.proofs.by_number.numbers_of.Goals as goal
use Rattle.tl_schema.proofs.by_number.numbers_of.Goals.{then-not-decl+in_ok-insert, else-not-decl}

pub loop-at-init : goal.loop-at-init
loop-at-init c = no_numbers (program_text c.args.program.now) _ c.with_hasher-numbers.ensures.empty

pub loop-at-preserved : goal.loop-at-preserved
loop-at-preserved c =
    let ds = program_text c.args.program.now in
    let at = slice_get_item decl_text c.args.program.now.decls.items c.loop-at.at c.decl-item.result (rw c.deref-decl-items.ensures.value at c.loop-at-test.true) (rw c.deref-decl-items.ensures.value at c.decl-item.is) in
    elim c.if-not-decl.branch [
      | then-not-decl+in_ok-insert w ↦
          rw (w.numbers-is, w.in_ok-insert.ensures.entries) (number_more ds c.loop-at.at (decl_text c.decl-item.result) at c.loop-at.numbers.entries c.loop-at.invariant w.number_of.result w.if-not-decl.true w.number_of.ensures)
      | else-not-decl w ↦ rw w.numbers-is (line_more ds c.loop-at.at (decl_text c.decl-item.result) at c.loop-at.numbers.entries c.loop-at.invariant w.if-not-decl.false)
    ]

pub returns : goal.returns
returns c =
    let ds = program_text c.args.program.now in
    let within = rw c.deref-decl-items.ensures.value at c.loop-at.auto.at-end in
    let past = rw c.deref-decl-items.ensures.value at c.loop-at-test.false in
    let all : c.loop-at.at ≡ length ds = omega (arith, within, past, length-map c.args.program.now.decls.items decl_text) in
    are_numbers ds c.loop-at.numbers.entries (subst (λ n. AreNumbersSoFar ds n c.loop-at.numbers.entries) all c.loop-at.invariant)
