use Rattle.std.proofs.Common.{◌≤◌, length, below_more, arith}
use Rattle.std.proofs.lemmas.Bool.{iff_false}
use Rattle.std.proofs.lemmas.List.{length-map}
use Rattle.tl_program.specs.Program.{decl_text, program_text}
use Rattle.tl_graph.proofs.FirstNodes.{first_none}
use Rattle.tl_schema.specs.SameName.{SameName, part}
use Rattle.tl_names.proofs.Maps.{slice_get_item}
use Rattle.tl_schema.proofs.SameNames.{knows_none, knows_more, taken, free, makes_vector, same_name_within}
use Rattle.tl_schema.proofs.same_name.first_same_name.Goals as goal
use Rattle.tl_schema.proofs.same_name.first_same_name.Goals.{then-is_old-via-then-is_old, then-is_old-via-else-is_old+then-is_repeated, then-is_old-via-else-is_old+else-is_repeated+then-makes_vector}

pub loop-k-init : goal.loop-k-init
loop-k-init c = (knows_none (program_text c.args.program.now) _ c.new-2.ensures c.new.ensures, λ j below. absurd (omega (arith, below)))

pub returns-then-is_old : goal.returns-then-is_old
returns-then-is_old c =
    let ds = program_text c.args.program.now in
    let at = slice_get_item decl_text c.args.program.now.decls.items c.loop-k.k c.decl-item.result (rw c.deref-decl-items.ensures.value at c.loop-k-test.true) (rw c.deref-decl-items.ensures.value at c.decl-item.is) in
    let is : SameName ds c.loop-k.k = elim c.then-is_old.branch [
      | then-is_old-via-then-is_old w ↦ taken ds c.loop-k.k (decl_text c.decl-item.result) at _ _ _ c.in_ok-is_old.ensures c.loop-k.invariant.0 w.if-is_old.true
      | then-is_old-via-else-is_old+then-is_repeated w ↦ let r = c.in_ok-is_repeated.ensures.0 w.if-is_repeated.true in part (decl_text c.decl-item.result) r.0 at r.1
      | then-is_old-via-else-is_old+else-is_repeated+then-makes_vector w ↦ makes_vector ds c.loop-k.k (decl_text c.decl-item.result) at (w.makes_vector.ensures.0 w.if-makes_vector.true)
    ] in
    (is, c.loop-k.invariant.1)

pub loop-k-preserved : goal.loop-k-preserved
loop-k-preserved c =
    let ds = program_text c.args.program.now in
    let at = slice_get_item decl_text c.args.program.now.decls.items c.loop-k.k c.decl-item.result (rw c.deref-decl-items.ensures.value at c.loop-k-test.true) (rw c.deref-decl-items.ensures.value at c.decl-item.is) in (
      knows_more ds c.loop-k.k (decl_text c.decl-item.result) at _ _ _ c.in_ok-is_old.ensures c.loop-k.invariant.0,
      below_more _ _ c.loop-k.invariant.1 (free ds c.loop-k.k (decl_text c.decl-item.result) at _ _ _ c.in_ok-is_old.ensures c.loop-k.invariant.0 c.if-is_old.false (λ n r. iff_false c.in_ok-is_repeated.ensures c.if-is_repeated.false (n, r)) (iff_false c.makes_vector.ensures c.if-makes_vector.false)),
    )

pub returns : goal.returns
returns c =
    let ds = program_text c.args.program.now in
    let past = rw c.deref-decl-items.ensures.value at c.loop-k-test.false in
    let all : length ds ≤ c.loop-k.k = omega (arith, past, length-map c.args.program.now.decls.items decl_text) in
    first_none (SameName ds) (length ds) c.loop-k.k (same_name_within ds) all c.loop-k.invariant.1
