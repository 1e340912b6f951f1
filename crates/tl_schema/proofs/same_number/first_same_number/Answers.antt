use Rattle.std.proofs.Common.{◌≤◌, ◌∙◌, ℕ, nat_eq, length, ap, below_more, arith}
use Rattle.std.specs.List.{list_any}
use Rattle.std.proofs.lemmas.Bool.{iff_false}
use Rattle.std.proofs.lemmas.List.{length-map}
use Rattle.indexmap.specs.IndexSet.{IndexSet, contains}
use Rattle.tl_program.specs.Program.{decl_text, program_text}
use Rattle.tl_graph.proofs.FirstNodes.{first_none}
use Rattle.tl_schema.specs.SameNumber.{SameNumber}
use Rattle.tl_names.specs.declared.name_hash.NameHash.{NameHash}
use Rattle.tl_names.proofs.Maps.{slice_get_item}
use Rattle.tl_schema.proofs.KnownNumbers.{knows_none, knows_uncounted, free_uncounted, knows_more, taken_before, taken_always, free, same_number_within}
use Rattle.tl_schema.proofs.same_number.first_same_number.Goals as goal
use Rattle.tl_schema.proofs.same_number.first_same_number.Goals.{then-not-decl+in_ok-is_new+else-is_taken+else-not-is_new, else-not-decl, then-is_taken-via-then-is_taken, then-is_taken-via-else-is_taken+then-not-is_new}

pub loop-k-init : goal.loop-k-init
loop-k-init c =
    (knows_none (program_text c.args.program.now) (contains nat_eq c.with_hasher-numbers.result) (λ n. ap (list_any (nat_eq n)) c.with_hasher-numbers.ensures.empty), λ j below. absurd (omega (arith, below)))

pub loop-k-preserved : goal.loop-k-preserved
loop-k-preserved c =
    let ds = program_text c.args.program.now in
    let at = slice_get_item decl_text c.args.program.now.decls.items c.loop-k.k c.decl-item.result (rw c.deref-decl-items.ensures.value at c.loop-k-test.true) (rw c.deref-decl-items.ensures.value at c.decl-item.is) in
    elim c.if-not-decl.branch [
      | then-not-decl+in_ok-is_new+else-is_taken+else-not-is_new w ↦ (
        knows_more ds c.loop-k.k (decl_text c.decl-item.result) at w.if-not-decl.true _ w.number_of-number.ensures (contains nat_eq c.loop-k.numbers) (contains nat_eq c.if-not-decl.numbers) (λ q. ap (λ (s : IndexSet ℕ NameHash). contains nat_eq s q) w.numbers-is ∙ w.in_ok-is_new.ensures.updates.0 q) c.loop-k.invariant.0,
        below_more _ _ c.loop-k.invariant.1 (free ds c.loop-k.k (decl_text c.decl-item.result) at w.if-not-decl.true _ w.number_of-number.ensures (contains nat_eq c.loop-k.numbers) _ c.loop-k.invariant.0 w.in_ok-is_new.ensures.added w.if-not-is_new.false (iff_false w.is_taken.ensures w.if-is_taken.false)),
      )
      | else-not-decl w ↦ (
        λ q. rw w.numbers-is (knows_uncounted ds c.loop-k.k (decl_text c.decl-item.result) at w.if-not-decl.false (contains nat_eq c.loop-k.numbers) c.loop-k.invariant.0 q),
        below_more _ _ c.loop-k.invariant.1 (free_uncounted ds c.loop-k.k (decl_text c.decl-item.result) at w.if-not-decl.false),
      )
    ]

pub returns-then-is_taken : goal.returns-then-is_taken
returns-then-is_taken c =
    let ds = program_text c.args.program.now in
    let at = slice_get_item decl_text c.args.program.now.decls.items c.loop-k.k c.decl-item.result (rw c.deref-decl-items.ensures.value at c.loop-k-test.true) (rw c.deref-decl-items.ensures.value at c.decl-item.is) in
    let is : SameNumber ds c.loop-k.k = elim c.then-is_taken.branch [
      | then-is_taken-via-then-is_taken w ↦ taken_always ds c.loop-k.k (decl_text c.decl-item.result) at c.if-not-decl.true _ c.number_of-number.ensures (c.is_taken.ensures.0 w.if-is_taken.true)
      | then-is_taken-via-else-is_taken+then-not-is_new w ↦ taken_before ds c.loop-k.k (decl_text c.decl-item.result) at c.if-not-decl.true _ c.number_of-number.ensures (contains nat_eq c.loop-k.numbers) c.in_ok-is_new.is_new c.loop-k.invariant.0 c.in_ok-is_new.ensures.added w.if-not-is_new.true
    ] in
    (is, c.loop-k.invariant.1)

pub returns : goal.returns
returns c =
    let ds = program_text c.args.program.now in
    let past = rw c.deref-decl-items.ensures.value at c.loop-k-test.false in
    let all : length ds ≤ c.loop-k.k = omega (arith, past, length-map c.args.program.now.decls.items decl_text) in
    first_none (SameNumber ds) (length ds) c.loop-k.k (same_number_within ds) all c.loop-k.invariant.1
