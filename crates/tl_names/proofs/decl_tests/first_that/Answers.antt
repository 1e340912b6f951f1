use Rattle.std.proofs.Common.{◌<◌, ◌∙◌, ap, length, sym, subst, below_more, arith}
use Rattle.std.proofs.lemmas.Bool.{iff_false}
use Rattle.std.proofs.lemmas.List.{length-map}
use Rattle.std.proofs.lemmas.Option.{same_Some, slice_get_within}
use Rattle.tl_program.specs.Program.{decl_text}
use Rattle.tl_names.proofs.ResolvedDecls.{here, both}
use Rattle.tl_names.proofs.decl_tests.first_that.Goals as goal

pub returns-then-passes : goal.returns-then-passes
returns-then-passes g c =
    let within = rw c.deref-decl-items.ensures.value at c.loop-at-test.true in
    let is = rw c.deref-decl-items.ensures.value at c.decl-item.is in
    let there = here c.args.index.now c.args.meant.now c.requires.resolved c.args.program.now.decls.items c.requires.same c.loop-at.at c.decl-item.result c.index-meant-at.result within is c.index-meant-at.is in
    let same = both c.args.index.now c.args.meant.now c.requires.resolved c.args.program.now.decls.items c.requires.same c.loop-at.at c.decl-item.result c.index-meant-at.result within is c.index-meant-at.is in
    (record { d = decl_text c.decl-item.result; here = there; has = (c.passes.ensures same).0 c.if-passes.true }, c.loop-at.invariant)

pub loop-at-preserved : goal.loop-at-preserved
loop-at-preserved g c =
    let within = rw c.deref-decl-items.ensures.value at c.loop-at-test.true in
    let is = rw c.deref-decl-items.ensures.value at c.decl-item.is in
    let there = here c.args.index.now c.args.meant.now c.requires.resolved c.args.program.now.decls.items c.requires.same c.loop-at.at c.decl-item.result c.index-meant-at.result within is c.index-meant-at.is in
    let same = both c.args.index.now c.args.meant.now c.requires.resolved c.args.program.now.decls.items c.requires.same c.loop-at.at c.decl-item.result c.index-meant-at.result within is c.index-meant-at.is in
    let none = iff_false (c.passes.ensures same) c.if-passes.false in
    below_more _ _ c.loop-at.invariant (λ other. none (subst (g.T.DeclTest.holds c.args.test.now c.args.index.now) (same_Some other.d (decl_text c.decl-item.result) (sym other.here ∙ there)) other.has))

pub returns : goal.returns
returns g c = λ k other.
    let past = rw c.deref-decl-items.ensures.value at c.loop-at-test.false in
    let within = slice_get_within c.args.index.now k other.d other.here in
    let below : k < c.loop-at.at = omega (arith, past, within, length-map c.args.program.now.decls.items decl_text, ap length c.requires.same) in
    c.loop-at.invariant k below other
