use Rattle.std.proofs.Common.{◌≡◌, ◌<◌, Some, length, refl, slice_get, subst, map, arith}
use Rattle.std.proofs.lemmas.List.{length-map}
use Rattle.std.proofs.lemmas.Option.{slice_get_read, slice_get_within}
use Rattle.tl_program.specs.Program.{decl_text, program_text}
use Rattle.tl_names.specs.MeantDecls.{meant_decl}
use Rattle.tl_names.specs.MeantViews.{decl_view}
use Rattle.tl_names.proofs.FewParts.{few_parts_at}
use Rattle.tl_schema.specs.Seen.{declaration}
use Rattle.tl_schema.specs.inner.NamesNoted.{Enters}
use Rattle.tl_names.proofs.Maps.{slice_get_item}
use Rattle.tl_schema.proofs.DeclaredEntries.{none_yet, enters_more}
use Rattle.tl_schema.proofs.MeantEntries.{same_length, same_made}
use Rattle.tl_schema.proofs.checks.entered_of.Goals as goal

pub loop-at-init : goal.loop-at-init
loop-at-init c = rw c.new.ensures.items (none_yet _ _ c.new-2.ensures c.new-3.ensures)

pub enter-requires-clause-few : goal.enter-requires-clause-few
enter-requires-clause-few c =
    few_parts_at (program_text c.args.program.now) c.requires.limits.parts c.loop-at.at (decl_text c.decl-item.result) (slice_get_item decl_text c.args.program.now.decls.items c.loop-at.at c.decl-item.result (rw c.deref-decl-items.ensures.value at c.loop-at-test.true) (rw c.deref-decl-items.ensures.value at c.decl-item.is))

pub enter-requires-clause-same : goal.enter-requires-clause-same
enter-requires-clause-same c =
    let ds = program_text c.args.program.now in
    let at = slice_get_item decl_text c.args.program.now.decls.items c.loop-at.at c.decl-item.result (rw c.deref-decl-items.ensures.value at c.loop-at-test.true) (rw c.deref-decl-items.ensures.value at c.decl-item.is) in
    let within : c.loop-at.at < length c.args.meant.now = omega (arith, slice_get_within ds c.loop-at.at (decl_text c.decl-item.result) at, same_length decl_view (meant_decl ds) c.args.meant.now ds c.requires.resolved) in
    let there : slice_get c.args.meant.now c.loop-at.at ≡ Some c.index-meant-at.result = slice_get_read c.args.meant.now (length c.args.meant.now) c.loop-at.at c.index-meant-at.result refl within c.index-meant-at.is in
    rw c.requires.same (same_made decl_view (meant_decl ds) c.args.meant.now ds c.requires.resolved c.loop-at.at c.index-meant-at.result (decl_text c.decl-item.result) there at)

pub loop-at-preserved : goal.loop-at-preserved
loop-at-preserved c =
    let ds = program_text c.args.program.now in
    let at = slice_get_item decl_text c.args.program.now.decls.items c.loop-at.at c.decl-item.result (rw c.deref-decl-items.ensures.value at c.loop-at-test.true) (rw c.deref-decl-items.ensures.value at c.decl-item.is) in
    let one = rw c.requires.same at c.in_ok-enter.ensures in
    rw one.last (enters_more ds c.loop-at.at (map declaration c.loop-at.entered.entries.items) c.loop-at.entered.known c.enter.new.entered.known (decl_text c.decl-item.result) one.entry at one.is one.fits one.noted c.loop-at.invariant)

pub returns : goal.returns
returns c =
    let ds = program_text c.args.program.now in
    let within = rw c.deref-decl-items.ensures.value at c.loop-at.auto.at-end in
    let past = rw c.deref-decl-items.ensures.value at c.loop-at-test.false in
    let all : c.loop-at.at ≡ length ds = omega (arith, within, past, length-map c.args.program.now.decls.items decl_text) in
    subst (λ n. Enters ds n (map declaration c.loop-at.entered.entries.items) c.loop-at.entered.known) all c.loop-at.invariant
