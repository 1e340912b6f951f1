use Rattle.std.proofs.Common.{◌≡◌, ◌≤◌, Some, slice_get, take, length, refl, subst, sym, arith}
use Rattle.std.proofs.lemmas.List.{length-take-le}
use Rattle.std.proofs.lemmas.Option.{slice_get_read}
use Rattle.tl_names.specs.MeantViews.{NumbersNames}
use Rattle.tl_names.proofs.Maps.{take_push}
use Rattle.tl_names.proofs.ResolvedNames.{names_more}
use Rattle.tl_names.proofs.declarations.numbered.Goals as goal

pub loop-at-preserved : goal.loop-at-preserved
loop-at-preserved c =
    let names = c.args.names.now in
    let at : slice_get names c.loop-at.at ≡ Some c.index-names-at.result = slice_get_read names (length names) c.loop-at.at c.index-names-at.result refl c.loop-at-test.true c.index-names-at.is in
    let inside : c.loop-at.at ≤ length names = omega (arith, c.loop-at-test.true) in
    subst (λ ns. NumbersNames ns c.note.new.self) (sym (take_push names c.loop-at.at c.index-names-at.result at))
    (names_more (take c.loop-at.at names) c.index-names-at.result c.loop-at.at c.loop-at.numbers c.note.new.self (length-take-le c.loop-at.at names inside) (rw c.as_slice.ensures.value at c.in_ok-note.ensures.noted) c.loop-at.invariant)
