use Rattle.std.proofs.Common.{◌≤◌, ◌↔◌, false, ap, length, refl, sym, true≢false, arith}
use Rattle.std.proofs.lemmas.Bool.{iff_false}
use Rattle.std.proofs.lemmas.List.{length-map}
use Rattle.std.specs.Prelude.{IsTrue}
use Rattle.tl_program.specs.Trees.{named, percent, any_call, trees_of}
use Rattle.tl_names.specs.Meants.{meant}
use Rattle.tl_names.specs.MeantViews.{meant_view}
use Rattle.tl_names.specs.Parts.{SomePart}
use Rattle.tl_names.proofs.ForTypes.{item_for, for_named, for_percent, for_any_call}
use Rattle.tl_names.proofs.PartsOfOne.{some_of_item, none_more, none_done, some_itself, some_named, some_percent, some_any_call}
use Rattle.tl_names.proofs.parts.+parts.Goals as goal

pub has_part-returns-then-passes : goal.has_part-returns-then-passes
has_part-returns-then-passes g t c = λ d u same.
    (λ h. some_itself (g.T.TypeTest.holds c.args.test.now c.args.index.now d) u ((c.passes.ensures d u same).0 c.if-passes.true), λ some. refl)

pub has_part-returns-in-Named : goal.has_part-returns-in-Named
has_part-returns-in-Named g t c =
    for_named c.args.index.now c.args.meant.now (λ d u. IsTrue c.is_in_one.result ↔ SomePart (g.T.TypeTest.holds c.args.test.now c.args.index.now d) u) c.in-Named.what c.in-Named.args c.in-Named.is (λ d name ts same what args.
    some_named (g.T.TypeTest.holds c.args.test.now c.args.index.now d) c.is_in_one.result name (trees_of ts) (iff_false (c.passes.ensures d (named name (trees_of ts)) same) c.if-passes.false) ((rw c.deref.ensures.value at c.is_in_one.ensures) d ts args))

pub has_part-returns-in-Percent : goal.has_part-returns-in-Percent
has_part-returns-in-Percent g t c =
    for_percent c.args.index.now c.args.meant.now (λ d u. IsTrue c.has_part.result ↔ SomePart (g.T.TypeTest.holds c.args.test.now c.args.index.now d) u) c.in-Percent.meant c.deref-in-Percent.result.now c.in-Percent.is (sym c.deref-in-Percent.ensures) (λ d u same inner.
    some_percent (g.T.TypeTest.holds c.args.test.now c.args.index.now d) c.has_part.result u (iff_false (c.passes.ensures d (percent u) same) c.if-passes.false) (c.has_part.ensures d u inner))

pub has_part-returns-in-AnyCall : goal.has_part-returns-in-AnyCall
has_part-returns-in-AnyCall g t c =
    for_any_call c.args.index.now c.args.meant.now (λ d u. IsTrue false ↔ SomePart (g.T.TypeTest.holds c.args.test.now c.args.index.now d) u) c.in-AnyCall.is (λ d same.
    some_any_call (g.T.TypeTest.holds c.args.test.now c.args.index.now d) (iff_false (c.passes.ensures d any_call same) c.if-passes.false))

pub is_in_one-loop-meant-init : goal.is_in_one-loop-meant-init
is_in_one-loop-meant-init g t c = λ d ts same some. some.1

pub is_in_one-returns-then-has_part : goal.is_in_one-returns-then-has_part
is_in_one-returns-then-has_part g t c = λ d ts same.
    let item = item_for meant_view (meant c.args.index.now d) c.args.meants.now ts c.loop-meant.meant-index c.meant-item.result same c.loop-meant-test.true c.meant-item.is in
    (λ h. some_of_item (g.T.TypeTest.holds c.args.test.now c.args.index.now d) ts c.loop-meant.meant-index item.0 item.1 ((c.if-has_part.ensures d item.0 item.2).0 refl), λ some. refl)

pub is_in_one-loop-meant-preserved : goal.is_in_one-loop-meant-preserved
is_in_one-loop-meant-preserved g t c = λ d ts same.
    let item = item_for meant_view (meant c.args.index.now d) c.args.meants.now ts c.loop-meant.meant-index c.meant-item.result same c.loop-meant-test.true c.meant-item.is in
    none_more (g.T.TypeTest.holds c.args.test.now c.args.index.now d) ts c.loop-meant.meant-index item.0 item.1 (c.loop-meant.invariant d ts same) (λ some. true≢false (sym ((c.if-has_part.ensures d item.0 item.2).1 some)))

pub is_in_one-returns : goal.is_in_one-returns
is_in_one-returns g t c = λ d ts same.
    let all : length ts ≤ c.loop-meant.meant-index = omega (arith, c.loop-meant-test.false, length-map c.args.meants.now meant_view, length-map ts (meant c.args.index.now d), ap length same) in
    (λ h. absurd (true≢false (sym h)), λ some. absurd (none_done (g.T.TypeTest.holds c.args.test.now c.args.index.now d) ts c.loop-meant.meant-index all (c.loop-meant.invariant d ts same) some))
