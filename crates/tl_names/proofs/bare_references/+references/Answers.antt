use Rattle.std.proofs.Common.{◌≤◌, length, ap, refl, sym, arith}
use Rattle.std.proofs.lemmas.List.{length-map}
use Rattle.std.proofs.lemmas.Result.{on_ok_weaker}
use Rattle.tl_program.specs.Trees.{named, percent, any_call, trees_of}
use Rattle.tl_names.specs.Meants.{meant}
use Rattle.tl_names.specs.MeantViews.{meant_view}
use Rattle.tl_names.specs.Parts.{IsPart}
use Rattle.tl_names.specs.inner.BareSteps.{Adds}
use Rattle.tl_names.proofs.Adding.{adds_nothing}
use Rattle.tl_names.proofs.AddingParts.{adds_named, adds_percent, adds_any_call, adds_item, adds_all}
use Rattle.tl_names.proofs.ForTypes.{item_for, for_named, for_percent, for_any_call}
use Rattle.tl_names.proofs.bare_references.+references.Goals as goal

pub add_parts-returns-in-Named : goal.add_parts-returns-in-Named
add_parts-returns-in-Named t c = on_ok_weaker c.add_parts_of_each.result (λ adds.
    for_named c.args.index.now c.args.meant.now (λ d u. Adds c.args.index.now d (λ v. IsPart v u) c.args.nodes.now.items c.add_parts_of_each.new.nodes.items) c.in-Named.what c.in-Named.args c.in-Named.is (λ d name ts same what args.
    adds_named c.args.index.now d (named name (trees_of ts)) c.args.nodes.now.items c.add_own.new.nodes.items c.add_parts_of_each.new.nodes.items name (trees_of ts) refl (c.in_ok-add_own.ensures d (named name (trees_of ts)) same) (adds d ts args)))
    (rw c.deref.ensures.value at c.add_parts_of_each.ensures)

pub add_parts-returns-in-Percent : goal.add_parts-returns-in-Percent
add_parts-returns-in-Percent t c = on_ok_weaker c.add_parts.result (λ adds.
    for_percent c.args.index.now c.args.meant.now (λ d u. Adds c.args.index.now d (λ v. IsPart v u) c.args.nodes.now.items c.add_parts.new.nodes.items) c.in-Percent.meant c.deref-in-Percent.result.now c.in-Percent.is (sym c.deref-in-Percent.ensures) (λ d u same inner.
    adds_percent c.args.index.now d (percent u) c.args.nodes.now.items c.add_own.new.nodes.items c.add_parts.new.nodes.items u refl (c.in_ok-add_own.ensures d (percent u) same) (adds d u inner)))
    c.add_parts.ensures

pub add_parts-returns-in-AnyCall : goal.add_parts-returns-in-AnyCall
add_parts-returns-in-AnyCall t c =
    for_any_call c.args.index.now c.args.meant.now (λ d u. Adds c.args.index.now d (λ v. IsPart v u) c.args.nodes.now.items c.add_own.new.nodes.items) c.in-AnyCall.is (λ d same.
    adds_any_call c.args.index.now d any_call c.args.nodes.now.items c.add_own.new.nodes.items refl (c.in_ok-add_own.ensures d any_call same))

pub add_parts_of_each-loop-meant-init : goal.add_parts_of_each-loop-meant-init
add_parts_of_each-loop-meant-init t c = λ d ts same. adds_nothing c.args.index.now d (λ u. ⊥) c.args.nodes.now.items (λ u h. h)

pub add_parts_of_each-loop-meant-preserved : goal.add_parts_of_each-loop-meant-preserved
add_parts_of_each-loop-meant-preserved t c = λ d ts same.
    let item = item_for meant_view (meant c.args.index.now d) c.args.meants.now ts c.loop-meant.meant-index c.meant-item.result same c.loop-meant-test.true c.meant-item.is in
    adds_item c.args.index.now d ts c.loop-meant.meant-index item.0 c.args.nodes.now.items c.loop-meant.nodes.items c.add_parts.new.nodes.items item.1 (c.loop-meant.invariant d ts same) (c.in_ok-add_parts.ensures d item.0 item.2)

pub add_parts_of_each-returns : goal.add_parts_of_each-returns
add_parts_of_each-returns t c = λ d ts same.
    let all : length ts ≤ c.loop-meant.meant-index = omega (arith, c.loop-meant-test.false, length-map c.args.meants.now meant_view, length-map ts (meant c.args.index.now d), ap length same) in
    adds_all c.args.index.now d ts c.loop-meant.meant-index c.args.nodes.now.items c.loop-meant.nodes.items all (c.loop-meant.invariant d ts same)
