use Rattle.std.proofs.Common.{◌≤◌, ap, length, refl, sym, true≢false, arith}
use Rattle.std.proofs.lemmas.Bool.{iff_false}
use Rattle.std.proofs.lemmas.List.{length-map}
use Rattle.tl_names.specs.Meants.{meant}
use Rattle.tl_names.specs.MeantViews.{meant_view}
use Rattle.tl_names.proofs.ForTypes.{item_for}
use Rattle.tl_schema.proofs.MarkedArguments.{marked_item, none_marked_more, none_marked}
use Rattle.tl_schema.proofs.empty_element.has_marked.Goals as goal

pub loop-meant-init : goal.loop-meant-init
loop-meant-init c = λ d ts same m. m.1

pub loop-meant-preserved : goal.loop-meant-preserved
loop-meant-preserved c = λ d ts same.
    let item = item_for meant_view (meant c.args.index.now d) c.args.meants.now ts c.loop-meant.meant-index c.meant-item.result same c.loop-meant-test.true c.meant-item.is in
    none_marked_more c.args.index.now c.args.marks.now d ts c.loop-meant.meant-index item.0 item.1 (c.loop-meant.invariant d ts same) (iff_false (c.is_marked_bare.ensures d item.0 item.2) c.if-is_marked_bare.false)

pub returns-then-is_marked_bare : goal.returns-then-is_marked_bare
returns-then-is_marked_bare c = λ d ts same.
    let item = item_for meant_view (meant c.args.index.now d) c.args.meants.now ts c.loop-meant.meant-index c.meant-item.result same c.loop-meant-test.true c.meant-item.is in
    (λ h. marked_item c.args.index.now c.args.marks.now d ts c.loop-meant.meant-index item.0 item.1 ((c.is_marked_bare.ensures d item.0 item.2).0 c.if-is_marked_bare.true), λ m. refl)

pub returns : goal.returns
returns c = λ d ts same.
    let all : length ts ≤ c.loop-meant.meant-index = omega (arith, c.loop-meant-test.false, length-map c.args.meants.now meant_view, length-map ts (meant c.args.index.now d), ap length same) in
    (λ h. absurd (true≢false (sym h)), λ m. absurd (none_marked c.args.index.now c.args.marks.now d ts c.loop-meant.meant-index all (c.loop-meant.invariant d ts same) m))
