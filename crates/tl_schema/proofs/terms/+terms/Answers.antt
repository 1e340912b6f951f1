use Rattle.std.proofs.Common.{◌≤◌, ◌∙◌, ap, length, map, arith}
use Rattle.std.proofs.lemmas.List.{length-map}
use Rattle.tl_names.specs.MeantViews.{meant_view}
use Rattle.tl_schema.specs.Types.{shapes_of}
use Rattle.tl_schema.specs.Seen.{shape}
use Rattle.tl_schema.specs.Meanings.{meant_shape}
use Rattle.tl_names.proofs.Maps.{slice_get_item}
use Rattle.tl_names.proofs.MadeLists.{made_more, made_all}
use Rattle.tl_schema.proofs.MeantTypes.{shapes_of_each}
use Rattle.tl_schema.proofs.terms.+terms.Goals as goal

pub type_terms-loop-meant-preserved : goal.type_terms-loop-meant-preserved
type_terms-loop-meant-preserved t c =
    let at = slice_get_item meant_view c.args.meants.now c.loop-meant.meant-index c.meant-item.result c.loop-meant-test.true c.meant-item.is in
    rw c.in_ok-push.ensures.items
    (made_more shape (meant_shape c.args.index.now) c.loop-meant.terms.items (map meant_view c.args.meants.now) c.loop-meant.meant-index c.loop-meant.invariant c.in_ok-type_term.field-0 (meant_view c.meant-item.result) at c.in_ok-type_term.ensures)

pub type_terms-returns : goal.type_terms-returns
type_terms-returns t c =
    let all : length (map meant_view c.args.meants.now) ≤ c.loop-meant.meant-index = omega (arith, c.loop-meant-test.false, length-map c.args.meants.now meant_view) in
    ap shapes_of (made_all shape (meant_shape c.args.index.now) c.loop-meant.terms.items (map meant_view c.args.meants.now) c.loop-meant.meant-index c.loop-meant.invariant all)
    ∙ shapes_of_each c.args.index.now (map meant_view c.args.meants.now)
