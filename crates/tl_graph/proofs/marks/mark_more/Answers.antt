use Rattle.std.proofs.Common.{◌≤◌, length, arith}
use Rattle.std.proofs.lemmas.List.{length-map}
use Rattle.std.specs.Option.{option_map}
use Rattle.tl_graph.specs.Needs.{needs_in}
use Rattle.tl_graph.proofs.MarkedNodes.{pass_none, pass_marked, pass_kept, pass_all}
use Rattle.tl_graph.proofs.marks.mark_more.Goals as goal
use Rattle.tl_graph.proofs.marks.mark_more.Goals.{then-mark, else-mark}

pub loop-k-init : goal.loop-k-init
loop-k-init c = pass_none (needs_in c.args.needs.now) c.args.marks.now.items

pub loop-k-preserved : goal.loop-k-preserved
loop-k-preserved c =
    let needs = needs_in c.args.needs.now in
    elim c.if-mark.branch [
      | then-mark w ↦ rw w.is_more-is (pass_marked needs _ c.loop-k.k _ _ c.loop-k.is_more c.loop-k.invariant c.mark.ensures.more (c.mark.ensures.fewer w.if-mark.true))
      | else-mark w ↦ rw w.is_more-is (let same = c.mark.ensures.same w.if-mark.false in pass_kept needs _ c.loop-k.k _ _ c.loop-k.is_more c.loop-k.invariant c.mark.ensures.more same.0 same.1)
    ]

pub returns-clause-more : goal.returns-clause-more
returns-clause-more c = c.loop-k.invariant.more

pub returns-clause-fewer : goal.returns-clause-fewer
returns-clause-fewer c = c.loop-k.invariant.fewer

pub returns-clause-all : goal.returns-clause-all
returns-clause-all c =
    let needs = needs_in c.args.needs.now in
    let all : length needs ≤ c.loop-k.k = omega (arith, c.loop-k-test.false, length-map c.args.needs.now (option_map (λ js. js.items))) in
    pass_all needs _ c.loop-k.k _ c.loop-k.is_more c.loop-k.invariant all
