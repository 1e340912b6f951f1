use Rattle.std.proofs.Common.{arith}
use Rattle.box_events.proofs.PageChains.{cut_here, cut_all, joined_more}
use Rattle.box_events.proofs.paging.whole_pages.Goals as goal

pub returns-then-rest-len : goal.returns-then-rest-len
returns-then-rest-len c =
    cut_here c.args.pages.now c.loop-whole.whole c.loop-whole.rest c.args.excess c.index-pages-whole.result c.loop-whole-test.true c.index-pages-whole.is c.loop-whole.invariant
    (omega (arith, c.if-rest-len.true, c.len.ensures.value))

pub loop-whole-preserved : goal.loop-whole-preserved
loop-whole-preserved c =
    let more = joined_more c.args.pages.now c.loop-whole.whole c.index-pages-whole.result c.loop-whole-test.true c.index-pages-whole.is in
    let so_far = c.loop-whole.invariant in
    omega (arith, so_far, more, c.if-rest-len.false, c.len.ensures.value, c.len-rest.ensures.value)

pub returns : goal.returns
returns c = cut_all c.args.pages.now c.loop-whole.whole c.loop-whole.rest c.args.excess c.loop-whole-test.false c.loop-whole.invariant
