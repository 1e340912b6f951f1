use Rattle.std.proofs.Common.{length, ap, refl, arith}
use Rattle.tl_decode.proofs.PlanTypes.{shown_count, is_here}
use Rattle.tl_decode.proofs.opening.begin.Goals as goal

pub index-requires : goal.index-requires
index-requires c =
    let count = shown_count c.args.plan.now c.args.of c.instance.result.now c.instance.ensures.shows in
    omega (arith, count, c.requires.member, c.instance.result.now.members.ok.0)

pub returns : goal.returns
returns c =
    let count = shown_count c.args.plan.now c.args.of c.instance.result.now c.instance.ensures.shows in
    let here = is_here c.args.plan.now c.instance.ensures.sound c.args.of c.instance.result.now c.args.member c.index.result.now c.instance.ensures.shows (omega (arith, count, c.requires.member)) c.index.ensures in
    (c.in_ok-fields.fields, refl, c.in_ok-fields.ensures.items, omega (arith, ap length here.slots, here.count, c.len-count.ensures, c.len-count.type_inv, c.index.result.now.fields.ok.0))
