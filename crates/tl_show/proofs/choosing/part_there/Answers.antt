use Rattle.std.proofs.Common.{ap}
use Rattle.tl_types.specs.Seen.{views}
use Rattle.tl_show.proofs.LastParts.{still_stands, this_stands}
use Rattle.tl_show.proofs.choosing.part_there.Goals.{then-is_there, else-is_there}
use Rattle.tl_show.proofs.choosing.part_there.Goals as goal

pub loop-part-preserved : goal.loop-part-preserved
loop-part-preserved c =
    let vs = views c.args.fields.now in
    let first = c.args.parts.now.first in
    let later = c.args.parts.now.later.items in
    let within = rw c.deref-part-items.ensures.value at c.loop-part-test.true in
    let at = rw c.deref-part-items.ensures.value at c.part-item.is in
    elim c.if-is_there.branch [
      | then-is_there w ↦ this_stands vs first c.part-item.result later c.loop-part.part-index within at c.if-is_there.there.now c.is_there.result (ap (λ r. r.now) w.there-is) w.if-is_there.true c.is_there.ensures
      | else-is_there w ↦
          still_stands vs first c.part-item.result later c.loop-part.part-index within at c.loop-part.there.now c.if-is_there.there.now c.is_there.result (ap (λ r. r.now) w.there-is) w.if-is_there.false
          c.is_there.ensures c.loop-part.invariant
    ]
