use Rattle.tl_base.specs.Using.{Used}
use Rattle.tl_decode.specs.inner.Frames.{AreWell, IsWellFound, found_at, found_work, views}
use Rattle.tl_decode.proofs.Steps.{Continues}
use Rattle.tl_decode.proofs.planned.finish.Given as goal

abbrev pub invariant-items : goal.invariant-items
invariant-items g l =
    let s = g.S.Source in
    record {
      frames : AreWell l.plan l.frames.items;
      well : IsWellFound l.plan l.found;
      read : Continues (found_at l.plan (views l.plan l.fn.frames.items) l.fn.first) (s.state l.fn.from).left (s.state l.from).left l.fn.at l.at (found_at l.plan (views l.plan l.frames.items) l.found);
      used : Used (s.state l.fn.from) (s.state l.from) ⊥;
    }

abbrev pub decreases-items : goal.decreases-items
decreases-items g l = found_work l.plan (views l.plan l.frames.items) l.found
