use Rattle.std.proofs.Common.{◌≡◌, suc, ◌+◌, ◌-◌, ◌∙◌, arith}
use Rattle.update_replay.proofs.Drawn.{one_id, one_number}
use Rattle.update_replay.proofs.drawing.draw_ids.Goals as goal

pub loop-preserved : goal.loop-preserved
loop-preserved c =
    let rest : c.args.count - c.loop.counter ≡ suc (c.args.count - (c.loop.counter + 1)) = omega (arith, c.loop-test.true) in
    record {
      few = omega (arith, c.loop-test.true);
      ids = rw (c.in_ok-push.ensures.ok, c.draw.ensures.value, c.draw.ensures.next) (one_id c.loop.ids c.loop.from.number (c.args.count - (c.loop.counter + 1)) _ rest ∙ c.loop.invariant.ids);
      next = rw (c.draw.ensures.next) (one_number c.loop.ids c.loop.from.number (c.args.count - (c.loop.counter + 1)) _ rest ∙ c.loop.invariant.next);
    }
