use Rattle.std.proofs.Common.{refl, ap, ◌∙◌, ◌++◌, ◌∷◌, [], arith}
use Rattle.std.specs.Vec.Iter.{into_iter_items}
use Rattle.box_events.proofs.Moving.{moving_none, one_moved}
use Rattle.box_events.proofs.weaving.append_messages.Goals as goal

pub loop-init : goal.loop-init
loop-init c = record { moving = moving_none c.args.events.now.items (into_iter_items c.args.news.now) c.args.most; len = refl; capacity = refl }

pub push_reserved-requires : goal.push_reserved-requires
push_reserved-requires c =
    let i = c.loop.invariant in
    omega (arith, i.len, i.capacity, c.requires.room, c.in-Some.ensures.len)

pub loop-preserved : goal.loop-preserved
loop-preserved c =
    let i = c.loop.invariant in
    record {
      moving = one_moved c.args.events.now.items c.loop.events.items c.push_reserved.new.self.items (into_iter_items c.args.news.now) (into_iter_items c.loop.news) (into_iter_items c.next.new.self) c.in-Some.body c.args.most c.loop.counter c.loop-test.true c.in-Some.ensures.items (c.push_reserved.ensures.items ∙ ap (λ e. c.loop.events.items ++ e ∷ []) c.new_message.ensures) i.moving;
      len = omega (arith, i.len, c.push_reserved.ensures.len, c.in-Some.ensures.len);
      capacity = c.push_reserved.ensures.capacity ∙ i.capacity;
    }
