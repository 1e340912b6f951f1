use Rattle.std.proofs.Common.{◌∙◌, ◌∷◌, [], ◌++◌, ap, sym, arith}
use Rattle.std.proofs.lemmas.List.{append-nil}
use Rattle.box_events.specs.Events.{EventView}
use Rattle.box_events.proofs.Copying.{step_within, taken_more, ending_more, copies_prefix, copies_all}
use Rattle.box_events.proofs.event_box.EventBox.copy_run.Goals as goal

pub loop-event-init : goal.loop-event-init
loop-event-init c = record { so_far = sym (append-nil c.args.copies.now.items); stop = omega arith; within = omega (arith, c.requires.order) }

pub returns-then-end-to : goal.returns-then-end-to
returns-then-end-to c =
    let i = c.loop-event.invariant in
    copies_prefix c.args.self.now c.args.at c.args.to c.loop-event.event-index c.loop-event.end c.in-Some.run'.now c.args.copies.now.items c.loop-event.copies.items c.in-Some.ensures i.so_far i.stop
    (omega (arith, c.requires.order, c.if-end-to.true)) i.within

pub overflow_add-end : goal.overflow_add-end
overflow_add-end c =
    let i = c.loop-event.invariant in
    let step = step_within c.args.self.now c.args.at c.args.to c.loop-event.event-index c.event-item.result c.in-Some.run'.now c.in-Some.ensures c.requires.to c.loop-event-test.true c.event-item.is
    (omega (arith, i.stop, i.within, c.if-end-to.false)) in
    omega (arith, step, i.stop, c.count.ensures.value, c.ranges.to.fits)

pub loop-event-preserved : goal.loop-event-preserved
loop-event-preserved c =
    let i = c.loop-event.invariant in
    let step = step_within c.args.self.now c.args.at c.args.to c.loop-event.event-index c.event-item.result c.in-Some.run'.now c.in-Some.ensures c.requires.to c.loop-event-test.true c.event-item.is
    (omega (arith, i.stop, i.within, c.if-end-to.false)) in
    let more = ending_more c.in-Some.run'.now c.loop-event.event-index c.event-item.result c.loop-event-test.true c.event-item.is in
    record {
      so_far = taken_more c.args.copies.now.items c.push.new.self.items c.loop-event.copies.items c.in-Some.run'.now c.loop-event.event-index c.event-item.result c.loop-event-test.true c.event-item.is i.so_far
          (c.in_ok-push.ensures.items ∙ ap (λ (e : EventView). c.loop-event.copies.items ++ e ∷ []) c.in_ok-copy.ensures);
      stop = omega (arith, i.stop, more, c.count.ensures.value);
      within = omega (arith, step, i.stop, c.count.ensures.value);
    }

pub returns : goal.returns
returns c =
    let i = c.loop-event.invariant in
    copies_all c.args.self.now c.args.at c.args.to c.loop-event.event-index c.loop-event.end c.in-Some.run'.now c.args.copies.now.items c.loop-event.copies.items c.in-Some.ensures c.requires.to c.requires.order
    c.loop-event-test.false i.so_far i.stop i.within
