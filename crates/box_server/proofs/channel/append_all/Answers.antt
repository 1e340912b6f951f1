use Rattle.std.proofs.Common.{arith, ap, sym, ◌∙◌, ◌++◌, ◌∷◌, [], List, append_assoc}
use Rattle.box_events.specs.Boxes.{ending}
use Rattle.box_events.specs.Events.{EventView}
use Rattle.box_events.proofs.Boundaries.{ending-append}
use Rattle.box_server.proofs.channel.append_all.Goals as goal

pub loop-event-preserved : goal.loop-event-preserved
loop-event-preserved c =
    let i = c.loop-event.invariant in
    let a = c.in-Ok.ensures.answer in
    let e = c.in-Some.event in
    let rest = c.next.new.self.rest.items in
    let sum = ap ending a.events ∙ ending-append c.loop-event.to.events (e ∷ []) in
    record {
      first = a.first ∙ i.first;
      events = ap (λ (l : List EventView). l ++ rest) a.events ∙ append_assoc c.loop-event.to.events (e ∷ []) rest ∙ ap (λ (l : List EventView). c.loop-event.to.events ++ l) (sym c.in-Some.ensures.steps.0) ∙ i.events;
      room = omega (arith, i.room, a.spare, c.in-Some.ensures.steps.1);
      limit = omega (arith, i.limit, sum, a.first, ap ending c.in-Some.ensures.steps.0);
    }
