use Rattle.std.proofs.Common.{◌≡◌, ◌∙◌, ◌++◌, ◌∷◌, [], List, ap, sym, subst, arith, length}
use Rattle.std.proofs.lemmas.List.{length_push}
use Rattle.box_events.specs.Events.{EventView}
use Rattle.box_events.specs.Boxes.{ending, AreCounted}
use Rattle.box_events.specs.BoxViews.{BoxView, end_of}
use Rattle.box_events.specs.inner.Chains.{joined}
use Rattle.box_events.specs.inner.Insides.{pages_of}
use Rattle.box_events.proofs.Boundaries.{ending-append, counted-append}
use Rattle.box_events.proofs.PageChains.{chain_stop, chained_last, joined_with, counted_length, last_between}
use Rattle.box_events.proofs.event_box.EventBox.append.Goals as goal

pub make_room-requires-clause-limit : goal.make_room-requires-clause-limit
make_room-requires-clause-limit c =
    let i = c.self.invariant in
    omega (arith, i.stop, i.limit, chain_stop c.self.inside.first c.self.inside.pages.items c.self.inside.last i.chained)

pub push-requires-clause-limit : goal.push-requires-clause-limit
push-requires-clause-limit c =
    let i = c.self.invariant in
    omega (arith, i.stop, i.limit, chain_stop c.self.inside.first c.self.inside.pages.items c.self.inside.last i.chained, c.in_ok-make_room.ensures.end, c.if-count-self.false, c.count-count.ensures.value)

pub overflow_add-self-2 : goal.overflow_add-self-2
overflow_add-self-2 c =
    let i = c.self.invariant in
    omega (arith, i.stop, i.limit, i.number, counted_length (joined (pages_of c.self.inside)) i.counted)

pub invariant_of-self-2 : goal.invariant_of-self-2
invariant_of-self-2 c =
    let i = c.self.invariant in
    let r = c.in_ok-make_room.ensures in
    let e = c.args.event in
    let old = joined (pages_of c.self.inside) in
    let pages = c.make_room.new.pages.items in
    let all : joined (pages ++ c.push.new.self ∷ []) ≡ old ++ e ∷ [] =
    joined_with pages c.make_room.new.last c.push.new.self e (ap (λ (b : BoxView). b.events) c.push.ensures) ∙ ap (λ (l : List EventView). l ++ e ∷ []) r.events in
    record {
      stop = omega (arith, i.stop, ap ending all, ending-append old (e ∷ []), c.count-count.ensures.value);
      limit = omega (arith, i.limit, c.if-count-self.false);
      counted = subst AreCounted (sym all) (counted-append old (e ∷ []) i.counted (omega (arith, c.count-count.ensures.value, c.count-count.ensures.some), tt));
      number = omega (arith, i.number, ap length all, length_push old e);
      chained = chained_last c.self.inside.first pages c.make_room.new.last c.push.new.self (r.chained c.self.inside.first i.chained) (ap (λ (b : BoxView). b.first) c.push.ensures);
      fresh = r.fresh;
      room = omega (arith, r.room, r.ok, ap (λ (b : BoxView). b.spare) c.push.ensures, c.saturating_sub-self-inside.ensures);
      slots = r.slots;
    }

pub returns-clause-answer : goal.returns-clause-answer
returns-clause-answer c =
    let i = c.self.invariant in
    let r = c.in_ok-make_room.ensures in
    let e = c.args.event in
    let pages = c.make_room.new.pages.items in
    record {
      limit = omega (arith, ap end_of c.self.view_is, i.stop, i.limit, c.if-count-self.false, c.count-count.ensures.value);
      events = joined_with pages c.make_room.new.last c.push.new.self e (ap (λ (b : BoxView). b.events) c.push.ensures)
          ∙ ap (λ (l : List EventView). l ++ e ∷ []) r.events
          ∙ ap (λ (b : BoxView). b.events ++ e ∷ []) c.self.view_is;
      first = ap (λ (b : BoxView). b.first) c.self.view_is;
      spare = omega (arith, ap (λ (b : BoxView). b.spare) c.self.view_is, c.saturating_sub-self-inside.ensures);
    }

pub returns-clause-stretch : goal.returns-clause-stretch
returns-clause-stretch c =
    let e = c.args.event in
    let pages = c.make_room.new.pages.items in
    let new : BoxView = record { first = c.self.inside.first; events = joined (pages ++ c.push.new.self ∷ []); spare = c.saturating_sub-self-inside.result } in
    last_between c.args.self.now new e (ap (λ (b : BoxView). b.first) c.self.view_is)
    (joined_with pages c.make_room.new.last c.push.new.self e (ap (λ (b : BoxView). b.events) c.push.ensures)
    ∙ ap (λ (l : List EventView). l ++ e ∷ []) c.in_ok-make_room.ensures.events
    ∙ ap (λ (b : BoxView). b.events ++ e ∷ []) c.self.view_is)
