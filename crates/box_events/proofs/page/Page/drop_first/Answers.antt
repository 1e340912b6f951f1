use Rattle.std.proofs.Common.{◌∙◌, ap, ap₂, sym, subst, arith, ◌≡◌, length, drop, take, ◌+◌}
use Rattle.std.proofs.lemmas.List.{length-drop}
use Rattle.box_events.specs.Boxes.{ending, AreCounted}
use Rattle.box_events.specs.BoxViews.{BoxView}
use Rattle.box_events.specs.inner.Pages.{ends_from}
use Rattle.box_events.proofs.RunningEnds.{few_ends, end_read, ends_drop, sum_taken, counted_drop}
use Rattle.box_events.proofs.page.Page.drop_first.Goals as goal

pub index-requires : goal.index-requires
index-requires c =
    omega (arith, c.requires.some, ap (λ (b : BoxView). length b.events) c.self.view_is, few_ends c.self.inside.first c.self.inside.events.items c.self.inside.ends.items c.self.invariant.ends, c.self.inside.ends.ok.0, c.if-n-eq0.false)

pub drain-requires-clause-in_bounds : goal.drain-requires-clause-in_bounds
drain-requires-clause-in_bounds c =
    omega (arith, c.requires.some, ap (λ (b : BoxView). length b.events) c.self.view_is, few_ends c.self.inside.first c.self.inside.events.items c.self.inside.ends.items c.self.invariant.ends, c.self.inside.ends.ok.0)

pub returns-clause-first : goal.returns-clause-first
returns-clause-first c =
    end_read c.self.inside.first c.args.n c.index.result.now c.self.inside.events.items c.self.inside.ends.items c.self.invariant.ends c.if-n-eq0.false
    (omega (arith, c.requires.some, ap (λ (b : BoxView). length b.events) c.self.view_is)) c.index.ensures
    ∙ ap (λ (b : BoxView). b.first + ending (take c.args.n b.events)) c.self.view_is

pub invariant_of-self : goal.invariant_of-self
invariant_of-self c =
    let i = c.self.invariant in
    let n = c.args.n in
    let es = c.self.inside.events.items in
    let first : c.index.result.now ≡ c.self.inside.first + ending (take n es) =
    end_read c.self.inside.first n c.index.result.now es c.self.inside.ends.items i.ends c.if-n-eq0.false (omega (arith, c.requires.some, ap (λ (b : BoxView). length b.events) c.self.view_is)) c.index.ensures in
    let ends : c.drop-drain.new.self.0.items ≡ drop n c.self.inside.ends.items = c.drop-drain.ensures.items ∙ c.drain.ensures.kept in
    let items : c.drop-drain-2.new.self.0.items ≡ drop n es = c.drop-drain-2.ensures.items ∙ c.drain-2.ensures.kept in
    record {
      ends = ends ∙ ap (drop n) i.ends ∙ ends_drop c.self.inside.first n es ∙ ap₂ ends_from (sym first) (sym items);
      counted = subst AreCounted (sym items) (counted_drop n es i.counted);
      limit = omega (arith, i.limit, first, ap ending items, sum_taken n es);
      few = omega (arith, i.few, ap length items, length-drop n es);
      ends_room = omega (arith, i.ends_room, ap length ends, length-drop n c.self.inside.ends.items, c.drop-drain.new.self.0.ok.0, c.self.inside.ends.ok.0, c.drop-drain.ensures.capacity, c.drain.ensures.capacity);
      events_room = omega (arith, i.events_room, ap length items, length-drop n es, c.drop-drain-2.new.self.0.ok.0, c.self.inside.events.ok.0, c.drop-drain-2.ensures.capacity, c.drain-2.ensures.capacity);
    }
