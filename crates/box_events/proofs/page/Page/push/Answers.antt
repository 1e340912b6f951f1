use Rattle.std.proofs.Common.{◌∙◌, ◌++◌, ◌∷◌, [], ap, sym, subst, arith, List, ℕ, length, ◌+◌}
use Rattle.std.proofs.lemmas.List.{length_push}
use Rattle.box_events.specs.Boxes.{ending, AreCounted}
use Rattle.box_events.specs.BoxViews.{BoxView, end_of}
use Rattle.box_events.specs.inner.Pages.{ends_from}
use Rattle.box_events.proofs.Boundaries.{ending-append, counted-append}
use Rattle.box_events.proofs.RunningEnds.{ends_push}
use Rattle.box_events.proofs.page.Page.push.Goals as goal

pub invariant_of-self : goal.invariant_of-self
invariant_of-self c =
    let i = c.self.invariant in
    let es = c.self.inside.events.items in
    let e = c.args.event in
    let ends = ap end_of c.self.view_is in
    let spare = ap (λ (b : BoxView). b.spare) c.self.view_is in
    let items = c.push_reserved-2.ensures.items in
    record {
      ends = c.push_reserved.ensures.items
          ∙ ap (λ (l : List ℕ). l ++ (c.end.result + c.count.result) ∷ []) i.ends
          ∙ ends_push c.self.inside.first (c.end.result + c.count.result) es e (omega (arith, c.end.ensures, c.count.ensures.value, ends))
          ∙ ap (ends_from c.self.inside.first) (sym items);
      counted = subst AreCounted (sym items) (counted-append es (e ∷ []) i.counted (omega (arith, c.count.ensures.value, c.count.ensures.some), tt));
      limit = omega (arith, c.requires.limit, ends, ap ending items, ending-append es (e ∷ []));
      few = omega (arith, i.few, spare, c.requires.room, ap length items, length_push es e);
      ends_room = omega (arith, i.ends_room, spare, c.requires.room, c.push_reserved.ensures.len, c.push_reserved.ensures.capacity);
      events_room = omega (arith, i.events_room, spare, c.requires.room, c.push_reserved-2.ensures.len, c.push_reserved-2.ensures.capacity);
    }
