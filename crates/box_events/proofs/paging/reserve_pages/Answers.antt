use Rattle.std.proofs.Common.{◌∙◌, ap, sym, subst, arith, length}
use Rattle.std.proofs.lemmas.List.{length_push}
use Rattle.box_events.specs.BoxViews.{BoxView}
use Rattle.box_events.specs.inner.Chains.{AreFresh}
use Rattle.box_events.proofs.PageChains.{fresh_push}
use Rattle.box_events.proofs.paging.reserve_pages.Goals as goal

pub loop-pages-preserved : goal.loop-pages-preserved
loop-pages-preserved c =
    let i = c.loop-pages.invariant in
    let page = c.reserve-in-loop-pages.new.self in
    let items = c.push_reserved.ensures.items in
    let empty = c.reserve-in-loop-pages.ensures.events ∙ ap (λ (x : BoxView). x.events) c.new-page.ensures in
    record {
      fresh = subst AreFresh (sym items) (fresh_push c.loop-pages.spares.items page i.fresh empty c.in_ok-reserve-3.ensures.ok);
      few = omega (arith, c.loop-pages-test.true, c.len-in-loop-pages.ensures, c.loop-pages.spares.ok.0, c.push_reserved.ensures.len);
      room = omega (arith, i.room, c.push_reserved.ensures.capacity);
      slots = i.slots;
      more = omega (arith, i.more, ap length items, length_push c.loop-pages.spares.items page);
    }
