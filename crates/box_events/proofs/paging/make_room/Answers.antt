use Rattle.std.proofs.Common.{◌∙◌, ◌++◌, ◌∷◌, [], List, ap, ap₂, sym, subst}
use Rattle.box_events.specs.BoxViews.{BoxView}
use Rattle.box_events.specs.inner.Chains.{joined, AreChained}
use Rattle.box_events.proofs.PageChains.{joined_same, joined_empty, chained_last, chained_more}
use Rattle.box_events.proofs.paging.make_room.Goals as goal

pub returns-then-len-lt-PAGE_EVENTS-clause-events : goal.returns-then-len-lt-PAGE_EVENTS-clause-events
returns-then-len-lt-PAGE_EVENTS-clause-events c = joined_same c.args.pages.now.items c.args.last.now c.reserve.new.self c.reserve.ensures.events

pub returns-then-len-lt-PAGE_EVENTS-clause-chained : goal.returns-then-len-lt-PAGE_EVENTS-clause-chained
returns-then-len-lt-PAGE_EVENTS-clause-chained c = λ first chain. chained_last first c.args.pages.now.items c.args.last.now c.reserve.new.self chain c.reserve.ensures.first

pub returns-clause-events : goal.returns-clause-events
returns-clause-events c =
    let pages = c.push_reserved.ensures.items ∙ ap₂ (λ (l : List BoxView) (x : BoxView). l ++ x ∷ []) c.in_ok-next.ensures.pages c.replace.ensures.value in
    ap (λ (l : List BoxView). joined (l ++ c.replace.new.dest ∷ [])) pages
    ∙ joined_empty c.args.pages.now.items c.args.last.now c.replace.new.dest (ap (λ (x : BoxView). x.events) c.replace.ensures.after ∙ c.in_ok-next.ensures.empty)

pub returns-clause-chained : goal.returns-clause-chained
returns-clause-chained c = λ first chain.
    let pages = c.push_reserved.ensures.items ∙ ap₂ (λ (l : List BoxView) (x : BoxView). l ++ x ∷ []) c.in_ok-next.ensures.pages c.replace.ensures.value in
    subst (λ (l : List BoxView). AreChained first (l ++ c.replace.new.dest ∷ [])) (sym pages)
    (chained_more first c.args.pages.now.items c.args.last.now c.replace.new.dest chain (ap (λ (x : BoxView). x.first) c.replace.ensures.after ∙ c.in_ok-next.ensures.first ∙ c.end.ensures))
