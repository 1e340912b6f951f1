use Rattle.std.proofs.Common.{◌∙◌, ap, sym, length}
use Rattle.box_events.specs.BoxViews.{BoxView}
use Rattle.box_events.specs.inner.Pages.{ends_from}
use Rattle.box_events.proofs.RunningEnds.{suffix_all, suffix_part, suffix_found_within, suffix_missed}
use Rattle.box_events.proofs.page.Page.suffix_at.Goals as goal

pub returns-then-at-self : goal.returns-then-at-self
returns-then-at-self c =
    suffix_all c.args.self.now c.args.at c.deref.result.now (c.if-at-self.true ∙ ap (λ (b : BoxView). b.first) c.self.view_is) (c.deref.ensures.value ∙ ap (λ (b : BoxView). b.events) c.self.view_is)

pub returns-in-Err : goal.returns-in-Err
returns-in-Err c =
    suffix_missed c.args.self.now c.deref-2.result.now c.args.at c.in-Err.field-0
    (c.deref-2.ensures.value ∙ c.self.invariant.ends ∙ ap (λ (b : BoxView). ends_from b.first b.events) c.self.view_is)
    (λ is. c.if-at-self.false (is ∙ sym (ap (λ (b : BoxView). b.first) c.self.view_is))) c.in-Err.ensures.position

pub split_at-requires : goal.split_at-requires
split_at-requires c =
    suffix_found_within c.args.self.now c.deref-2.result.now c.args.at c.in-Ok.i (length c.deref-in-Ok.result.now)
    (c.deref-2.ensures.value ∙ c.self.invariant.ends ∙ ap (λ (b : BoxView). ends_from b.first b.events) c.self.view_is)
    (ap length (c.deref-in-Ok.ensures.value ∙ ap (λ (b : BoxView). b.events) c.self.view_is)) c.in-Ok.ensures.position

pub returns-in-Ok : goal.returns-in-Ok
returns-in-Ok c =
    suffix_part c.args.self.now c.deref-2.result.now c.args.at c.in-Ok.i c.deref-in-Ok.result.now c.split_at.result.1.now
    (c.deref-2.ensures.value ∙ c.self.invariant.ends ∙ ap (λ (b : BoxView). ends_from b.first b.events) c.self.view_is)
    (c.deref-in-Ok.ensures.value ∙ ap (λ (b : BoxView). b.events) c.self.view_is) c.split_at.ensures.back c.in-Ok.ensures.position
