use Rattle.std.proofs.Common.{◌≡◌, ◌∙◌, ◌++◌, ◌∷◌, [], refl, ap, arith}
use Rattle.box_events.specs.BoxViews.{BoxView}
use Rattle.box_events.specs.inner.Chains.{joined}
use Rattle.box_events.specs.inner.Insides.{box_view}
use Rattle.box_events.proofs.BoxFacts.{same_events, stays_box, same_view, on_err}
use Rattle.box_events.proofs.event_box.EventBox.reserve.Goals as goal

pub invariant_of-self : goal.invariant_of-self
invariant_of-self c =
    let i = c.self.invariant in
    let r = c.in_err-reserve_events.ensures in
    let old = c.self.inside in
    stays_box old (record { pages = c.reserve_events.new.pages; last = c.reserve_events.new.last; spares = c.reserve_events.new.spares; first = old.first; end = old.end; len = old.len; spare = old.spare }) i
    refl refl refl r.pages r.first r.events r.fresh (omega (arith, i.room, r.spare, r.more)) r.slots

pub returns-in_err-reserve_events-clause-events : goal.returns-in_err-reserve_events-clause-events
returns-in_err-reserve_events-clause-events c =
    let r = c.in_err-reserve_events.ensures in
    let old = c.self.inside in
    same_events old (record { pages = c.reserve_events.new.pages; last = c.reserve_events.new.last; spares = c.reserve_events.new.spares; first = old.first; end = old.end; len = old.len; spare = old.spare }) r.pages r.events
    ∙ ap (λ (b : BoxView). b.events) c.self.view_is

pub returns-in_err-reserve_events-clause-err : goal.returns-in_err-reserve_events-clause-err
returns-in_err-reserve_events-clause-err c =
    let r = c.in_err-reserve_events.ensures in
    let old = c.self.inside in
    let new : BoxView = record { first = old.first; events = joined (c.reserve_events.new.pages.items ++ c.reserve_events.new.last ∷ []); spare = old.spare } in
    let events =
    same_events old (record { pages = c.reserve_events.new.pages; last = c.reserve_events.new.last; spares = c.reserve_events.new.spares; first = old.first; end = old.end; len = old.len; spare = old.spare }) r.pages r.events in
    on_err c.from_residual.result (new ≡ c.args.self.now) (same_view new (box_view old) refl events refl ∙ c.self.view_is)

pub invariant_of-self-2 : goal.invariant_of-self-2
invariant_of-self-2 c =
    let i = c.self.invariant in
    let r = c.in_ok-reserve_events.ensures in
    let old = c.self.inside in
    stays_box old (record { pages = c.reserve_events.new.pages; last = c.reserve_events.new.last; spares = c.reserve_events.new.spares; first = old.first; end = old.end; len = old.len; spare = c.args.more }) i
    refl refl refl r.pages r.first r.events r.fresh r.ok r.slots

pub returns-clause-events : goal.returns-clause-events
returns-clause-events c =
    let r = c.in_ok-reserve_events.ensures in
    let old = c.self.inside in
    same_events old (record { pages = c.reserve_events.new.pages; last = c.reserve_events.new.last; spares = c.reserve_events.new.spares; first = old.first; end = old.end; len = old.len; spare = c.args.more }) r.pages r.events
    ∙ ap (λ (b : BoxView). b.events) c.self.view_is
