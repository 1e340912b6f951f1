use Rattle.std.proofs.Common.{◌∙◌, ap, arith, subst, length}
use Rattle.std.proofs.lemmas.List.{length_push}
use Rattle.box_events.specs.BoxViews.{BoxView}
use Rattle.box_events.specs.inner.Chains.{AreFresh}
use Rattle.box_events.proofs.PageChains.{fresh_pop}
use Rattle.box_events.proofs.paging.next_page.Goals as goal

pub begin-requires-clause-empty : goal.begin-requires-clause-empty
begin-requires-clause-empty c = (fresh_pop c.pop.new.self.items c.in-Some.page (subst AreFresh c.in-Some.ensures.items c.requires.fresh)).1

pub returns-in-Some-clause-empty : goal.returns-in-Some-clause-empty
returns-in-Some-clause-empty c = ap (λ (p : BoxView). p.events) c.begin.ensures ∙ (fresh_pop c.pop.new.self.items c.in-Some.page (subst AreFresh c.in-Some.ensures.items c.requires.fresh)).1

pub returns-in-Some-clause-room : goal.returns-in-Some-clause-room
returns-in-Some-clause-room c =
    let room = (fresh_pop c.pop.new.self.items c.in-Some.page (subst AreFresh c.in-Some.ensures.items c.requires.fresh)).2 in
    omega (arith, room, ap (λ (p : BoxView). p.spare) c.begin.ensures)

pub returns-in-Some-clause-spare : goal.returns-in-Some-clause-spare
returns-in-Some-clause-spare c =
    let room = (fresh_pop c.pop.new.self.items c.in-Some.page (subst AreFresh c.in-Some.ensures.items c.requires.fresh)).2 in
    omega (arith, room, ap (λ (p : BoxView). p.spare) c.begin.ensures, ap length c.in-Some.ensures.items, length_push c.pop.new.self.items c.in-Some.page)

pub returns-in-Some-clause-fresh : goal.returns-in-Some-clause-fresh
returns-in-Some-clause-fresh c = (fresh_pop c.pop.new.self.items c.in-Some.page (subst AreFresh c.in-Some.ensures.items c.requires.fresh)).0
