use Rattle.std.proofs.Common.{◌≡◌, ◌∙◌, ◌-◌, ◌++◌, ◌∷◌, [], List, refl, ap, subst, arith, length, drop}
use Rattle.std.proofs.lemmas.List.{length-drop}
use Rattle.box_events.specs.BoxViews.{BoxView, KeepsLast}
use Rattle.box_events.specs.inner.Chains.{joined, IsCut}
use Rattle.box_events.proofs.PageChains.{few_first, dropped_is}
use Rattle.box_events.proofs.BoxFacts.{left_box, keeps_last}
use Rattle.box_events.proofs.event_box.EventBox.keep_last.Goals as goal

pub drop_first-self-inside-requires : goal.drop_first-self-inside-requires
drop_first-self-inside-requires c =
    let i = c.self.invariant in
    let pages = c.self.inside.pages.items in
    let n = c.self.inside.len - c.args.n in
    let cut = subst (λ (l : List BoxView). IsCut l n c.whole_pages-whole.result.0 c.whole_pages-whole.result.1) c.deref.ensures.value c.whole_pages-whole.ensures in
    record {
      some = few_first n c.whole_pages-whole.result.0 c.whole_pages-whole.result.1 pages c.drop-drain.new.self.0.items c.self.inside.last cut (omega (arith, i.number)) (c.drop-drain.ensures.items ∙ c.drain.ensures.kept);
    }

pub invariant_of-self : goal.invariant_of-self
invariant_of-self c =
    let i = c.self.invariant in
    let pages = c.self.inside.pages.items in
    let n = c.self.inside.len - c.args.n in
    let whole = c.whole_pages-whole.result.0 in
    let kept : c.drop-drain.new.self.0.items ≡ drop whole pages = c.drop-drain.ensures.items ∙ c.drain.ensures.kept in
    let cut = subst (λ (l : List BoxView). IsCut l n whole c.whole_pages-whole.result.1) c.deref.ensures.value c.whole_pages-whole.ensures in
    let new = c.drop_first-self-inside.new.pages.items ++ c.drop_first-self-inside.new.last ∷ [] in
    let left = dropped_is c.self.inside.first n whole c.whole_pages-whole.result.1 c.drop_first-self-inside.result pages c.drop-drain.new.self.0.items new c.self.inside.last i.chained cut (omega (arith, i.number)) kept
    c.drop_first-self-inside.ensures.drops in
    left_box c.self.inside
    (record { pages = c.drop_first-self-inside.new.pages; last = c.drop_first-self-inside.new.last; spares = c.self.inside.spares; first = c.drop_first-self-inside.result; end = c.self.inside.end; len = c.args.n; spare = c.self.inside.spare })
    c.args.n i c.if-self-n.false left refl refl i.fresh (omega (arith, i.room, c.drop_first-self-inside.ensures.spare))
    (omega (arith, i.slots, c.drop_first-self-inside.ensures.len, c.drop_first-self-inside.ensures.capacity, c.drop-drain.ensures.capacity, c.drain.ensures.capacity, c.drop-drain.new.self.0.ok.0, c.self.inside.pages.ok.0, ap length kept, length-drop whole pages))

pub returns : goal.returns
returns c =
    let i = c.self.invariant in
    let pages = c.self.inside.pages.items in
    let n = c.self.inside.len - c.args.n in
    let whole = c.whole_pages-whole.result.0 in
    let kept : c.drop-drain.new.self.0.items ≡ drop whole pages = c.drop-drain.ensures.items ∙ c.drain.ensures.kept in
    let cut = subst (λ (l : List BoxView). IsCut l n whole c.whole_pages-whole.result.1) c.deref.ensures.value c.whole_pages-whole.ensures in
    let new = c.drop_first-self-inside.new.pages.items ++ c.drop_first-self-inside.new.last ∷ [] in
    let left = dropped_is c.self.inside.first n whole c.whole_pages-whole.result.1 c.drop_first-self-inside.result pages c.drop-drain.new.self.0.items new c.self.inside.last i.chained cut (omega (arith, i.number)) kept
    c.drop_first-self-inside.ensures.drops in
    let after : BoxView = record { first = c.drop_first-self-inside.result; events = joined new; spare = c.self.inside.spare } in
    subst (λ (b : BoxView). KeepsLast b after c.args.n) c.self.view_is (keeps_last c.self.inside after c.args.n new i left refl refl)
