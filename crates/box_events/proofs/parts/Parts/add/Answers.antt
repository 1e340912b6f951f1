use Rattle.std.proofs.Common.{◌≡◌, List, ◌++◌, ◌∷◌, [], sym, ap, ◌∙◌, refl}
use Rattle.box_events.specs.Events.{EventView}
use Rattle.box_events.proofs.Added.{Grows, grows_message, grows_other}
use Rattle.box_events.proofs.parts.Parts.add.Goals as goal
use Rattle.box_events.proofs.parts.Parts.add.Goals.{then-is_message+in_ok-body+in_ok-push, else-is_message+in_ok-event+in_ok-push-2}

grown : (c : goal.After-self-1) → (c.if-is_message.self-inside.from ≡ c.self.inside.from) × Grows c.self.inside.from c.self.inside.at c.self.inside.news.items c.self.inside.others.items c.args.event.now c.count.result c.if-is_message.self-inside.news.items c.if-is_message.self-inside.others.items
grown c = elim c.if-is_message.branch [
  | then-is_message+in_ok-body+in_ok-push w ↦ rw w.self-inside-is (refl, grows_message c.self.inside.from c.self.inside.at c.self.inside.news.items c.self.inside.others.items c.args.event.now c.count.result w.push.new.self.items w.in_ok-body.body c.count.ensures.value (sym c.is_message.ensures ∙ w.if-is_message.true) (w.in_ok-body.ensures ∙ w.body.ensures) w.in_ok-push.ensures.items c.self.invariant)
  | else-is_message+in_ok-event+in_ok-push-2 w ↦ rw w.self-inside-is (refl, grows_other c.self.inside.from c.self.inside.at c.self.inside.news.items c.self.inside.others.items c.args.event.now c.count.result w.push-else-is_message.new.self.items w.in_ok-event.event c.count.ensures.value (sym c.is_message.ensures ∙ w.if-is_message.false) w.in_ok-event.ensures w.in_ok-push-2.ensures.items c.self.invariant)
]

pub invariant_of-self-2 : goal.invariant_of-self-2
invariant_of-self-2 c = let g = grown c in rw g.0 g.1.woven

pub returns-clause-ok : goal.returns-clause-ok
returns-clause-ok c = let g = grown c in rw g.0 (g.1.events ∙ ap (λ (l : List EventView). l ++ c.args.event.now ∷ []) (ap (λ s. s.events) c.self.view_is))
