use Rattle.std.proofs.Common.{ℤ, ap, ◌∙◌, ◌++◌, ◌∷◌, [], rules, w64}
use Rattle.std.specs.List.{list_any}
use Rattle.std.specs.Ordering.{int_eq}
use Rattle.std.proofs.lemmas.Int.{to_z-of_z}
use Rattle.box_server.specs.Entries.{entry_of}
use Rattle.box_server.proofs.Openings.{known_noted, new_noted}
use Rattle.box_server.proofs.opening.note.Goals as goal

pub returns-then-is_among : goal.returns-then-is_among
returns-then-is_among c =
    known_noted c.args.ids.now.items c.in-Some.id (entry_of c.args.post.now) c.in-Some.ensures
    (c.if-is_among.ensures ∙ (λ i. list_any (λ j. int_eq j (to_z-of_z w64 c.in-Some.id (search rules) i)) (c.deref.ensures.value i)))

pub returns : goal.returns
returns c =
    new_noted c.args.ids.now.items c.push.new.self.items c.in-Some.id (entry_of c.args.post.now) c.in-Some.ensures
    (c.if-is_among.ensures ∙ (λ i. list_any (λ j. int_eq j (to_z-of_z w64 c.in-Some.id (search rules) i)) (c.deref.ensures.value i)))
    (c.in_ok-push.ensures.items ∙ ap (λ (z : ℤ). c.args.ids.now.items ++ z ∷ []) (to_z-of_z w64 c.in-Some.id (search rules)))
