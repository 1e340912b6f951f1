use Rattle.std.proofs.Common.{ℤ, refl, arith, ap, ap₂, sym, subst, ◌∙◌, ◌≡◌, Some, None, Ok, rules, w64}
use Rattle.std.proofs.lemmas.Int.{to_z-of_z}
use Rattle.box_events.specs.declared.positions.LaneName.TheVariants.{Channel}
use Rattle.box_server.specs.Servers.{empty_channel}
use Rattle.box_server.specs.inner.Drafts.{AddsTo, tail_index}
use Rattle.box_server.proofs.Tailing.{found_at, added_at, added_new}
use Rattle.box_server.proofs.tail.add_to.Goals as goal

pub returns-in_default : goal.returns-in_default
returns-in_default c =
    let id : _ ≡ c.args.id = to_z-of_z w64 c.args.id (search rules) in
    let none : tail_index 0 c.args.id c.args.tails.now.items ≡ None = ap₂ (tail_index 0) (sym id) (sym c.deref.ensures.value) ∙ sym c.in_default.ensures in
    added_new c.args.tails.now.items c.push.new.self.items c.args.id c.args.event c.new-tail.result c.add.new.self c.in_ok-end.end none (c.new-tail.ensures ∙ ap empty_channel id) c.in_ok-push.ensures.items
    (subst (λ (z : ℤ). AddsTo (Channel z) c.new-tail.result c.add.new.self c.args.event (Ok c.in_ok-end.end)) id c.in_ok-end.ensures)

pub index_mut-requires : goal.index_mut-requires
index_mut-requires c =
    let at : tail_index 0 c.args.id c.args.tails.now.items ≡ Some c.in-Some.i = ap₂ (tail_index 0) (sym (to_z-of_z w64 c.args.id (search rules))) (sym c.deref.ensures.value) ∙ sym c.in-Some.ensures in
    let k = found_at 0 c.args.id c.args.tails.now.items c.in-Some.i at in
    let place = k.place in
    let within = k.within in
    omega (arith, place, within, c.args.tails.now.ok.0)

pub returns : goal.returns
returns c =
    let at : tail_index 0 c.args.id c.args.tails.now.items ≡ Some c.in-Some.i = ap₂ (tail_index 0) (sym (to_z-of_z w64 c.args.id (search rules))) (sym c.deref.ensures.value) ∙ sym c.in-Some.ensures in
    added_at c.args.tails.now.items _ c.args.id c.args.event c.index_mut.result.now c.add-2.new.self c.in-Some.i c.add-2.result at c.index_mut.ensures.value refl
    (subst (λ (z : ℤ). AddsTo (Channel z) c.index_mut.result.now c.add-2.new.self c.args.event c.add-2.result) (to_z-of_z w64 c.args.id (search rules)) c.add-2.ensures)
