use Rattle.std.proofs.Common.{ℤ, refl, subst, ◌∙◌, ◌≡◌, ◌++◌, ◌∷◌, [], Ok, Err, rules, w64}
use Rattle.std.proofs.lemmas.Int.{to_z-of_z}
use Rattle.std.proofs.lemmas.Result.{err_from_is_err_and}
use Rattle.box_events.specs.declared.updates.Update.TheVariants.{Channel as ChannelUpdate}
use Rattle.box_server.specs.inner.Drafts.{AddsToChannel}
use Rattle.box_server.proofs.Drafting.{refuses_channel, adds_channel}
use Rattle.box_server.proofs.draft.Draft.add_channel.Goals as goal

pub returns : goal.returns
returns c = λ s fits.
    let id : _ ≡ c.args.id = to_z-of_z w64 c.args.id (search rules) in
    adds_channel s c.args.self.now _ c.args.id c.args.event c.in_ok-pts.pts refl (subst (λ (z : ℤ). AddsToChannel c.args.self.now.channels.items c.add_to.new.tails.items z c.args.event (Ok c.in_ok-pts.pts)) id c.in_ok-pts.ensures)
    (c.in_ok-push.ensures.ok ∙ (λ i. c.args.self.now.updates ++ ChannelUpdate (id i) (c.in_ok-copy.ensures i) c.in_ok-pts.pts ∷ [])) fits

pub returns-in_err-pts : goal.returns-in_err-pts
returns-in_err-pts c = λ s fits.
    let p = err_from_is_err_and c.from_residual-in_err-pts.result c.from_residual-in_err-pts.ensures.1 in
    let id : _ ≡ c.args.id = to_z-of_z w64 c.args.id (search rules) in
    rw (p.1, p.2) (refuses_channel s c.args.self.now c.args.self.now c.add_to.new.tails.items c.args.id c.args.event c.in_err-pts.field-0.0 (subst (λ (z : ℤ). AddsToChannel c.args.self.now.channels.items c.add_to.new.tails.items z c.args.event (Err c.in_err-pts.field-0.0)) id c.in_err-pts.ensures) fits)
