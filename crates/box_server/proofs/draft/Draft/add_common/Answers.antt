use Rattle.std.proofs.Common.{refl, ap, ◌∙◌, ◌++◌, ◌∷◌, []}
use Rattle.std.proofs.lemmas.Result.{err_from_is_err_and}
use Rattle.box_events.specs.declared.updates.Update.TheVariants.{Common as CommonUpdate}
use Rattle.box_events.specs.Events.{EventView}
use Rattle.box_server.proofs.Drafting.{refuses_common, adds_common}
use Rattle.box_server.proofs.draft.Draft.add_common.Goals as goal

pub returns : goal.returns
returns c = λ s fits.
    adds_common s c.args.self.now _ c.args.event c.in_ok-pts.pts refl c.in_ok-pts.ensures (c.in_ok-push.ensures.ok ∙ ap (λ (e : EventView). c.args.self.now.updates ++ CommonUpdate e c.in_ok-pts.pts ∷ []) c.in_ok-copy.ensures) fits

pub returns-in_err-pts : goal.returns-in_err-pts
returns-in_err-pts c = λ s fits.
    let p = err_from_is_err_and c.from_residual-in_err-pts.result c.from_residual-in_err-pts.ensures.1 in
    rw (p.1, p.2) (refuses_common s c.args.self.now c.args.self.now c.add.new.self c.args.event c.in_err-pts.field-0.0 c.in_err-pts.ensures fits)
