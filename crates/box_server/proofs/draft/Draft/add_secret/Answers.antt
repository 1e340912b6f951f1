use Rattle.std.proofs.Common.{refl, ap, subst, ◌∙◌, ◌++◌, ◌∷◌, [], Ok, Err}
use Rattle.std.proofs.lemmas.Result.{err_from_is_err_and}
use Rattle.box_events.specs.declared.positions.LaneName.TheVariants.{Secret}
use Rattle.box_events.specs.declared.updates.Update.TheVariants.{Secret as SecretUpdate}
use Rattle.box_events.specs.Events.{EventView}
use Rattle.box_server.specs.inner.Drafts.{AddsTo}
use Rattle.box_server.proofs.Drafting.{refuses_secret, adds_secret}
use Rattle.box_server.proofs.draft.Draft.add_secret.Goals as goal

pub returns : goal.returns
returns c = λ s fits.
    adds_secret s c.args.self.now _ c.args.body c.in_ok-qts.qts refl (subst (λ (e : EventView). AddsTo Secret c.args.self.now.secret c.add.new.self e (Ok c.in_ok-qts.qts)) c.new_message.ensures c.in_ok-qts.ensures)
    (c.in_ok-push.ensures.ok ∙ ap (λ b. c.args.self.now.updates ++ SecretUpdate b c.in_ok-qts.qts ∷ []) c.in_ok-copy.ensures) fits

pub returns-in_err-qts : goal.returns-in_err-qts
returns-in_err-qts c = λ s fits.
    let p = err_from_is_err_and c.from_residual-in_err-qts.result c.from_residual-in_err-qts.ensures.1 in
    rw (p.1, p.2) (refuses_secret s c.args.self.now c.args.self.now c.add.new.self c.args.body c.in_err-qts.field-0.0 (subst (λ (e : EventView). AddsTo Secret c.args.self.now.secret c.add.new.self e (Err c.in_err-qts.field-0.0)) c.new_message.ensures c.in_err-qts.ensures) fits)
