use Rattle.std.proofs.Common.{refl, ap, ◌∙◌, ◌++◌, ◌∷◌, []}
use Rattle.box_events.specs.declared.updates.Update.TheVariants.{Setting as SettingUpdate}
use Rattle.box_server.proofs.Drafting.{adds_setting}
use Rattle.box_server.proofs.draft.Draft.add_setting.Goals as goal

pub returns : goal.returns
returns c = λ s fits.
    adds_setting s c.args.self.now _ c.args.setting c.args.self.now.date refl c.if-self-ge-MAX_END.false refl refl c.in_ok-push.ensures.items (c.in_ok-push-2.ensures.ok ∙ ap (λ x. c.args.self.now.updates ++ SettingUpdate x ∷ []) c.in_ok-copy.ensures) fits
