use Rattle.std.proofs.Common.{◌∙◌, sym, subst}
use Rattle.update_world.specs.inner.Reading.{HasFrame}
use Rattle.update_world.proofs.HeldMessages.{has_frame}
use Rattle.update_world.proofs.reading.frame_for.Goals as goal

pub sent_frame-requires-clause-frame : goal.sent_frame-requires-clause-frame
sent_frame-requires-clause-frame c =
    subst (HasFrame c.args.profile.now) (sym c.as_slice.ensures.value) (has_frame c.args.profile.now c.args.pool.now c.args.client c.args.packet c.in-Some.sent.now c.requires.messages c.in-Some.ensures (sym c.hears.ensures ∙ c.if-not-hears.false))
