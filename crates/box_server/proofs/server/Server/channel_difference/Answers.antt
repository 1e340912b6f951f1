use Rattle.std.proofs.Common.{◌≡◌, ℤ, ap, ap₂, sym, subst, ◌∙◌, rules, w32, w64}
use Rattle.std.proofs.lemmas.Int.{to_z-of_z}
use Rattle.std.proofs.lemmas.Result.{IfOk-weaker}
use Rattle.box_server.specs.Answers.{channel_difference}
use Rattle.box_server.specs.Servers.{channel_in, empty_channel}
use Rattle.box_server.specs.inner.Carrying.{boxed}
use Rattle.box_server.proofs.server.Server.channel_difference.Goals as goal

pub returns-in-None : goal.returns-in-None
returns-in-None c =
    let none : channel_in c.args.self.now.channels c.args.id ≡ empty_channel c.args.id = subst (λ (z : ℤ). channel_in c.args.self.now.channels z ≡ empty_channel z) (to_z-of_z w64 c.args.id (search rules)) c.in-None.ensures in
    IfOk-weaker c.channel_reply-in-None.result _ _ (λ r h. h c.args.id ∙ ap₂ channel_difference (ap (boxed c.args.id) c.new.ensures ∙ sym none) (to_z-of_z w32 c.args.pts (search rules))) c.channel_reply-in-None.ensures

pub returns-in-Some : goal.returns-in-Some
returns-in-Some c =
    let some : channel_in c.args.self.now.channels c.args.id ≡ boxed c.args.id c.in-Some.events.now = subst (λ (z : ℤ). channel_in c.args.self.now.channels z ≡ boxed z c.in-Some.events.now) (to_z-of_z w64 c.args.id (search rules)) c.in-Some.ensures in
    IfOk-weaker c.channel_reply.result _ _ (λ r h. h c.args.id ∙ ap₂ channel_difference (sym some) (to_z-of_z w32 c.args.pts (search rules))) c.channel_reply.ensures
