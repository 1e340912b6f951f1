use Rattle.std.proofs.Common.{sym, ap, ◌∙◌, arith, List}
use Rattle.std.proofs.lemmas.Int.{to_z-of_z}
use Rattle.std.proofs.Common.{w64}
use Rattle.channel_box.specs.States.{ChannelView, states, has_id, first}
use Rattle.channel_box.specs.Looks.{recent_of}
use Rattle.channel_box.proofs.Indexes.{within, found, stands_at}
use Rattle.channel_box.proofs.channels.Channels.recent.Goals as goal

pub index-requires : goal.index-requires
index-requires c = omega (arith, within (has_id c.args.id) c.self.inside.channels.items c.in-Some.i (stands_at _ (has_id c.args.id) c.deref.result.now c.self.inside.channels.items c.in-Some.i (ap has_id (to_z-of_z w64 c.args.id c.ranges.id)) c.deref.ensures.value c.in-Some.ensures), c.self.inside.channels.ok.0)

pub returns-in-Some : goal.returns-in-Some
returns-in-Some c = c.recent.ensures
    ∙ ap recent_of (sym (ap (λ (vs : List ChannelView). first (has_id c.args.id) (states vs)) (sym c.self.view_is) ∙ found (has_id c.args.id) c.self.inside.channels.items c.in-Some.i c.index.result.now (stands_at _ (has_id c.args.id) c.deref.result.now c.self.inside.channels.items c.in-Some.i (ap has_id (to_z-of_z w64 c.args.id c.ranges.id)) c.deref.ensures.value c.in-Some.ensures) c.index.ensures))
