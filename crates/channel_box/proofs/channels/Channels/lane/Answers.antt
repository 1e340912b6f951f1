use Rattle.std.proofs.Common.{sym, ap, ◌∙◌, arith, List}
use Rattle.std.proofs.lemmas.Int.{to_z-of_z}
use Rattle.std.proofs.Common.{w64}
use Rattle.channel_box.specs.States.{ChannelView, states, has_id, first}
use Rattle.channel_box.proofs.Indexes.{within, found, stands_at, lane_found}
use Rattle.channel_box.proofs.channels.Channels.lane.Goals as goal

pub index-requires : goal.index-requires
index-requires c = omega (arith, within (has_id c.args.id) c.self.inside.channels.items c.in_ok-i.i (stands_at _ (has_id c.args.id) c.deref.result.now c.self.inside.channels.items c.in_ok-i.i (ap has_id (to_z-of_z w64 c.args.id c.ranges.id)) c.deref.ensures.value c.in_ok-i.ensures), c.self.inside.channels.ok.0)

pub returns : goal.returns
returns c = lane_found (first (has_id c.args.id) (states c.args.self.now)) c.index.result.now.state c.lane.result.now.state
    (ap (λ (vs : List ChannelView). first (has_id c.args.id) (states vs)) (sym c.self.view_is) ∙ found (has_id c.args.id) c.self.inside.channels.items c.in_ok-i.i c.index.result.now (stands_at _ (has_id c.args.id) c.deref.result.now c.self.inside.channels.items c.in_ok-i.i (ap has_id (to_z-of_z w64 c.args.id c.ranges.id)) c.deref.ensures.value c.in_ok-i.ensures) c.index.ensures)
    c.lane.ensures.state
