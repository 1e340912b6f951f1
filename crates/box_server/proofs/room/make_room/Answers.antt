use Rattle.std.proofs.Common.{arith, map}
use Rattle.std.proofs.lemmas.List.{length-map}
use Rattle.box_server.specs.inner.Insides.{channel_view}
use Rattle.box_server.proofs.Roominess.{aligned_length, views_length}
use Rattle.box_server.proofs.room.make_room.Goals as goal

pub reserve_each-requires : goal.reserve_each-requires
reserve_each-requires c = omega (arith, aligned_length (map channel_view c.args.channels.now.items) c.args.tails.now c.requires, length-map c.args.channels.now.items channel_view)

pub split_at-requires : goal.split_at-requires
split_at-requires c =
    omega (arith, aligned_length (map channel_view c.args.channels.now.items) c.args.tails.now c.requires, length-map c.args.channels.now.items channel_view, views_length c.reserve_each.new.channels.items c.args.channels.now.items c.reserve_each.ensures.same, c.len.ensures, c.reserve_each.new.channels.ok.0)
