use Rattle.std.proofs.Common.{arith, ap, sym, ◌∙◌, ◌≤◌, ◌++◌, length, map, List}
use Rattle.std.proofs.lemmas.List.{nil_from_length, length-map}
use Rattle.box_server.specs.Servers.{ChannelBox}
use Rattle.box_server.specs.inner.Insides.{channel_view}
use Rattle.box_server.specs.inner.Rooms.{grown}
use Rattle.box_server.proofs.Roominess.{all_views, all_length, all_end, all_room, aligned_length, grown_joined, whole_list}
use Rattle.box_server.proofs.room.grow.Goals as goal

pub append_each-requires-clause-all : goal.append_each-requires-clause-all
append_each-requires-clause-all c =
    let is = whole_list c.loop-channel.channels.items c.loop-channel.channel-iterator.rest.items (c.args.channels.now.items ++ c.args.opened.items) (nil_from_length c.loop-channel.channel-iterator.rest.items (sym c.loop-channel.channel-iterator.rest.ok.0 ∙ c.in-None.ensures.steps.0)) c.loop-channel.invariant.all in
    let le : length c.args.channels.now.items ≤ length c.args.tails.items = omega (arith, aligned_length (map channel_view c.args.channels.now.items) c.args.tails.items c.requires.aligned, length-map c.args.channels.now.items channel_view) in
    omega (arith, all_length c.args.channels.now.items c.args.opened.items c.loop-channel.channels.items c.args.tails.items is c.requires.room.empty le)

pub append_each-requires-clause-room : goal.append_each-requires-clause-room
append_each-requires-clause-room c =
    let is = whole_list c.loop-channel.channels.items c.loop-channel.channel-iterator.rest.items (c.args.channels.now.items ++ c.args.opened.items) (nil_from_length c.loop-channel.channel-iterator.rest.items (sym c.loop-channel.channel-iterator.rest.ok.0 ∙ c.in-None.ensures.steps.0)) c.loop-channel.invariant.all in
    let le : length c.args.channels.now.items ≤ length c.args.tails.items = omega (arith, aligned_length (map channel_view c.args.channels.now.items) c.args.tails.items c.requires.aligned, length-map c.args.channels.now.items channel_view) in
    all_room c.args.channels.now.items c.args.opened.items c.loop-channel.channels.items c.args.tails.items is (all_length c.args.channels.now.items c.args.opened.items c.loop-channel.channels.items c.args.tails.items is c.requires.room.empty le) c.requires.room.room c.requires.room.new_room

pub append_each-requires-clause-ends : goal.append_each-requires-clause-ends
append_each-requires-clause-ends c =
    let is = whole_list c.loop-channel.channels.items c.loop-channel.channel-iterator.rest.items (c.args.channels.now.items ++ c.args.opened.items) (nil_from_length c.loop-channel.channel-iterator.rest.items (sym c.loop-channel.channel-iterator.rest.ok.0 ∙ c.in-None.ensures.steps.0)) c.loop-channel.invariant.all in
    all_end c.args.channels.now.items c.args.opened.items c.loop-channel.channels.items c.args.tails.items is c.requires.room.empty c.requires.aligned

pub returns : goal.returns
returns c =
    let is = whole_list c.loop-channel.channels.items c.loop-channel.channel-iterator.rest.items (c.args.channels.now.items ++ c.args.opened.items) (nil_from_length c.loop-channel.channel-iterator.rest.items (sym c.loop-channel.channel-iterator.rest.ok.0 ∙ c.in-None.ensures.steps.0)) c.loop-channel.invariant.all in
    c.append_each.ensures ∙ ap (λ (l : List ChannelBox). grown l c.args.tails.items) (all_views c.args.channels.now.items c.args.opened.items c.loop-channel.channels.items c.args.tails.items is c.requires.room.empty)
    ∙ grown_joined (map channel_view c.args.channels.now.items) c.args.tails.items c.requires.aligned
