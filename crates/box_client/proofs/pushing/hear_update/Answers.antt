use Rattle.std.proofs.Common.{arith, subst, ◌∷◌, ℤ, ap, ◌∙◌, rules, to_z, of_z, w64}
use Rattle.box_events.specs.declared.updates.Update.{Update}
use Rattle.box_events.specs.declared.updates.Update.TheVariants.{Channel, ChannelTooLong}
use Rattle.channel_box.specs.Calls.{HasRoomFor}
use Rattle.box_client.proofs.RoomSteps.{room_pushed, room_flagged}
use Rattle.box_client.proofs.pushing.hear_update.Goals as goal

pub returns-in-Channel-clause-room : goal.returns-in-Channel-clause-room
returns-in-Channel-clause-room c = λ us room. record {
  common = omega (arith, room.common);
  secret = omega (arith, room.secret);
  settings = omega (arith, room.settings);
  channels = room_pushed c.args.parts.now.channels c.push.new.self _ _ _ c.in-Channel.event c.in-Channel.pts us c.push.ensures.step c.push.ensures.spare c.push.ensures.others
      (subst (λ (u : Update). HasRoomFor c.args.parts.now.channels (u ∷ us)) (c.in-Channel.is ∙ ap (λ (z : ℤ). Channel z c.in-Channel.event c.in-Channel.pts) (search rules)) room.channels);
}

pub returns-in-ChannelTooLong-clause-room : goal.returns-in-ChannelTooLong-clause-room
returns-in-ChannelTooLong-clause-room c = λ us room. record {
  common = omega (arith, room.common);
  secret = omega (arith, room.secret);
  settings = omega (arith, room.settings);
  channels = room_flagged c.args.parts.now.channels c.too_long.new.self _ us c.too_long.ensures.step c.too_long.ensures.spare
      (subst (λ (u : Update). HasRoomFor c.args.parts.now.channels (u ∷ us)) (c.in-ChannelTooLong.is ∙ ap (λ (z : ℤ). ChannelTooLong z) {y = to_z w64 (of_z w64 c.in-ChannelTooLong.id)} (search rules)) room.channels);
}
