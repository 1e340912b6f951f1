use Rattle.std.proofs.Common.{arith, refl}
use Rattle.serve_rooms.proofs.Answered.{answered_cut, answered_whole, can_answer, memory_lost, not_answered, post_lost}
use Rattle.serve_rooms.proofs.answering.answer_bytes.Goals as goal

pub returns-in-Ok-send_frames : goal.returns-in-Ok-send_frames
returns-in-Ok-send_frames g c =
    answered_whole c.args.profile.now c.args.store.now.server c.args.packet.now c.answer_packet.new.out (g.K.Keeper.state c.args.store.now.keeper) (g.K.Keeper.state c.answer_packet.new.store.keeper) _ c.in-Ok.ensures.kept (g.H.Host.state c.args.host.now) c.answer_packet.new.store.server c.in-Ok.ensures.answers _
    (λ frames packed. c.in-Ok-send_frames.ensures c.args.profile.now frames packed)

pub returns-in-Err : goal.returns-in-Err
returns-in-Err g c =
    answered_cut c.args.profile.now c.args.store.now.server c.args.packet.now c.answer_packet.new.out (g.K.Keeper.state c.args.store.now.keeper) (g.K.Keeper.state c.answer_packet.new.store.keeper) _ c.in-Ok.ensures.kept (g.H.Host.state c.args.host.now) c.answer_packet.new.store.server c.in-Ok.ensures.answers _
    (λ frames packed. c.in-Err.ensures c.args.profile.now frames packed)

pub returns-in-Err-Session : goal.returns-in-Err-Session
returns-in-Err-Session g c =
    not_answered c.args.profile.now c.args.store.now.server c.args.packet.now c.answer_packet.new.out (g.K.Keeper.state c.args.store.now.keeper) (g.K.Keeper.state c.answer_packet.new.store.keeper) _ (rw c.in-Err-Session.field-0-is at c.in-Err-Session.ensures.kept) (g.H.Host.state c.args.host.now) c.answer_packet.new.store.server c.in-Err-Session.fault
    (rw c.in-Err-Session.field-0-is at c.in-Err-Session.ensures.answers)

pub returns-in-Err-Memory : goal.returns-in-Err-Memory
returns-in-Err-Memory g c =
    let p = c.args.profile.now in
    let s = c.args.store.now.server in
    let bytes = c.args.packet.now in
    memory_lost p s bytes c.answer_packet.new.out (g.K.Keeper.state c.args.store.now.keeper) (g.K.Keeper.state c.answer_packet.new.store.keeper) _ (rw c.in-Err-Memory.field-0-is at c.in-Err-Memory.ensures.kept) (g.H.Host.state c.args.host.now) c.answer_packet.new.store.server
    (can_answer p s c.requires.sound bytes (λ k. omega (arith, c.type_inv.packet k))) (rw c.in-Err-Memory.field-0-is at c.in-Err-Memory.ensures.answers)

pub returns-in-Err-Failed : goal.returns-in-Err-Failed
returns-in-Err-Failed g c =
    post_lost c.args.profile.now c.args.store.now.server c.args.packet.now c.answer_packet.new.out (g.K.Keeper.state c.args.store.now.keeper) (g.K.Keeper.state c.answer_packet.new.store.keeper) _ (rw c.in-Err-Failed.field-0-is at c.in-Err-Failed.ensures.kept) (g.H.Host.state c.args.host.now) c.answer_packet.new.store.server refl
    (rw c.in-Err-Failed.field-0-is at c.in-Err-Failed.ensures.answers)
