use Rattle.box_world.specs.Sizes.{call_size}
use Rattle.update_sessions.specs.Packed.{SpellsCall}
use Rattle.update_sessions.proofs.Sizes.{call_sized, never_too_long, puts_slice}
use Rattle.update_sessions.proofs.packing.put_call.Goals as goal

pub unreachable-requires : goal.unreachable-requires
unreachable-requires c =
    let p = c.args.profile.now in
    let n = c.args.call.now in
    never_too_long (SpellsCall p n) (call_size n) c.in-Err-TooLong.field-0-0 (call_sized p c.in-Err-TooLong.ensures.sound n) c.requires (rw c.in-Err-TooLong.field-0-is at c.in-Err-TooLong.ensures.spelled)

pub returns-in-Ok : goal.returns-in-Ok
returns-in-Ok c = puts_slice (SpellsCall c.args.profile.now c.args.call.now) c.in-Ok.bytes c.as_slice.result.now c.args.out.now c.put_packet.new.out c.put_packet.result c.in-Ok.ensures.spelled c.as_slice.ensures.value c.put_packet.ensures
