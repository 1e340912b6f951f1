use Rattle.box_world.specs.Sizes.{frame_size}
use Rattle.update_sessions.specs.Packed.{SpellsFrame}
use Rattle.update_sessions.proofs.Sizes.{frame_sized, never_too_long}
use Rattle.update_sessions.proofs.packing.put_frame.Goals as goal

pub unreachable-requires : goal.unreachable-requires
unreachable-requires c =
    let p = c.args.profile.now in
    let f = c.args.frame.now in
    never_too_long (SpellsFrame p f) (frame_size f) c.in-Err-TooLong.field-0-0 (frame_sized p c.in-Err-TooLong.ensures.sound f) c.requires (rw c.in-Err-TooLong.field-0-is at c.in-Err-TooLong.ensures.spelled)
