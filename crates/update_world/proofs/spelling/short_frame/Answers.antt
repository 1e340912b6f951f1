use Rattle.update_world.proofs.Carried.{frame_not_long}
use Rattle.update_world.proofs.spelling.short_frame.Goals as goal

pub unreachable-requires : goal.unreachable-requires
unreachable-requires c = frame_not_long c.args.profile.now c.requires.profile c.args.frame c.in-Err-TooLong.field-0-0 c.requires.short (rw c.in-Err-TooLong.field-0-is at c.in-Err-TooLong.ensures.spelled)
