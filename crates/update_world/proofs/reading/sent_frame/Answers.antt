use Rattle.update_world.proofs.Carried.{frame_hearable, frame_memory, frame_same}
use Rattle.update_world.proofs.reading.sent_frame.Goals as goal

pub as_memory-requires : goal.as_memory-requires
as_memory-requires c = frame_memory c.args.profile.now c.requires.profile c.args.bytes.now c.in-Err.fault c.requires.frame c.in-Err.ensures.reads

pub returns-in-Ok-clause-each : goal.returns-in-Ok-clause-each
returns-in-Ok-clause-each c = λ f carries. frame_same c.args.profile.now c.requires.profile c.args.bytes.now c.in-Ok.frame f c.in-Ok.ensures.reads carries

pub returns-in-Ok-clause-hearable : goal.returns-in-Ok-clause-hearable
returns-in-Ok-clause-hearable c = frame_hearable c.args.profile.now c.requires.profile c.args.bytes.now c.in-Ok.frame c.in-Ok.ensures.reads
