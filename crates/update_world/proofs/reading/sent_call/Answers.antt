use Rattle.update_world.proofs.Carried.{call_memory, call_same}
use Rattle.update_world.proofs.reading.sent_call.Goals as goal

pub as_memory-requires : goal.as_memory-requires
as_memory-requires c = call_memory c.args.profile.now c.requires.profile c.args.bytes.now c.in-Err.fault c.requires.call c.in-Err.ensures

pub returns-in-Ok : goal.returns-in-Ok
returns-in-Ok c = record { each = λ n carries. call_same c.args.profile.now c.requires.profile c.args.bytes.now c.in-Ok.call n c.in-Ok.ensures carries }
