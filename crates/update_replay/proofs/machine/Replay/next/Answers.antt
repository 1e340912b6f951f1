use Rattle.std.proofs.Common.{Err, Ok, Some}
use Rattle.box_wire.specs.declared.fault.StepReadFault.TheVariants as reading
use Rattle.update_replay.proofs.Handed.{cleared, found_by, memory_out, refused}
use Rattle.update_replay.proofs.machine.Replay.next.Goals as goal

pub make-requires-clause-going : goal.make-requires-clause-going
make-requires-clause-going c = let g = c.requires in (g.0, g.1, g.2, g.3, g.4, cleared g.0 g.1 g.2 g.3 g.4 c.args.world.now c.args.self.now g.5 c.clear.new.self)

pub make-requires-clause-found : goal.make-requires-clause-found
make-requires-clause-found c = found_by c.profile.result.now c.args.world.now.profile c.args.self.now.rest.now (Ok (Some (c.in-Ok-Some.step, c.in-Ok-Some.size))) c.profile.ensures.value (rw c.in-Ok-Some.field-0-is at c.in-Ok-Some.ensures.step)

pub make-requires-clause-dated : goal.make-requires-clause-dated
make-requires-clause-dated c = rw c.in-Ok-Some.field-0-is at c.in-Ok-Some.ensures.dated

pub close-requires-clause-ended : goal.close-requires-clause-ended
close-requires-clause-ended c = rw c.in-Ok-None.field-0-is at c.in-Ok-None.ensures.step

pub returns-in-Ok-Some-clause-handed : goal.returns-in-Ok-Some-clause-handed
returns-in-Ok-Some-clause-handed c = λ p n journal ss output h. c.make.ensures p n journal ss output (cleared p n journal ss output c.args.world.now c.args.self.now h c.clear.new.self)

pub returns-in-Ok-None-clause-handed : goal.returns-in-Ok-None-clause-handed
returns-in-Ok-None-clause-handed c = λ p n journal ss output h. c.close.ensures p n journal ss output (cleared p n journal ss output c.args.world.now c.args.self.now h c.clear.new.self)

pub returns-in-Err-Wire-clause-handed : goal.returns-in-Err-Wire-clause-handed
returns-in-Err-Wire-clause-handed c = λ p n journal ss output h.
    refused p n journal ss output c.args.world.now c.args.self.now h c.clear.new.self c.in-Err-Wire.fault c.wire_stop.result c.clear.ensures.items (found_by c.profile.result.now c.args.world.now.profile c.args.self.now.rest.now (Err (reading.Wire c.in-Err-Wire.fault)) c.profile.ensures.value (rw c.in-Err-Wire.field-0-is at c.in-Err-Wire.ensures.step)) (rw c.in-Err-Wire.field-0-is at c.wire_stop.ensures)

pub returns-in-Err-clause-handed : goal.returns-in-Err-clause-handed
returns-in-Err-clause-handed c = λ p n journal ss output h. memory_out p n journal ss output c.args.world.now c.args.self.now h c.clear.new.self c.args.world.now c.clear.ensures.items
