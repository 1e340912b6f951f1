use Rattle.box_wire.proofs.wholes.value_in.Goals as goal

pub returns-in-Err-clause-whole : goal.returns-in-Err-clause-whole
returns-in-Err-clause-whole c = λ T is formed. (c.in-Err.fault, c.in-Err.ensures.whole T is formed, c.wire_fault.ensures)
