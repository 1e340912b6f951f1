use Rattle.tl_decode.proofs.machine.step.Goals as goal

pub returns-in-Open : goal.returns-in-Open
returns-in-Open c = rw c.in-Open.is c.open.ensures

pub returns-in-Part : goal.returns-in-Part
returns-in-Part c = rw c.in-Part.is c.part.ensures

pub returns-in-Close : goal.returns-in-Close
returns-in-Close c = rw c.in-Close.is c.close.ensures
