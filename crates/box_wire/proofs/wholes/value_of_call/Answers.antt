use Rattle.std.proofs.Common.{subst, Ok, Err}
use Rattle.tl_schema.specs.Types.{Shape}
use Rattle.box_wire.specs.inner.Wholes.{ReadsValue}
use Rattle.box_wire.proofs.Called.{called}
use Rattle.box_wire.proofs.wholes.value_of_call.Goals as goal

pub returns-in-Ok-clause-whole : goal.returns-in-Ok-clause-whole
returns-in-Ok-clause-whole c = subst (λ (T : Shape). ReadsValue c.args.schema.now T c.args.bytes.now (Ok c.in-Ok.value)) called c.in-Ok.ensures.whole

pub returns-clause-whole : goal.returns-clause-whole
returns-clause-whole c =
    subst (λ (T : Shape). ReadsValue c.args.schema.now T c.args.bytes.now (Err c.wire_fault.result)) called (c.in-Err.fault, c.in-Err.ensures.whole, c.wire_fault.ensures)
