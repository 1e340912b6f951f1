use Rattle.std.proofs.Common.{subst}
use Rattle.tl_schema.specs.Types.{Shape}
use Rattle.tl_types.specs.Seen.{view}
use Rattle.box_wire.specs.inner.Wholes.{IsSpelling}
use Rattle.box_wire.proofs.Called.{called, called_formed}
use Rattle.box_wire.proofs.wholes.bytes_of_call.Goals as goal

pub returns-in-Ok : goal.returns-in-Ok
returns-in-Ok c =
    let S = c.args.schema.now in
    subst (λ (T : Shape). IsSpelling S T (view c.args.value.now) c.in-Ok.bytes.items) called ((c.in-Ok.ensures.spells (called_formed S)).0, c.in-Ok.ensures.spelled)
