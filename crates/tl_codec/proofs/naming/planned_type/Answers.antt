use Rattle.tl_schema.specs.Seen.{shape}
use Rattle.tl_codec.proofs.Adding.{plan_told}
use Rattle.tl_codec.proofs.naming.planned_type.Goals as goal

pub returns-in-Err-clause-names : goal.returns-in-Err-clause-names
returns-in-Err-clause-names c = plan_told c.args.schema.now c.args.name.now (shape c.in_ok-of.of) c.in-Err.fault c.in_ok-of.ensures.names c.in-Err.ensures.plans
