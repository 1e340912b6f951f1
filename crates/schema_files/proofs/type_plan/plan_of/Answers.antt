use Rattle.std.proofs.Common.{map, ap}
use Rattle.tl_schema.specs.Seen.{shape}
use Rattle.schema_files.proofs.TypePlans.{plan_told}
use Rattle.schema_files.proofs.type_plan.plan_of.Goals as goal

pub returns-in-Err : goal.returns-in-Err
returns-in-Err c = record {
  plans = plan_told c.args.schema.now (shape c.args.of.now) (map shape c.from_ref.result.now) c.in-Err.fault c.plan_error.result (ap (map shape) c.from_ref.ensures.value) c.in-Err.ensures.answer c.plan_error.ensures;
}
