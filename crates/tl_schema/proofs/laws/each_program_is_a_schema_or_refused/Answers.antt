use Rattle.tl_schema.proofs.OneAnswer.{one_schema_or_refused}
use Rattle.tl_schema.proofs.laws.each_program_is_a_schema_or_refused.Goals as goal

pub returns : goal.returns
returns c = one_schema_or_refused
