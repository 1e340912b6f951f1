use Rattle.fault_lines.proofs.Profiled.{each_schema, one_schema, are_profiles}
use Rattle.fault_lines.proofs.laws.schemas_are_profiles_or_not.Goals as goal

pub returns : goal.returns
returns c = record { answered = each_schema; one = one_schema; profiles = are_profiles }
