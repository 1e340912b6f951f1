use Rattle.fault_lines.proofs.Profiled.{refused_profile}
use Rattle.fault_lines.proofs.profiles.profile_of.Goals as goal

pub returns-in-Err : goal.returns-in-Err
returns-in-Err c = refused_profile c.args.schema.now c.in-Err.fault c.profile_line.result c.of_line.result c.in-Err.ensures.answer c.profile_line.ensures c.of_line.ensures
