use Rattle.tl_program.specs.Program.{program_text}
use Rattle.tl_schema.proofs.OneAnswer.{gives_schema, refuses_program}
use Rattle.tl_schema.proofs.checks.check.Goals as goal

pub returns-clause-passes : goal.returns-clause-passes
returns-clause-passes c = gives_schema (program_text c.args.program.now) c.checked_schema.result c.checked_schema.ensures

pub returns-clause-refuses : goal.returns-clause-refuses
returns-clause-refuses c = refuses_program (program_text c.args.program.now) c.checked_schema.result c.checked_schema.ensures
