use Rattle.run_laws.proofs.Endings.{runs_job}
use Rattle.run_laws.proofs.Standing.{requests_are_told, requests_read_files}
use Rattle.run_laws.proofs.Touching.{request_explains, request_touches}
use Rattle.run_laws.proofs.laws.requests_end.Goals as goal

pub returns-clause-ends : goal.returns-clause-ends
returns-clause-ends c = runs_job

pub returns-clause-reads : goal.returns-clause-reads
returns-clause-reads c = requests_read_files

pub returns-clause-told : goal.returns-clause-told
returns-clause-told c = requests_are_told

pub returns-clause-touched : goal.returns-clause-touched
returns-clause-touched c = request_touches

pub returns-clause-caused : goal.returns-clause-caused
returns-clause-caused c = request_explains
