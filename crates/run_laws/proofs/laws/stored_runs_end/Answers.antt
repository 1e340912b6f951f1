use Rattle.run_laws.proofs.Standing.{stored_are_told, stored_read_files}
use Rattle.run_laws.proofs.Stored.{stored_runs_end}
use Rattle.run_laws.proofs.laws.stored_runs_end.Goals as goal

pub returns-clause-ends : goal.returns-clause-ends
returns-clause-ends c = stored_runs_end

pub returns-clause-reads : goal.returns-clause-reads
returns-clause-reads c = stored_read_files

pub returns-clause-told : goal.returns-clause-told
returns-clause-told c = stored_are_told
