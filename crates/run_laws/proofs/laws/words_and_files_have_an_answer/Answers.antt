use Rattle.commands.proofs.Rows.{each_asks}
use Rattle.run_laws.proofs.AnAnswer.{an_answer}
use Rattle.run_laws.proofs.laws.words_and_files_have_an_answer.Goals as goal

pub returns-clause-answered : goal.returns-clause-answered
returns-clause-answered c = an_answer

pub returns-clause-asked : goal.returns-clause-asked
returns-clause-asked c = each_asks
