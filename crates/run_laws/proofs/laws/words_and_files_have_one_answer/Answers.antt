use Rattle.run_laws.proofs.OneAnswer.{one_answer, one_to}
use Rattle.run_laws.proofs.laws.words_and_files_have_one_answer.Goals as goal

pub returns-clause-words : goal.returns-clause-words
returns-clause-words c = one_answer

pub returns-clause-request : goal.returns-clause-request
returns-clause-request c = one_to
