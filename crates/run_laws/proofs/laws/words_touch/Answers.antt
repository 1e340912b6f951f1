use Rattle.run_laws.proofs.Touching.{words_leave_links, words_touch}
use Rattle.run_laws.proofs.laws.words_touch.Goals as goal

pub returns-clause-touched : goal.returns-clause-touched
returns-clause-touched c = words_touch

pub returns-clause-unlinked : goal.returns-clause-unlinked
returns-clause-unlinked c = words_leave_links
