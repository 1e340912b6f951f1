use Rattle.run_laws.proofs.Endings.{words_keep}
use Rattle.run_laws.proofs.laws.words_keep.Goals as goal

pub returns : goal.returns
returns c = words_keep
