use Rattle.tl_lexer.proofs.Faults.{fault_is}
use Rattle.tl_lexer.proofs.law.faults_are_the_texts.Goals as goal

pub returns : goal.returns
returns c = fault_is
