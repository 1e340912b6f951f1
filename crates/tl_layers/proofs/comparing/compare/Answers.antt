use Rattle.tl_layers.proofs.Verdicts.{agrees, refuses}
use Rattle.tl_layers.proofs.comparing.compare.Goals as goal

pub returns-clause-agrees : goal.returns-clause-agrees
returns-clause-agrees c = agrees _ _ c.compared.ensures.compares

pub returns-clause-refuses : goal.returns-clause-refuses
returns-clause-refuses c = refuses _ _ c.compared.ensures.compares
