use Rattle.std.proofs.Common.{ap, subst}
use Rattle.pts_machine.specs.Chains.{AreChained}
use Rattle.pts_machine.proofs.Ends.{are_chained}
use Rattle.pts_machine.proofs.settings.Settings.held.Goals as goal

pub returns-clause-chained : goal.returns-clause-chained
returns-clause-chained c = subst AreChained (ap (λ p. p.state.held) c.self.view_is) (are_chained c.self.inside.gap.held (λ s x e. (c.self.invariant.sound.sized s x e).0))
