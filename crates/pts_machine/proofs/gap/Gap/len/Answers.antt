use Rattle.std.proofs.Common.{arith, ap}
use Rattle.pts_machine.proofs.Rises.{count_of}
use Rattle.pts_machine.proofs.gap.Gap.len.Goals as goal

pub returns-clause-number : goal.returns-clause-number
returns-clause-number g c =
    let count = count_of c.self.inside.items.items c.args.self.now.held c.self.invariant.rising (ap (λ p. p.held) c.self.view_is) in
    omega (arith, count, c.len.ensures)
