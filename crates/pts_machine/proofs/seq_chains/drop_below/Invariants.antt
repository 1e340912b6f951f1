use Rattle.std.proofs.Common.{◌≡◌, ◌≤◌}
use Rattle.std.specs.FinMap.{len}
use Rattle.pts_machine.specs.Holding.{from}
use Rattle.pts_machine.specs.Totals.{total}
use Rattle.pts_machine.proofs.seq_chains.drop_below.Given as goal

abbrev pub invariant-packs : goal.invariant-packs
invariant-packs l = record {
  held : from l.at l.gap.held ≡ from l.at l.fn.gap.held;
  total : l.waiting ≡ total l.gap.held;
  less : l.waiting ≤ l.fn.waiting;
  spare : l.fn.gap.spare ≤ l.gap.spare;
}

abbrev pub decreases-packs : goal.decreases-packs
decreases-packs l = len l.gap.held
