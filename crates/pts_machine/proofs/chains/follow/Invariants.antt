use Rattle.std.proofs.Common.{◌≡◌, ◌≤◌, ◌+◌, ℕ, length}
use Rattle.std.specs.FinMap.{get, len}
use Rattle.pts_machine.specs.Chains.{chain, reach, EndsAfter}
use Rattle.pts_machine.specs.Takings.{InTurn}
use Rattle.pts_machine.proofs.chains.follow.Given as goal

abbrev pub invariant-items : goal.invariant-items
invariant-items g l = record {
  after : EndsAfter l.gap.held;
  room : g.T.Takes.has_room l.into l.gap.held;
  took : (z : _) → InTurn g.T.Takes.took l.into (chain (len l.gap.held) l.at l.gap.held) z → InTurn g.T.Takes.took l.fn.into (chain (len l.fn.gap.held) l.fn.at l.fn.gap.held) z;
  reach : reach (len l.gap.held) l.at l.gap.held ≡ reach (len l.fn.gap.held) l.fn.at l.fn.gap.held;
  held : (q : ℕ) → l.at ≤ q → get l.gap.held q ≡ get l.fn.gap.held q;
  number : len l.gap.held + length (chain (len l.fn.gap.held) l.fn.at l.fn.gap.held) ≡ len l.fn.gap.held + length (chain (len l.gap.held) l.at l.gap.held);
  spare : l.fn.gap.spare ≤ l.gap.spare;
}

abbrev pub decreases-items : goal.decreases-items
decreases-items g l = len l.gap.held
