use Rattle.std.proofs.Common.{◌≡◌, ◌≤◌, ◌-◌, length, drop}
use Rattle.tl_combinators.proofs.Parentheses.{Opened}
use Rattle.tl_combinators.proofs.types.opens_at.Given as goal

abbrev pub invariant-loop-at : goal.invariant-loop-at
invariant-loop-at l = record {
  far : l.start ≤ l.at;
  inside : l.start ≤ length l.tokens → l.at ≤ length l.tokens;
  same : l.start ≡ l.fn.at;
  opened : Opened l.text (drop l.start l.tokens) (l.at - l.start) (drop l.at l.tokens);
}

abbrev pub decreases-loop-at : goal.decreases-loop-at
decreases-loop-at l = length l.tokens - l.at
