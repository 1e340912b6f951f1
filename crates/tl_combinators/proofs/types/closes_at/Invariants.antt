use Rattle.std.proofs.Common.{◌≤◌, ◌-◌, length, drop}
use Rattle.tl_combinators.proofs.Parentheses.{Left}
use Rattle.tl_combinators.proofs.types.closes_at.Given as goal

abbrev pub invariant-loop : goal.invariant-loop
invariant-loop l = record {
  far : l.fn.at ≤ l.at;
  inside : l.fn.at ≤ length l.tokens → l.at ≤ length l.tokens;
  left : Left l.text l.count (l.count - l.counter) (drop l.fn.at l.tokens) (drop l.at l.tokens);
}
