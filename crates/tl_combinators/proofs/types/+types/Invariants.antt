use Rattle.std.proofs.Common.{◌+◌, ◌*◌, ◌≤◌, ◌-◌, drop, length, true, false}
use Rattle.tl_program.specs.Trees.{views}
use Rattle.tl_combinators.specs.Types.{type_in}
use Rattle.tl_combinators.proofs.Arguments.{Listed, Further}
use Rattle.tl_combinators.proofs.types.+types.Given as goal

-- each call within a level is one nearer to the core of it
abbrev pub decreases-type_at : goal.decreases-type_at
decreases-type_at l = 7 * l.levels + 1

abbrev pub decreases-core_at : goal.decreases-core_at
decreases-core_at l = 7 * l.levels

abbrev pub decreases-bare_at : goal.decreases-bare_at
decreases-bare_at l = 7 * l.levels + 6

abbrev pub decreases-after_percent_at : goal.decreases-after_percent_at
decreases-after_percent_at l = 7 * l.levels + 5

abbrev pub decreases-application_at : goal.decreases-application_at
decreases-application_at l = 7 * l.levels + 4

abbrev pub decreases-applied_at : goal.decreases-applied_at
decreases-applied_at l = 7 * l.levels + 3

abbrev pub decreases-listed_at : goal.decreases-listed_at
decreases-listed_at l = 7 * l.levels + 2

abbrev pub decreases-terms_at : goal.decreases-terms_at
decreases-terms_at l = 7 * l.levels + 2

abbrev pub invariant-listed_at-loop-alloc : goal.invariant-listed_at-loop-alloc
invariant-listed_at-loop-alloc l = record {
  far : l.fn.at ≤ l.at;
  inside : l.at ≤ length l.tokens;
  listed : Listed l.text (type_in l.text l.levels true) (drop l.fn.at l.tokens) (views l.args.items) (drop l.at l.tokens);
}

abbrev pub decreases-listed_at-loop-alloc : goal.decreases-listed_at-loop-alloc
decreases-listed_at-loop-alloc l = length l.tokens - l.at

abbrev pub invariant-terms_at-loop-alloc : goal.invariant-terms_at-loop-alloc
invariant-terms_at-loop-alloc l = record {
  far : l.fn.at ≤ l.at;
  inside : l.fn.at ≤ length l.tokens → l.at ≤ length l.tokens;
  further : Further (type_in l.text l.levels false) (drop l.fn.at l.tokens) (views l.args.items) (drop l.at l.tokens);
}

abbrev pub decreases-terms_at-loop-alloc : goal.decreases-terms_at-loop-alloc
decreases-terms_at-loop-alloc l = length l.tokens - l.at
