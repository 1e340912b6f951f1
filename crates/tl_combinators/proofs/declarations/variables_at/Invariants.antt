use Rattle.std.proofs.Common.{◌≤◌, ◌-◌, length, drop, []}
use Rattle.std.specs.Vec.{vec_len}
use Rattle.tl_lexer.specs.declared.token.TokenKind.TheVariants.{LBrace}
use Rattle.tl_lexer.proofs.Turns.{Came}
use Rattle.tl_combinators.specs.Tokens.{Begins}
use Rattle.tl_combinators.specs.Declarations.{one_variable}
use Rattle.tl_combinators.proofs.declarations.variables_at.Given as goal

abbrev pub invariant-loop-alloc : goal.invariant-loop-alloc
invariant-loop-alloc l = record {
  far : l.fn.at ≤ l.at;
  inside : l.fn.at ≤ length l.tokens → l.at ≤ length l.tokens;
  few : vec_len l.vars ≤ 256;
  came : Came (Begins LBrace) (one_variable l.text) [] (drop l.fn.at l.tokens) l.vars.items (drop l.at l.tokens);
}

abbrev pub decreases-loop-alloc : goal.decreases-loop-alloc
decreases-loop-alloc l = length l.tokens - l.at
