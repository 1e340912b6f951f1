use Rattle.std.proofs.Common.{ℕ, List, rules, arith, refl}
use Rattle.tl_lexer.proofs.Steps.{then_ok, then_err, as_err, yes, no, gives_ok, fails_here}
use Rattle.tl_lexer.proofs.Turns.{came_more, loop_ok, loop_err}
use Rattle.tl_combinators.specs.Tokens.{fault_of}
use Rattle.tl_combinators.specs.Declarations.{variables, one_variable}
use Rattle.tl_combinators.proofs.declarations.variables_at.Goals as goal

pub returns-then-len-eq-PART_LIMIT-clause-read : goal.returns-then-len-eq-PART_LIMIT-clause-read
unfolding variables one_variable
returns-then-len-eq-PART_LIMIT-clause-read c = loop_err {look = λ (x : List (List ℕ)). x} c.loop-alloc.invariant.came (c.begins.ensures.yes c.loop-alloc-test.true) (yes _ _ (omega (arith, c.loop-alloc.vars.ok.0, c.len.ensures, c.if-len-eq-PART_LIMIT.true)) (fails_here fault_of _ (search rules)))

pub returns-in_err-var-clause-read : goal.returns-in_err-var-clause-read
unfolding variables one_variable
returns-in_err-var-clause-read c = as_err c.from_residual.ensures.1 (loop_err {look = λ (x : List (List ℕ)). x} c.loop-alloc.invariant.came (c.begins.ensures.yes c.loop-alloc-test.true) (no _ _ (λ e. c.if-len-eq-PART_LIMIT.false (omega (arith, c.loop-alloc.vars.ok.0, c.len.ensures, e))) (then_err _ c.in_err-var.ensures.read)))

pub loop-alloc-preserved : goal.loop-alloc-preserved
unfolding one_variable
loop-alloc-preserved c = record {
  far = omega (arith, c.in_ok-var.ensures.on);
  inside = λ h. c.in_ok-var.ensures.inside;
  few = omega (arith, c.in_ok-push.ensures.len, c.len.ensures, c.if-len-eq-PART_LIMIT.false);
  came = came_more {look = λ (x : List (List ℕ)). x} c.loop-alloc.invariant.came (c.begins.ensures.yes c.loop-alloc-test.true) (no _ _ (λ e. c.if-len-eq-PART_LIMIT.false (omega (arith, c.loop-alloc.vars.ok.0, c.len.ensures, e))) (then_ok _ c.in_ok-var.ensures.read (gives_ok refl))) c.in_ok-push.ensures.items;
}

pub returns-clause-read : goal.returns-clause-read
unfolding variables
returns-clause-read c = loop_ok c.loop-alloc.invariant.came (c.begins.ensures.no c.loop-alloc-test.false) refl
