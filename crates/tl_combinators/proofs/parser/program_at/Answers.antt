use Rattle.std.proofs.Common.{List, length, Bool, arith, refl, ap, ◌∙◌, subst, map, drop, length-drop, Vec, Global, Ok}
use Rattle.std.proofs.lemmas.List.{map_push, drop_all}
use Rattle.tl_lexer.specs.Rule.{Parses}
use Rattle.tl_lexer.specs.declared.token.Token.{Token}
use Rattle.tl_lexer.proofs.Steps.{then_ok, then_err, as_err, yes, no, gives_ok, err_any}
use Rattle.tl_lexer.proofs.Turns.{came_more, loop_ok, loop_err}
use Rattle.tl_program.specs.declared.program.Decl.{Decl}
use Rattle.tl_combinators.specs.Tokens.{fault_of}
use Rattle.tl_program.specs.Program.{decl_text}
use Rattle.tl_combinators.specs.Sentences.{program, item, one_declaration, ProgramText, program_so_far}
use Rattle.tl_combinators.proofs.Counts.{count_is}
use Rattle.tl_combinators.proofs.parser.program_at.Goals as goal

pub returns-in_err-function : goal.returns-in_err-function
unfolding program item
returns-in_err-function c = as_err c.from_residual.ensures.1 (err_any {look = λ (p : ProgramText). p} {other = drop c.mark_at.new.at c.args.tokens.now} (loop_err {look = λ (p : ProgramText). p} c.loop-at.invariant.came (λ e. absurd (omega (arith, c.loop-at-test.true, length-drop c.loop-at.at c.args.tokens.now, ap length e))) (yes _ _ (c.begins.ensures.yes c.if-begins.true) (then_err _ c.in_err-function.ensures.read))))

pub loop-at-preserved-then-begins : goal.loop-at-preserved-then-begins
unfolding item
loop-at-preserved-then-begins c = record {
  inside = c.in_ok-function.ensures.inside;
  few = c.loop-at.invariant.few;
  came = came_more {look = λ (p : ProgramText). p} c.loop-at.invariant.came (λ e. absurd (omega (arith, c.loop-at-test.true, length-drop c.loop-at.at c.args.tokens.now, ap length e))) (yes _ _ (c.begins.ensures.yes c.if-begins.true) (then_ok _ c.in_ok-function.ensures.read (gives_ok refl))) refl;
}

pub returns-then-len-eq-DECLARATION_LIMIT : goal.returns-then-len-eq-DECLARATION_LIMIT
unfolding program item one_declaration
returns-then-len-eq-DECLARATION_LIMIT c = err_any {look = λ (p : ProgramText). p} (loop_err c.loop-at.invariant.came (λ e. absurd (omega (arith, c.loop-at-test.true, length-drop c.loop-at.at c.args.tokens.now, ap length e))) (no _ _ (c.begins.ensures.no c.if-begins.false) (yes _ _ (omega (arith, count_is decl_text c.loop-at.decls, c.len.ensures, c.if-len-eq-DECLARATION_LIMIT.true)) c.declaration_too_many_at.ensures)))

pub returns-in_err-decl : goal.returns-in_err-decl
unfolding program item one_declaration
returns-in_err-decl c = as_err c.from_residual-in_err-decl.ensures.1 (err_any {look = λ (p : ProgramText). p} {other = drop c.where_declaration_at.new.at c.args.tokens.now} (loop_err {look = λ (p : ProgramText). p} c.loop-at.invariant.came (λ e. absurd (omega (arith, c.loop-at-test.true, length-drop c.loop-at.at c.args.tokens.now, ap length e))) (no _ _ (c.begins.ensures.no c.if-begins.false) (no _ _ (λ e. c.if-len-eq-DECLARATION_LIMIT.false (omega (arith, count_is decl_text c.loop-at.decls, c.len.ensures, e))) (then_err _ c.in_err-decl.ensures.read)))))

pub loop-at-preserved : goal.loop-at-preserved
unfolding item one_declaration
loop-at-preserved c = record {
  inside = c.in_ok-decl.ensures.inside;
  few = omega (arith, c.in_ok-push.ensures.len, c.len.ensures, c.if-len-eq-DECLARATION_LIMIT.false, c.loop-at.invariant.few);
  came = came_more {look = λ (p : ProgramText). p} c.loop-at.invariant.came (λ e. absurd (omega (arith, c.loop-at-test.true, length-drop c.loop-at.at c.args.tokens.now, ap length e))) (no _ _ (c.begins.ensures.no c.if-begins.false) (no _ _ (λ e. c.if-len-eq-DECLARATION_LIMIT.false (omega (arith, count_is decl_text c.loop-at.decls, c.len.ensures, e))) (then_ok _ c.in_ok-decl.ensures.read (gives_ok refl)))) (ap (λ ds. program_so_far ds c.loop-at.function) (ap (map decl_text) c.in_ok-push.ensures.items ∙ map_push decl_text _ _));
}

pub returns : goal.returns
unfolding program
returns c = subst (λ (ts : List Token). Parses fault_of (λ (p : Vec Decl Global × Bool). program_so_far (map decl_text p.0.items) p.1) (program c.args.text.now) c.args.tokens.now ts (Ok (c.loop-at.decls, c.loop-at.function))) (drop_all c.loop-at.at c.args.tokens.now c.loop-at-test.false) (loop_ok c.loop-at.invariant.came (λ n. n (drop_all c.loop-at.at c.args.tokens.now c.loop-at-test.false)) refl)
