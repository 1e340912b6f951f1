use Rattle.std.proofs.Common.{◌≡◌, ◌-◌, List, take, drop, ◌++◌, arith, refl, ap, ◌∙◌, map, Result, Ok, Err, OnOk}
use Rattle.std.specs.Prelude.{IsErrAnd}
use Rattle.std.proofs.lemmas.List.{map_push}
use Rattle.tl_lexer.proofs.Steps.{then_ok, then_err, as_err, yes, no, gives_ok}
use Rattle.tl_lexer.proofs.Turns.{came_more, loop_ok, loop_err}
use Rattle.tl_program.specs.Program.{FieldText, field_text}
use Rattle.tl_combinators.specs.Description.{field_pieces}
use Rattle.tl_combinators.specs.Fields.{fields, one_field, FieldsText, fields_text}
use Rattle.tl_combinators.proofs.EqualDescriptions.{field_on}
use Rattle.tl_combinators.proofs.Counts.{count_is}
use Rattle.tl_combinators.proofs.TokenParts.{taken_ok, taken_err}
use Rattle.tl_combinators.proofs.fields.fields_at.Goals as goal

on_error : {X E : Type 0} (Q : Type 0) (res : Result X E) (e : E) → IsErrAnd res (λ f. f ≡ e) → OnOk res Q
on_error Q (Ok x) e h = absurd h
on_error Q (Err f) e h = tt

pub returns-then-vars-len-eq-PART_LIMIT-clause-read : goal.returns-then-vars-len-eq-PART_LIMIT-clause-read
unfolding fields one_field
returns-then-vars-len-eq-PART_LIMIT-clause-read c = λ ps e. let w = c.loop-alloc.invariant.came ps e in record { all = w.all; described = tt; read = loop_err {look = λ (s : FieldsText). s} w.came (c.begins.ensures.no c.loop-alloc-test.true) (yes _ _ (omega (arith, count_is field_text c.loop-alloc.fields, c.len.ensures, c.if-vars-len-eq-PART_LIMIT.true)) c.field_too_many_at.ensures) }

pub returns-in_err-field-clause-read : goal.returns-in_err-field-clause-read
unfolding fields one_field
returns-in_err-field-clause-read c = λ ps e. let w = c.loop-alloc.invariant.came ps e in record { all = w.all; described = on_error _ _ _ c.from_residual.ensures.1; read = as_err c.from_residual.ensures.1 (loop_err {look = λ (s : FieldsText). s} w.came (c.begins.ensures.no c.loop-alloc-test.true) (no _ _ (λ f. c.if-vars-len-eq-PART_LIMIT.false (omega (arith, count_is field_text c.loop-alloc.fields, c.len.ensures, f))) (then_err _ (taken_err c.in_err-field.ensures.read)))) }

pub loop-alloc-preserved : goal.loop-alloc-preserved
unfolding one_field
loop-alloc-preserved c = record {
  far = omega (arith, c.in_ok-field.ensures.on, c.loop-alloc.invariant.far);
  inside = c.in_ok-field.ensures.inside;
  few = omega (arith, c.in_ok-push.ensures.len, c.len.ensures, c.if-vars-len-eq-PART_LIMIT.false, c.loop-alloc.invariant.few);
  came = λ ps e.
      let w = c.loop-alloc.invariant.came ps e in
      let tokens = take (c.field_at.new.at - c.loop-alloc.at) (drop c.loop-alloc.at c.args.tokens.now) in
      let all = w.all ++ field_pieces c.args.text.now (field_text c.in_ok-field.field) tokens in
      record {
        all = all;
        described = field_on c.args.text.now (field_text c.in_ok-field.field) w.all tokens w.described c.in_ok-show_field.ensures;
        came = came_more {look = λ (s : FieldsText). s} w.came (c.begins.ensures.no c.loop-alloc-test.true) (no _ _ (λ f. c.if-vars-len-eq-PART_LIMIT.false (omega (arith, count_is field_text c.loop-alloc.fields, c.len.ensures, f))) (then_ok _ (taken_ok c.args.tokens.now c.loop-alloc.at c.field_at.new.at (omega (arith, c.in_ok-field.ensures.on)) c.in_ok-field.ensures.read) (gives_ok refl))) (ap (λ (fs : List FieldText). fields_text fs all) (ap (map field_text) c.in_ok-push.ensures.items ∙ map_push field_text _ _));
      };
}

pub returns-clause-read : goal.returns-clause-read
unfolding fields
returns-clause-read c = λ ps e. let w = c.loop-alloc.invariant.came ps e in record { all = w.all; described = w.described; read = loop_ok w.came (λ n. n (c.begins.ensures.yes c.loop-alloc-test.false)) refl }
