use Rattle.std.proofs.Common.{◌≡◌, rules, refl, sym, subst, ap, ◌∙◌, List, map, replicate}
use Rattle.std.proofs.lemmas.Result.{IfOk-weaker}
use Rattle.tl_schema.specs.Seen.{shape, slot}
use Rattle.tl_schema.specs.Types.{call}
use Rattle.tl_schema.specs.Closing.{closed}
use Rattle.tl_schema.specs.Formed.{IsFormed}
use Rattle.tl_schema.proofs.ResultsFormed.{results_are_formed}
use Rattle.tl_schema.specs.declared.schema.TypeRef as ref
use Rattle.tl_schema.specs.declared.schema.TypeRef.{TypeRef}
use Rattle.tl_types.specs.Seen.{view, views}
use Rattle.tl_types.specs.declared.value.Value as own
use Rattle.tl_types.proofs.Views.{shape-Call}
use Rattle.tl_calls.specs.Results.{result_type, results}
use Rattle.tl_calls.specs.inner.Making.{AgreeOn}
use Rattle.tl_calls.proofs.Answered.{answered_in_formed}
use Rattle.tl_calls.proofs.Agreed.{agree_closed, agree_same, agree_made, agree_left}
use Rattle.tl_calls.proofs.ResultSteps.{known_first, next_field, no_value_left, no_field_left, result_called, result_no_call, result_not_called}
use Rattle.tl_calls.proofs.result.+made_type.Goals as goal

pub made_type-returns-in_default-function_at-clause-made : goal.made_type-returns-in_default-function_at-clause-made
made_type-returns-in_default-function_at-clause-made t c = shape-Call ref.Call refl ∙ sym (result_not_called c.args.schema.now.decls c.args.call.now c.in-Call.entry c.in-Call.fields c.in-Call.is c.in_default-function_at.ensures.none)

pub made_type-returns-in_default-function_at-clause-formed : goal.made_type-returns-in_default-function_at-clause-formed
made_type-returns-in_default-function_at-clause-formed t c = λ has. subst (IsFormed c.args.schema.now) (sym (shape-Call ref.Call refl)) tt

pub made_type-returns-in_ok-known-in-Call-clause-made : goal.made_type-returns-in_ok-known-in-Call-clause-made
made_type-returns-in_ok-known-in-Call-clause-made t c =
    let ds = c.args.schema.now.decls in
    let e = c.in-Some.entry.now in
    let vs = c.deref.result.now in
    let fs = c.deref-in-Call.result.now in
    let ks = c.deref-in-Call-2.result.now in
    let made : closed (map shape ks) (shape e.result) ≡ result_type ds (view c.args.call.now) =
    ap (λ (ts : List TypeRef). closed (map shape ts) (shape e.result)) c.deref-in-Call-2.ensures.value
    ∙ agree_closed (shape e.result) (map shape c.in_ok-known-in-Call.known.items) (results ds (replicate e.vars call) (map slot fs) (views vs)) c.in_ok-known-in-Call.ensures
    ∙ sym (result_called ds c.args.call.now c.in-Call.entry c.in-Call.fields e vs fs c.in-Call.is c.in-Some.ensures.some c.deref.ensures.value c.deref-in-Call.ensures.value) in
    IfOk-weaker c.close.result (λ u. shape u ≡ closed (map shape ks) (shape e.result)) (λ u. shape u ≡ result_type ds (view c.args.call.now)) (λ u is. is ∙ made) c.close.ensures.closed

pub made_type-returns-in_ok-known-in-Call-clause-formed : goal.made_type-returns-in_ok-known-in-Call-clause-formed
made_type-returns-in_ok-known-in-Call-clause-formed t c = λ has.
    let schema = c.args.schema.now in
    let v = view c.args.call.now in
    IfOk-weaker c.close.result (λ u. shape u ≡ result_type schema.decls v) (λ u. IsFormed schema (shape u))
    (λ u made. subst (IsFormed schema) (sym made) (answered_in_formed results_are_formed schema c.in-Some.ensures.sound v has)) (made_type-returns-in_ok-known-in-Call-clause-made t c)

pub made_type-returns-in_default-clause-made : goal.made_type-returns-in_default-clause-made
made_type-returns-in_default-clause-made t c = shape-Call ref.Call refl ∙ sym (result_no_call c.args.schema.now.decls (view c.args.call.now) (search (rules, own.the_lemmas)))

pub made_type-returns-in_default-clause-formed : goal.made_type-returns-in_default-clause-formed
made_type-returns-in_default-clause-formed t c = λ has. subst (IsFormed c.args.schema.now) (sym (shape-Call ref.Call refl)) tt

pub made_types-loop-i-init : goal.made_types-loop-i-init
made_types-loop-i-init t c =
    known_first c.args.schema.now.decls (map slot c.args.slots.now) (views c.args.values.now) (AgreeOn (shape c.args.of.now) (map shape c.in_ok-known.known.items)) (replicate c.args.vars call)
    (agree_same (shape c.args.of.now) (map shape c.in_ok-known.known.items) (replicate c.args.vars call) c.in_ok-known.ensures)

pub made_types-loop-i-preserved : goal.made_types-loop-i-preserved
made_types-loop-i-preserved t c =
    let there = c.in-Some.ensures.lookup in
    next_field c.args.schema.now.decls c.args.slots.now c.args.values.now _ c.loop-i.i c.index-values-i.result c.in-Some.field.now c.loop-i-test.true c.index-values-i.is there.3.0 there.1
    (AgreeOn (shape c.args.of.now) (map shape c.loop-i.known.items)) (AgreeOn (shape c.args.of.now) (map shape c.note_type.new.known.items)) c.in_ok-note_type.ensures c.loop-i.invariant

pub made_types-returns-in_default : goal.made_types-returns-in_default
made_types-returns-in_default t c =
    no_field_left c.args.schema.now.decls c.args.slots.now c.args.values.now _ (AgreeOn (shape c.args.of.now) (map shape c.loop-i.known.items)) c.loop-i.i c.in_default.ensures.lookup.3 c.loop-i.invariant

pub made_types-returns : goal.made_types-returns
made_types-returns t c =
    no_value_left c.args.schema.now.decls c.args.slots.now c.args.values.now _ (AgreeOn (shape c.args.of.now) (map shape c.loop-i.known.items)) c.loop-i.i c.loop-i-test.false c.loop-i.invariant

pub note_type-returns-in_ok-t : goal.note_type-returns-in_ok-t
note_type-returns-in_ok-t t c = λ Ts agree.
    agree_made (shape c.args.of.now) c.args.field.now.var c.in-Some.var c.in-Some.is (result_type c.args.schema.now.decls (view c.args.value.now)) Ts c.args.known.now.items agree c.put.new.items.items c.in_ok-t.t c.put.ensures c.in_ok-t.ensures.made

pub note_type-returns-else-names : goal.note_type-returns-else-names
note_type-returns-else-names t c = λ Ts agree.
    agree_left (shape c.args.of.now) c.args.field.now.var c.in-Some.var c.in-Some.is (result_type c.args.schema.now.decls (view c.args.value.now)) Ts c.args.known.now.items agree (sym c.names.ensures ∙ c.if-names.false)
