use Rattle.std.proofs.Common.{rules, sym, subst, List, map, replicate}
use Rattle.tl_schema.specs.Seen.{slot}
use Rattle.tl_schema.specs.Types.{Shape, call}
use Rattle.tl_types.specs.Seen.{view, views}
use Rattle.tl_types.specs.declared.value.Value as own
use Rattle.tl_calls.specs.Results.{result_type, results}
use Rattle.tl_calls.specs.inner.Judging.{AreTraits, KnowsTraits, plain}
use Rattle.tl_calls.proofs.Judged.{plain_any, knows_any, knows_one}
use Rattle.tl_calls.proofs.ResultSteps.{known_first, next_field, no_value_left, no_field_left, result_called, result_no_call, result_not_called}
use Rattle.tl_calls.proofs.judging.+result_traits.Goals as goal

pub result_traits-returns-in_default-function_at : goal.result_traits-returns-in_default-function_at
result_traits-returns-in_default-function_at t c =
    subst (λ (T : Shape). AreTraits c.args.schema.now T plain) (sym (result_not_called c.args.schema.now.decls c.args.call.now c.in-Call.entry c.in-Call.fields c.in-Call.is c.in_default-function_at.ensures.none))
    (plain_any c.args.schema.now)

pub result_traits-returns-in_ok-known-in-Call : goal.result_traits-returns-in_ok-known-in-Call
result_traits-returns-in_ok-known-in-Call t c =
    let schema = c.args.schema.now in
    let e = c.in-Some.entry.now in
    let vs = c.deref.result.now in
    let fs = c.deref-in-Call.result.now in
    subst (λ (T : Shape). AreTraits schema T c.traits_of.result)
    (sym (result_called schema.decls c.args.call.now c.in-Call.entry c.in-Call.fields e vs fs c.in-Call.is c.in-Some.ensures.some c.deref.ensures.value c.deref-in-Call.ensures.value))
    (c.traits_of.ensures (results schema.decls (replicate e.vars call) (map slot fs) (views vs)) (subst (KnowsTraits schema (results schema.decls (replicate e.vars call) (map slot fs) (views vs))) (sym c.deref-in-Call-2.ensures.value) c.in_ok-known-in-Call.ensures))

pub result_traits-returns-in_default : goal.result_traits-returns-in_default
result_traits-returns-in_default t c =
    subst (λ (T : Shape). AreTraits c.args.schema.now T plain) (sym (result_no_call c.args.schema.now.decls (view c.args.call.now) (search (rules, own.the_lemmas)))) (plain_any c.args.schema.now)

pub called_traits-loop-i-init : goal.called_traits-loop-i-init
called_traits-loop-i-init t c =
    known_first c.args.schema.now.decls (map slot c.args.slots.now) (views c.args.values.now) (λ (Ts : List Shape). KnowsTraits c.args.schema.now Ts c.in_ok-known.known.items) (replicate c.args.vars call)
    (subst (KnowsTraits c.args.schema.now (replicate c.args.vars call)) (sym c.in_ok-known.ensures) (knows_any c.args.schema.now c.args.vars))

pub called_traits-loop-i-preserved : goal.called_traits-loop-i-preserved
called_traits-loop-i-preserved t c =
    let there = c.in-Some.ensures.lookup in
    next_field c.args.schema.now.decls c.args.slots.now c.args.values.now _ c.loop-i.i c.index-values-i.result c.in-Some.field.now c.loop-i-test.true c.index-values-i.is there.3.0 there.1
    (λ (Ts : List Shape). KnowsTraits c.args.schema.now Ts c.loop-i.known.items) (λ (Ts : List Shape). KnowsTraits c.args.schema.now Ts c.note_traits.new.known.items) c.in_ok-note_traits.ensures c.loop-i.invariant

pub called_traits-returns-in_default : goal.called_traits-returns-in_default
called_traits-returns-in_default t c =
    no_field_left c.args.schema.now.decls c.args.slots.now c.args.values.now _ (λ (Ts : List Shape). KnowsTraits c.args.schema.now Ts c.loop-i.known.items) c.loop-i.i c.in_default.ensures.lookup.3 c.loop-i.invariant

pub called_traits-returns : goal.called_traits-returns
called_traits-returns t c =
    no_value_left c.args.schema.now.decls c.args.slots.now c.args.values.now _ (λ (Ts : List Shape). KnowsTraits c.args.schema.now Ts c.loop-i.known.items) c.loop-i.i c.loop-i-test.false c.loop-i.invariant

pub note_traits-returns-in_ok-t : goal.note_traits-returns-in_ok-t
note_traits-returns-in_ok-t t c = λ Ts knows.
    knows_one c.args.schema.now c.args.field.now.var c.in-Some.var (result_type c.args.schema.now.decls (view c.args.value.now)) Ts c.in_ok-t.t c.args.known.now.items c.put.new.items.items c.in-Some.is c.put.ensures knows c.in_ok-t.ensures
