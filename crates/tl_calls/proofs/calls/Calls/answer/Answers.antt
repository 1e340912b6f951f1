use Rattle.tl_schema.proofs.ResultsFormed.{results_are_formed}
use Rattle.std.proofs.Common.{Some, Ok, Err, ap, sym, ◌∙◌, subst}
use Rattle.std.specs.Option.{option_map, option_copied}
use Rattle.std.proofs.lemmas.Result.{err_from_is_err_and}
use Rattle.tl_schema.specs.Types.{Shape}
use Rattle.tl_types.specs.Seen.{view}
use Rattle.tl_calls.specs.Calling.{Answers, AreOpenIn, CallsView, IsCalls, LogsCame, open_at, without_call}
use Rattle.tl_base.specs.declared.fault.Fault.TheVariants.{Memory}
use Rattle.tl_decode.specs.Wholes.{ReadsBytes}
use Rattle.tl_calls.specs.Seen.{calls_of}
use Rattle.tl_calls.proofs.Entries.{lookup_seen}
use Rattle.tl_calls.proofs.Answers.{none_answers, none_logs, has_result, fault_answers, fault_logs, value_answers, value_logs, closed_view, closed_fitting, closed_is_calls}
use Rattle.tl_calls.proofs.Answered.{answered_in_formed}
use Rattle.tl_calls.proofs.calls.Calls.answer.Goals as goal

pub returns-in_default-clause-answers : goal.returns-in_default-clause-answers
returns-in_default-clause-answers c = none_answers c.args.schema.now c.args.self.now c.args.number c.args.bytes.now
    (sym (ap (option_map view) c.get.ensures.value ∙ sym (lookup_seen c.args.number c.self.inside.calls.entries) ∙ ap (λ (s : CallsView). open_at s c.args.number) c.self.view_is) ∙ ap (λ r. option_map view (option_copied r)) c.in_default.is)

pub returns-in_default-clause-logs : goal.returns-in_default-clause-logs
returns-in_default-clause-logs c = none_logs c.args.schema.now c.args.self.now c.args.number c.args.bytes.now
    (sym (ap (option_map view) c.get.ensures.value ∙ sym (lookup_seen c.args.number c.self.inside.calls.entries) ∙ ap (λ (s : CallsView). open_at s c.args.number) c.self.view_is) ∙ ap (λ r. option_map view (option_copied r)) c.in_default.is)

pub decode_bytes_as-requires : goal.decode_bytes_as-requires
decode_bytes_as-requires c = record {
  formed = c.in_ok-of.ensures.formed (has_result c.args.schema.now c.args.self.now c.args.number c.args.bytes.now (view c.in-Some.call.now)
      (sym (ap (option_map view) c.get.ensures.value ∙ sym (lookup_seen c.args.number c.self.inside.calls.entries) ∙ ap (λ (s : CallsView). open_at s c.args.number) c.self.view_is) ∙ ap (λ r. option_map view (option_copied r)) c.in-Some.is) c.requires.fitting);
}

pub returns-in_err-of-clause-answers : goal.returns-in_err-of-clause-answers
returns-in_err-of-clause-answers c =
    let p = err_from_is_err_and c.from_residual.result c.from_residual.ensures.1 in
    rw (p.1, p.2) (fault_answers c.args.schema.now c.args.self.now c.args.number c.args.bytes.now (view c.in-Some.call.now)
    (sym (ap (option_map view) c.get.ensures.value ∙ sym (lookup_seen c.args.number c.self.inside.calls.entries) ∙ ap (λ (s : CallsView). open_at s c.args.number) c.self.view_is) ∙ ap (λ r. option_map view (option_copied r)) c.in-Some.is) Memory tt)

pub returns-in_err-of-clause-logs : goal.returns-in_err-of-clause-logs
returns-in_err-of-clause-logs c =
    let p = err_from_is_err_and c.from_residual.result c.from_residual.ensures.1 in
    rw (p.1, p.2) (λ past s. s)

pub returns-in-Err-clause-answers : goal.returns-in-Err-clause-answers
returns-in-Err-clause-answers c = fault_answers c.args.schema.now c.args.self.now c.args.number c.args.bytes.now (view c.in-Some.call.now)
    (sym (ap (option_map view) c.get.ensures.value ∙ sym (lookup_seen c.args.number c.self.inside.calls.entries) ∙ ap (λ (s : CallsView). open_at s c.args.number) c.self.view_is) ∙ ap (λ r. option_map view (option_copied r)) c.in-Some.is) c.in-Err.fault
    (subst (λ (T : Shape). ReadsBytes c.args.schema.now T c.args.bytes.now (Err c.in-Err.fault)) c.in_ok-of.ensures.made c.in-Err.ensures.whole)

pub returns-in-Err-clause-logs : goal.returns-in-Err-clause-logs
returns-in-Err-clause-logs c = fault_logs c.args.schema.now c.args.self.now c.args.number c.args.bytes.now (view c.in-Some.call.now)
    (sym (ap (option_map view) c.get.ensures.value ∙ sym (lookup_seen c.args.number c.self.inside.calls.entries) ∙ ap (λ (s : CallsView). open_at s c.args.number) c.self.view_is) ∙ ap (λ r. option_map view (option_copied r)) c.in-Some.is)
    (answered_in_formed results_are_formed) c.in-Err.ensures.sound c.requires.fitting c.in-Err.ensures.bytes c.in-Err.fault
    (subst (λ (T : Shape). ReadsBytes c.args.schema.now T c.args.bytes.now (Err c.in-Err.fault)) c.in_ok-of.ensures.made c.in-Err.ensures.whole)

pub invariant_of-self : goal.invariant_of-self
invariant_of-self c =
    subst IsCalls (sym (closed_view c.self.inside.next c.self.inside.calls.entries c.remove.new.self.entries c.args.number c.remove.ensures.entries))
    (closed_is_calls (calls_of c.self.inside.next c.self.inside.calls.entries) c.args.number c.self.invariant)

pub returns-clause-answers : goal.returns-clause-answers
returns-clause-answers c =
    subst (λ (t : CallsView). Answers c.args.schema.now c.args.self.now t c.args.number c.args.bytes.now (Ok (Some c.in-Ok.value))) (sym (closed_view c.self.inside.next c.self.inside.calls.entries c.remove.new.self.entries c.args.number c.remove.ensures.entries ∙ ap (without_call c.args.number) c.self.view_is))
    (value_answers c.args.schema.now c.args.self.now c.args.number c.args.bytes.now (view c.in-Some.call.now) (sym (ap (option_map view) c.get.ensures.value ∙ sym (lookup_seen c.args.number c.self.inside.calls.entries) ∙ ap (λ (s : CallsView). open_at s c.args.number) c.self.view_is) ∙ ap (λ r. option_map view (option_copied r)) c.in-Some.is) c.in-Ok.value
    (subst (λ (T : Shape). ReadsBytes c.args.schema.now T c.args.bytes.now (Ok c.in-Ok.value)) c.in_ok-of.ensures.made c.in-Ok.ensures.whole))

pub returns-clause-fitting : goal.returns-clause-fitting
returns-clause-fitting c = subst (AreOpenIn c.args.schema.now) (sym (closed_view c.self.inside.next c.self.inside.calls.entries c.remove.new.self.entries c.args.number c.remove.ensures.entries ∙ ap (without_call c.args.number) c.self.view_is)) (closed_fitting c.args.schema.now c.args.self.now c.args.number c.requires.fitting)

pub returns-clause-logs : goal.returns-clause-logs
returns-clause-logs c =
    subst (λ (t : CallsView). LogsCame c.args.schema.now c.args.self.now t c.args.number c.args.bytes.now (Ok (Some c.in-Ok.value))) (sym (closed_view c.self.inside.next c.self.inside.calls.entries c.remove.new.self.entries c.args.number c.remove.ensures.entries ∙ ap (without_call c.args.number) c.self.view_is))
    (value_logs c.args.schema.now c.args.self.now c.args.number c.args.bytes.now (view c.in-Some.call.now) (sym (ap (option_map view) c.get.ensures.value ∙ sym (lookup_seen c.args.number c.self.inside.calls.entries) ∙ ap (λ (s : CallsView). open_at s c.args.number) c.self.view_is) ∙ ap (λ r. option_map view (option_copied r)) c.in-Some.is) c.in-Ok.value
    (subst (λ (T : Shape). ReadsBytes c.args.schema.now T c.args.bytes.now (Ok c.in-Ok.value)) c.in_ok-of.ensures.made c.in-Ok.ensures.whole))
