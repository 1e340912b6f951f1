use Rattle.std.proofs.Common.{List, ℕ, None, ◌∷◌, ap, sym, ◌∙◌, subst, arith}
use Rattle.std.proofs.lemmas.Bool.Decides.{nat_tests}
use Rattle.tl_types.specs.Seen.{view}
use Rattle.tl_calls.specs.Calling.{AreOpenIn, CallsView, IsCalls, StandsFor, with_call}
use Rattle.tl_calls.specs.Events.{sent}
use Rattle.tl_calls.specs.Seen.{calls_of}
use Rattle.tl_types.specs.declared.value.Value.{Value}
use Rattle.tl_calls.specs.Results.{TellsCause, result_type}
use Rattle.tl_calls.proofs.Sending.{sent_view, sent_fitting, sent_is_calls}
use Rattle.tl_calls.proofs.Stands.{sent_stands}
use Rattle.tl_calls.proofs.calls.Calls.send.Goals as goal

pub invariant_of-self : goal.invariant_of-self
invariant_of-self c =
    let limit = c.if-open-ge-MAX_OPEN.false in let count = c.open.ensures in
    subst IsCalls (sym (sent_view c.self.inside.next c.self.inside.calls.entries c.insert.new.self.entries c.args.call c.self.invariant c.in-Ok-insert.ensures.entries))
    (subst (λ (t : CallsView). IsCalls (with_call (view c.args.call) t)) (sym c.self.view_is)
    (sent_is_calls c.args.self.now (view c.args.call) (subst IsCalls c.self.view_is c.self.invariant) c.requires.few (grind (arith, nat_tests, limit, count))))

pub returns-in-Ok-insert-clause-sends : goal.returns-in-Ok-insert-clause-sends
returns-in-Ok-insert-clause-sends c =
    let limit = c.if-open-ge-MAX_OPEN.false in let count = c.open.ensures in (
      grind (arith, nat_tests, limit, count),
      subst (TellsCause c.args.schema.now (result_type c.args.schema.now.decls (view c.args.call))) c.in_default.is c.in-Ok.ensures,
      ap (λ (s : CallsView). s.next) c.self.view_is,
      sent_view c.self.inside.next c.self.inside.calls.entries c.insert.new.self.entries c.args.call c.self.invariant c.in-Ok-insert.ensures.entries ∙ ap (with_call (view c.args.call)) c.self.view_is,
    )

pub returns-in-Ok-insert-clause-fitting : goal.returns-in-Ok-insert-clause-fitting
returns-in-Ok-insert-clause-fitting c =
    subst (AreOpenIn c.args.schema.now)
    (sym (sent_view c.self.inside.next c.self.inside.calls.entries c.insert.new.self.entries c.args.call c.self.invariant c.in-Ok-insert.ensures.entries ∙ ap (with_call (view c.args.call)) c.self.view_is))
    (sent_fitting c.args.schema.now c.args.self.now (view c.args.call) c.requires.fitting (subst (TellsCause c.args.schema.now (result_type c.args.schema.now.decls (view c.args.call))) c.in_default.is c.in-Ok.ensures))

pub returns-in-Ok-insert-clause-logs : goal.returns-in-Ok-insert-clause-logs
returns-in-Ok-insert-clause-logs c = λ past s.
    subst (λ (t : CallsView). StandsFor c.args.schema.now t ((sent (view c.args.call), None) ∷ past))
    (sym (sent_view c.self.inside.next c.self.inside.calls.entries c.insert.new.self.entries c.args.call c.self.invariant c.in-Ok-insert.ensures.entries ∙ ap (with_call (view c.args.call)) c.self.view_is))
    (sent_stands c.args.schema.now c.args.self.now past (view c.args.call) s)

pub returns-clause-fitting : goal.returns-clause-fitting
returns-clause-fitting c =
    subst (λ (es : List (ℕ × Value)). AreOpenIn c.args.schema.now (calls_of c.self.inside.next es)) (sym c.in-Err-insert.ensures.err)
    (subst (AreOpenIn c.args.schema.now) (sym c.self.view_is) c.requires.fitting)
