use Rattle.std.proofs.Common.{arith, refl, rules, ◌∙◌, ◌+◌}
use Rattle.std.proofs.lemmas.Result.{err_from_is_err_and}
use Rattle.tl_base.specs.declared.fault.Fault.TheVariants.{Refused}
use Rattle.update_sessions.specs.declared.fault.SessionFault.TheVariants.{LinkFault}
use Rattle.update_sessions.specs.Faults.{fault_as}
use Rattle.update_sessions.specs.Exchanges.{MaySend}
use Rattle.update_sessions.specs.declared.fault.TheConstants.{MAX_FRAMES}
use Rattle.update_sessions.specs.Hearing.{client_side}
use Rattle.update_sessions.proofs.ClientSteps.{hears_stopped}
use Rattle.update_sessions.proofs.LinkUses.{uses_as, uses_then}
use Rattle.update_sessions.proofs.Stepping.{failed_as, never_as, never_then, many_then}
use Rattle.update_sessions.proofs.hearing.hear_all.Goals as goal

pub returns-in_err-hear_next-clause-hears : goal.returns-in_err-hear_next-clause-hears
returns-in_err-hear_next-clause-hears g c =
    let from = g.L.Source in
    let to = g.L.Sink in
    let q = err_from_is_err_and c.from_residual.result c.from_residual.ensures.1 in
    rw (q.1, q.2) (hears_stopped c.args.profile.now c.args.client.now c.loop-frames.client c.hear_next.new.client c.loop-frames.frames (from.state c.args.link.now).left (to.state c.args.link.now).written
    (from.state c.loop-frames.link).left (to.state c.loop-frames.link).written (from.state c.hear_next.new.link).left (to.state c.hear_next.new.link).written (fault_as c.in_err-hear_next.field-0.0) c.loop-frames-test.true (search rules) c.loop-frames.invariant.so_many
    c.in_err-hear_next.ensures.hears)

pub returns-in_err-hear_next-clause-never : goal.returns-in_err-hear_next-clause-never
returns-in_err-hear_next-clause-never g c =
    let from = g.L.Source in
    let to = g.L.Sink in
    let side = client_side c.args.profile.now in
    let q = err_from_is_err_and c.from_residual.result c.from_residual.ensures.1 in
    never_as (from.state c.args.link.now) (to.state c.args.link.now) (MaySend side c.args.client.now) _ _
    (never_then side MAX_FRAMES c.args.client.now c.loop-frames.client c.loop-frames.frames (from.state c.args.link.now) (from.state c.loop-frames.link) (to.state c.args.link.now) (to.state c.loop-frames.link) _ _ c.loop-frames-test.true c.loop-frames.invariant.so_many c.loop-frames.invariant.used
    c.hear_next.ensures.never)
    (λ e. failed_as c.from_residual.result c.hear_next.result q.0 c.in_err-hear_next.field-0.0 (Refused LinkFault) q.1 q.2 c.in_err-hear_next.was e)

pub loop-frames-preserved : goal.loop-frames-preserved
loop-frames-preserved g c =
    let from = g.L.Source in
    let to = g.L.Sink in
    record {
      so_many = many_then (client_side c.args.profile.now) c.args.client.now c.loop-frames.client c.hear_next.new.client c.loop-frames.frames 1 (c.loop-frames.frames + 1) (from.state c.args.link.now).left (to.state c.args.link.now).written
          (from.state c.loop-frames.link).left (to.state c.loop-frames.link).written (from.state c.hear_next.new.link).left (to.state c.hear_next.new.link).written c.loop-frames.invariant.so_many c.in_ok-hear_next.ensures.hears refl;
      used = uses_then (from.state c.args.link.now) (from.state c.loop-frames.link) (from.state c.hear_next.new.link) (to.state c.args.link.now) (to.state c.loop-frames.link) (to.state c.hear_next.new.link) ⊥ ⊥ c.loop-frames.invariant.used
          (uses_as (from.state c.loop-frames.link) (from.state c.hear_next.new.link) (to.state c.loop-frames.link) (to.state c.hear_next.new.link) _ ⊥ c.hear_next.ensures.used (λ f. absurd f));
      beside = c.hear_next.ensures.beside ∙ c.loop-frames.invariant.beside;
      next = omega (arith, c.hear_next.ensures.next, c.loop-frames.invariant.next);
    }
