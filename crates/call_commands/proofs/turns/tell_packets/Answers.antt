use Rattle.std.proofs.Common.{arith, ap, subst}
use Rattle.std.proofs.lemmas.Result.{err_from_is_err_and}
use Rattle.call_commands.specs.inner.Turning.{GoesOn}
use Rattle.call_commands.proofs.Taking.{none_reached, one_reached, run_left, run_stopped}
use Rattle.call_commands.proofs.turns.tell_packets.Goals as goal

pub packets-init : goal.packets-init
packets-init g c = record {
  within = omega arith;
  few = omega (arith, ap (λ k. k.next) c.new-calls.ensures.none);
  fitting = c.new-calls.ensures.fitting c.args.schema.now;
  so = none_reached c.args.schema.now c.new-calls.result (g.H.Host.state c.args.host.now) (c.new-calls.ensures.stands c.args.schema.now);
}

pub tell_next-requires-clause-few : goal.tell_next-requires-clause-few
tell_next-requires-clause-few g c = omega (arith, c.packets.invariant.few, c.packets.invariant.within)

pub packets-preserved : goal.packets-preserved
packets-preserved g c =
    let i = c.packets.invariant in
    let on = subst (GoesOn c.packets.at c.packets.calls c.tell_next.new.calls) c.in-Next.is c.in_ok-end.ensures.on in
    record {
      within = on.1;
      few = omega (arith, on.0, on.2, i.few);
      fitting = c.in_ok-end.ensures.fitting;
      so = one_reached c.args.schema.now c.packets.calls c.tell_next.new.calls c.packets.at _ _ _ i.so c.in_ok-end.field-0 c.in-Next.end c.in-Next.is c.in_ok-end.ensures.does;
    }

pub packets-smaller : goal.packets-smaller
packets-smaller g c =
    let on = subst (GoesOn c.packets.at c.packets.calls c.tell_next.new.calls) c.in-Next.is c.in_ok-end.ensures.on in
    omega (arith, on.0, on.1)

pub returns-in_err-end : goal.returns-in_err-end
returns-in_err-end g c =
    let p = err_from_is_err_and c.from_residual.result c.from_residual.ensures.1 in
    rw p.1 (run_stopped c.args.schema.now c.packets.calls c.tell_next.new.calls c.packets.at _ _ _ c.packets.invariant.so c.in_err-end.field-0.0 c.in_err-end.ensures.does)

pub returns-in-Last : goal.returns-in-Last
returns-in-Last g c = run_left c.args.schema.now c.packets.calls c.tell_next.new.calls c.packets.at _ _ _ c.packets.invariant.so c.in_ok-end.field-0 c.in-Last.status c.in-Last.is c.in_ok-end.ensures.does
