use Rattle.std.proofs.Common.{ap, refl, sym, subst, Option, None, Ok, Err}
use Rattle.tl_types.specs.declared.value.Value.{Value}
use Rattle.box_wire.proofs.StepReads.{StepOf, steps_read, step_takes_four}
use Rattle.box_wire.proofs.steps.read_step.Goals as goal

pub decode_or_end-requires-clause-four : goal.decode_or_end-requires-clause-four
decode_or_end-requires-clause-four g c = step_takes_four c.args.profile.now c.plan.result.now c.plan.ensures.plan

pub returns-in-Ok-None-clause-read : goal.returns-in-Ok-None-clause-read
returns-in-Ok-None-clause-read g c =
    steps_read c.args.profile.now c.plan.result.now c.plan.ensures.sound c.plan.ensures.plan (g.S.Source.state c.args.from.now).left (g.S.Source.state c.decode_or_end.new.from).left c.decode_or_end.new.at (Ok c.in-Ok-None.field-0) (Ok None) (g.met.S.Source.are_bytes c.args.from.now)
    c.in-Ok-None.ensures.none c.in-Ok-None.ensures.spelled c.in-Ok-None.ensures.refused
    (subst (λ (x : Option Value). StepOf c.args.profile.now (Ok x) (Ok None)) (sym c.in-Ok-None.field-0-is) refl)

pub returns-in-Ok-Some-clause-read : goal.returns-in-Ok-Some-clause-read
returns-in-Ok-Some-clause-read g c =
    steps_read c.args.profile.now c.plan.result.now c.plan.ensures.sound c.plan.ensures.plan (g.S.Source.state c.args.from.now).left (g.S.Source.state c.decode_or_end.new.from).left c.decode_or_end.new.at (Ok c.in-Ok-Some.field-0) c.step_from.result (g.met.S.Source.are_bytes c.args.from.now)
    c.in-Ok-Some.ensures.none c.in-Ok-Some.ensures.spelled c.in-Ok-Some.ensures.refused
    (subst (λ (x : Option Value). StepOf c.args.profile.now (Ok x) c.step_from.result) (sym c.in-Ok-Some.field-0-is) c.step_from.ensures.answers)

pub returns-in-Err-clause-read : goal.returns-in-Err-clause-read
returns-in-Err-clause-read g c =
    steps_read c.args.profile.now c.plan.result.now c.plan.ensures.sound c.plan.ensures.plan (g.S.Source.state c.args.from.now).left (g.S.Source.state c.decode_or_end.new.from).left c.decode_or_end.new.at (Err c.in-Err.fault) (Err c.step_fault.result) (g.met.S.Source.are_bytes c.args.from.now)
    c.in-Err.ensures.none c.in-Err.ensures.spelled c.in-Err.ensures.refused (ap Err c.step_fault.ensures)
