use Rattle.std.proofs.lemmas.Result.{err_from_is_err_and}
use Rattle.wire_profile.proofs.Passing.{answers_fault, answers_profile}
use Rattle.wire_profile.proofs.profile.Profile.of.Goals as goal

pub returns-in_err-check : goal.returns-in_err-check
returns-in_err-check c =
    let told = answers_fault c.args.schema.now c.in_ok-layout.layout c.in_err-check.field-0.0 c.in_ok-layout.ensures.found c.in_ok-layout.ensures.schema c.in_err-check.ensures.fault in
    let p = err_from_is_err_and c.from_residual-in_err-check.result c.from_residual-in_err-check.ensures.1 in
    rw (p.1, p.2) record { answer = told }

pub invariant_of-result : goal.invariant_of-result
invariant_of-result c = record { good = c.in_ok-check.ensures.profile; of_table = c.in_ok-table.ensures; of_plan = c.in_ok-plan.ensures }

pub returns : goal.returns
returns c = record { answer = answers_profile c.args.schema.now c.in_ok-layout.layout c.in_ok-layout.ensures.found c.in_ok-layout.ensures.schema c.in_ok-check.ensures.fault }
