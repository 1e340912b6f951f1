use Rattle.tl_schema.specs.CheckCauses.{meaning_causes}
use Rattle.tl_schema.proofs.CheckSequence.{answer, goes_on, stop, last, of_same}
use Rattle.tl_schema.specs.declared.fault.CheckCause.TheVariants.{SameNumber}
use Rattle.tl_schema.proofs.pass_checks.pass_meanings.Goals as goal

pub returns-in_err-fault_at : goal.returns-in_err-fault_at
returns-in_err-fault_at c =
    answer c.args.index.now meaning_causes _ (stop c.first_that_writes.result c.in_err-fault_at.field-0.0 c.first_that_writes.ensures c.in_err-fault_at.ensures c.from_residual.ensures.1)

pub returns-in_err-fault_at-2 : goal.returns-in_err-fault_at-2
returns-in_err-fault_at-2 c =
    answer c.args.index.now meaning_causes _ (goes_on c.first_that_writes.result c.first_that_writes.ensures c.in_ok-fault_at.ensures (stop c.first_that.result c.in_err-fault_at-2.field-0.0 c.first_that.ensures c.in_err-fault_at-2.ensures c.from_residual-in_err-fault_at-2.ensures.1))

pub returns : goal.returns
returns c =
    answer c.args.index.now meaning_causes _ (goes_on c.first_that_writes.result c.first_that_writes.ensures c.in_ok-fault_at.ensures (goes_on c.first_that.result c.first_that.ensures c.in_ok-fault_at-2.ensures (last c.in_ok-first_same_number.field-0 (of_same c.requires.same SameNumber c.in_ok-first_same_number.field-0 c.in_ok-first_same_number.ensures) c.fault_at-3.ensures)))
