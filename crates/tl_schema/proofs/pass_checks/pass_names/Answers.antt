use Rattle.tl_schema.specs.CheckCauses.{name_causes}
use Rattle.tl_schema.proofs.CheckSequence.{answer, goes_on, stop, last, of_same}
use Rattle.tl_schema.specs.declared.fault.CheckCause.TheVariants.{SameName}
use Rattle.tl_schema.proofs.pass_checks.pass_names.Goals as goal

pub returns-in_err-fault_at : goal.returns-in_err-fault_at
returns-in_err-fault_at c =
    answer c.args.index.now name_causes _ (stop c.in_ok-first_same_name.field-0 c.in_err-fault_at.field-0.0 (of_same c.requires.same SameName c.in_ok-first_same_name.field-0 c.in_ok-first_same_name.ensures) c.in_err-fault_at.ensures c.from_residual-in_err-fault_at.ensures.1)

pub returns-in_err-fault_at-2 : goal.returns-in_err-fault_at-2
returns-in_err-fault_at-2 c =
    answer c.args.index.now name_causes _ (goes_on c.in_ok-first_same_name.field-0 (of_same c.requires.same SameName c.in_ok-first_same_name.field-0 c.in_ok-first_same_name.ensures) c.in_ok-fault_at.ensures (stop c.first_that_writes.result c.in_err-fault_at-2.field-0.0 c.first_that_writes.ensures c.in_err-fault_at-2.ensures c.from_residual-in_err-fault_at-2.ensures.1))

pub returns-in_err-fault_at-3 : goal.returns-in_err-fault_at-3
returns-in_err-fault_at-3 c =
    answer c.args.index.now name_causes _ (goes_on c.in_ok-first_same_name.field-0 (of_same c.requires.same SameName c.in_ok-first_same_name.field-0 c.in_ok-first_same_name.ensures) c.in_ok-fault_at.ensures (goes_on c.first_that_writes.result c.first_that_writes.ensures c.in_ok-fault_at-2.ensures (stop c.first_that.result c.in_err-fault_at-3.field-0.0 c.first_that.ensures c.in_err-fault_at-3.ensures c.from_residual-in_err-fault_at-3.ensures.1)))

pub returns-in_err-fault_at-4 : goal.returns-in_err-fault_at-4
returns-in_err-fault_at-4 c =
    answer c.args.index.now name_causes _ (goes_on c.in_ok-first_same_name.field-0 (of_same c.requires.same SameName c.in_ok-first_same_name.field-0 c.in_ok-first_same_name.ensures) c.in_ok-fault_at.ensures (goes_on c.first_that_writes.result c.first_that_writes.ensures c.in_ok-fault_at-2.ensures (goes_on c.first_that.result c.first_that.ensures c.in_ok-fault_at-3.ensures (stop c.first_that-2.result c.in_err-fault_at-4.field-0.0 c.first_that-2.ensures c.in_err-fault_at-4.ensures c.from_residual-in_err-fault_at-4.ensures.1))))

pub returns : goal.returns
returns c =
    answer c.args.index.now name_causes _ (goes_on c.in_ok-first_same_name.field-0 (of_same c.requires.same SameName c.in_ok-first_same_name.field-0 c.in_ok-first_same_name.ensures) c.in_ok-fault_at.ensures (goes_on c.first_that_writes.result c.first_that_writes.ensures c.in_ok-fault_at-2.ensures (goes_on c.first_that.result c.first_that.ensures c.in_ok-fault_at-3.ensures (goes_on c.first_that-2.result c.first_that-2.ensures c.in_ok-fault_at-4.ensures (last c.first_that-3.result c.first_that-3.ensures c.fault_at-5.ensures)))))
