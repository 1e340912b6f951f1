use Rattle.std.proofs.Common.{[], ◌∷◌}
use Rattle.tl_schema.specs.CheckCauses.{reference_causes}
use Rattle.tl_schema.specs.declared.fault.CheckCause.TheVariants.{BareCycle, EmptyElement}
use Rattle.tl_schema.proofs.CheckSequence.{both_passed, first_fault, second_fault, gives_fault}
use Rattle.tl_schema.proofs.EmptyArguments.{first_empty}
use Rattle.tl_schema.proofs.ReferenceCycles.{reference_graph, first_reference_cycle}
use Rattle.tl_schema.proofs.pass_checks.pass_references.Goals as goal

pub first_on_cycle-requires-clause-graph : goal.first_on_cycle-requires-clause-graph
first_on_cycle-requires-clause-graph c = rw c.deref-2.ensures.value (reference_graph _ _ c.in_ok-edges.ensures)

pub returns-in_err-fault_at-clause-refused : goal.returns-in_err-fault_at-clause-refused
returns-in_err-fault_at-clause-refused c =
    let cycle = first_reference_cycle _ _ c.in_ok-edges.ensures c.in_ok-on_cycle.on_cycle (rw c.deref-2.ensures.value at c.in_ok-on_cycle.ensures) in
    gives_fault c.args.index.now reference_causes c.in_err-fault_at.field-0.0 c.from_residual-in_err-fault_at.result (first_fault c.args.index.now BareCycle (EmptyElement ∷ []) c.in_ok-on_cycle.on_cycle c.in_err-fault_at.field-0.0 cycle c.in_err-fault_at.ensures) c.from_residual-in_err-fault_at.ensures.1

pub returns-in_err-fault_at-2-clause-refused : goal.returns-in_err-fault_at-2-clause-refused
returns-in_err-fault_at-2-clause-refused c =
    let cycle = first_reference_cycle _ _ c.in_ok-edges.ensures c.in_ok-on_cycle.on_cycle (rw c.deref-2.ensures.value at c.in_ok-on_cycle.ensures) in
    let empty = first_empty c.args.index.now c.in_ok-marks.marks.items c.in_ok-marks.ensures c.first_that_writes-applied.result (rw c.as_slice.ensures.value at c.first_that_writes-applied.ensures) in
    gives_fault c.args.index.now reference_causes c.in_err-fault_at-2.field-0.0 c.from_residual-in_err-fault_at-2.result (second_fault c.args.index.now BareCycle EmptyElement c.in_ok-on_cycle.on_cycle c.first_that_writes-applied.result cycle empty c.in_err-fault_at-2.field-0.0 c.in_ok-fault_at.ensures c.in_err-fault_at-2.ensures) c.from_residual-in_err-fault_at-2.ensures.1

pub returns-clause-passed : goal.returns-clause-passed
returns-clause-passed c =
    let cycle = first_reference_cycle _ _ c.in_ok-edges.ensures c.in_ok-on_cycle.on_cycle (rw c.deref-2.ensures.value at c.in_ok-on_cycle.ensures) in
    let empty = first_empty c.args.index.now c.in_ok-marks.marks.items c.in_ok-marks.ensures c.first_that_writes-applied.result (rw c.as_slice.ensures.value at c.first_that_writes-applied.ensures) in
    (both_passed c.args.index.now BareCycle EmptyElement c.in_ok-on_cycle.on_cycle c.first_that_writes-applied.result cycle empty c.in_ok-fault_at.ensures c.in_ok-fault_at-2.ensures, c.in_ok-marks.ensures)
