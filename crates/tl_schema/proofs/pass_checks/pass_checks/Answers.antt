use Rattle.std.proofs.Common.{◌++◌, List, Err, subst}
use Rattle.std.specs.Prelude.{IfErr}
use Rattle.tl_program.specs.Program.{DeclText, program_text}
use Rattle.tl_schema.specs.inner.CheckSteps.{ChecksBy}
use Rattle.tl_names.specs.inner.BareSteps.{MarksEmpty}
use Rattle.tl_schema.specs.CheckCauses.{name_causes, meaning_causes, reference_causes}
use Rattle.tl_schema.proofs.CheckSequence.{fault_first, fault_then, passed_then}
use Rattle.tl_schema.proofs.pass_checks.pass_checks.Goals as goal

pub returns-in_err-pass_names-clause-refused : goal.returns-in_err-pass_names-clause-refused
returns-in_err-pass_names-clause-refused c =
    fault_first (program_text c.args.program.now) (meaning_causes ++ reference_causes) name_causes c.in_err-pass_names.field-0.0 c.from_residual.result (subst (λ (es : List DeclText). ChecksBy es name_causes (Err c.in_err-pass_names.field-0.0)) c.requires.same c.in_err-pass_names.ensures) c.from_residual.ensures.1

pub returns-in_err-pass_meanings-clause-refused : goal.returns-in_err-pass_meanings-clause-refused
returns-in_err-pass_meanings-clause-refused c =
    let ds = program_text c.args.program.now in
    fault_then ds (meaning_causes ++ reference_causes) name_causes c.from_residual-in_err-pass_meanings.result (rw c.requires.same at c.in_ok-pass_names.ensures)
    (fault_first ds reference_causes meaning_causes c.in_err-pass_meanings.field-0.0 c.from_residual-in_err-pass_meanings.result (subst (λ (es : List DeclText). ChecksBy es meaning_causes (Err c.in_err-pass_meanings.field-0.0)) c.requires.same c.in_err-pass_meanings.ensures) c.from_residual-in_err-pass_meanings.ensures.1)

pub returns-clause-passed : goal.returns-clause-passed
returns-clause-passed c =
    let ds = program_text c.args.program.now in
    passed_then ds (meaning_causes ++ reference_causes) name_causes (λ marks. MarksEmpty ds marks.items) c.pass_references.result (rw c.requires.same at c.in_ok-pass_names.ensures)
    (passed_then ds reference_causes meaning_causes (λ marks. MarksEmpty ds marks.items) c.pass_references.result (rw c.requires.same at c.in_ok-pass_meanings.ensures) (rw c.requires.same at c.pass_references.ensures.passed))

pub returns-clause-refused : goal.returns-clause-refused
returns-clause-refused c =
    let ds = program_text c.args.program.now in
    fault_then ds (meaning_causes ++ reference_causes) name_causes c.pass_references.result (rw c.requires.same at c.in_ok-pass_names.ensures)
    (fault_then ds reference_causes meaning_causes c.pass_references.result (rw c.requires.same at c.in_ok-pass_meanings.ensures) (subst (λ (es : List DeclText). IfErr c.pass_references.result (λ fault. ChecksBy es reference_causes (Err fault))) c.requires.same c.pass_references.ensures.refused))
