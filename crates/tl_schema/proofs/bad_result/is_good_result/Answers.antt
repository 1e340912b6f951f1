use Rattle.std.proofs.Common.{true≢false, sym, ◌∙◌}
use Rattle.std.proofs.lemmas.Bool.{not-true}
use Rattle.tl_schema.proofs.Results.{good, of_good}
use Rattle.tl_schema.proofs.bad_result.is_good_result.Goals as goal
use Rattle.tl_schema.proofs.bad_result.is_good_result.Goals.{then-is_type_name, else-is_type_name}

pub returns-then-not-is_variable : goal.returns-then-not-is_variable
returns-then-not-is_variable c =
    let same = rw (c.deref.ensures.value, c.deref-then-not-is_variable.ensures.value) at c.are_names.ensures in
    elim c.if-is_type_name.branch [
      | then-is_type_name w ↦
          let upper = sym (rw c.as_slice.ensures.value at c.is_type_name.ensures) ∙ w.if-is_type_name.true in
          let no_variable = sym (rw w.as_slice-then-is_type_name.ensures.value at w.is_variable.ensures) ∙ not-true _ (sym w.value-is ∙ c.if-not-is_variable.true) in (
            λ h. good c.args.decl.now c.in-Named.name c.in-Named.args c.in-Named.is upper no_variable (same.0 h),
            λ g. same.1 (of_good c.args.decl.now c.in-Named.name c.in-Named.args c.in-Named.is g),
          )
      | else-is_type_name w ↦ absurd (true≢false (sym c.if-not-is_variable.true ∙ w.value-is ∙ w.if-is_type_name.false))
    ]
