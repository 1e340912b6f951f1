use Rattle.std.proofs.Common.{◌∙◌, subst, sym}
use Rattle.tl_types.specs.Seen.{view}
use Rattle.box_wire.specs.StepReading.{IsDated}
use Rattle.box_wire.proofs.DatedSteps.{step_dated}
use Rattle.box_wire.proofs.steps.step_from.Goals as goal

pub returns-in_ok-step_of-in-None-clause-dated : goal.returns-in_ok-step_of-in-None-clause-dated
returns-in_ok-step_of-in-None-clause-dated c = subst IsDated (sym c.in_ok-step_of-in-None.ensures) (step_dated (view c.put_forms.new.value) (sym c.step_cause.ensures ∙ c.in-None.is))
