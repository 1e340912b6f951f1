use Rattle.std.specs.Prelude.{⊤}
use Rattle.wire_values.specs.Carried.{FitsStep}
use Rattle.wire_values.specs.Steps.{step_in, step_tree}
use Rattle.wire_values.proofs.PostsAndSteps.{step_fits}
use Rattle.box_wire.specs.Kinds.{steps}
use Rattle.box_wire.proofs.StepLaws.{step_laws, step_levels}
use Rattle.box_wire.proofs.ReadBack.{are_spelled, are_read_back}
use Rattle.box_wire.proofs.laws.steps_and_bytes.Goals as goal

pub returns-clause-spelled : goal.returns-clause-spelled
returns-clause-spelled c = are_spelled steps step_tree step_in (λ _. ⊤) FitsStep step_laws step_fits

pub returns-clause-read_back : goal.returns-clause-read_back
returns-clause-read_back c = are_read_back steps step_tree step_in (λ _. ⊤) FitsStep step_laws step_fits (λ t is clear. step_levels t is)
