use Rattle.std.specs.Prelude.{⊤}
use Rattle.wire_values.specs.Carried.{FitsStep}
use Rattle.wire_values.specs.Steps.{step_in, step_tree}
use Rattle.box_wire.specs.Kinds.{steps}
use Rattle.box_wire.proofs.StepLaws.{step_laws, step_levels}
use Rattle.box_world.proofs.MessageForms.{step_has}
use Rattle.box_world.proofs.MessagesFit.{step_in_fits}
use Rattle.box_world.proofs.SpelledMessages.{of_the_kind, of_their_size, are_whole, are_meant, meant_fit}
use Rattle.box_world.proofs.size_laws.steps_have_sizes.Goals as goal

pub returns-clause-kind : goal.returns-clause-kind
returns-clause-kind c = of_the_kind steps step_tree step_in (λ _. ⊤) step_laws step_has (λ m. tt)

pub returns-clause-size : goal.returns-clause-size
returns-clause-size c = of_their_size steps step_tree step_in (λ _. ⊤) step_laws step_has (λ m. tt)

pub returns-clause-whole : goal.returns-clause-whole
returns-clause-whole c = are_whole steps step_tree step_in (λ _. ⊤) step_laws step_has (λ m. tt)

pub returns-clause-meant : goal.returns-clause-meant
returns-clause-meant c = are_meant steps step_tree step_in (λ _. ⊤) step_laws step_has (λ m. tt) (λ t is clear. step_levels t is)

pub returns-clause-fit : goal.returns-clause-fit
returns-clause-fit c = meant_fit steps step_tree step_in (λ _. ⊤) step_laws FitsStep step_in_fits
