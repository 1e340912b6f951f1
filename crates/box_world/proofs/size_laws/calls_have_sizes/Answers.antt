use Rattle.std.specs.Prelude.{⊤}
use Rattle.wire_values.specs.Calls.{call_in, call_tree}
use Rattle.wire_values.specs.Carried.{FitsCall}
use Rattle.box_wire.specs.Kinds.{calls}
use Rattle.box_wire.proofs.CallLaws.{call_laws, call_levels}
use Rattle.box_world.proofs.Least.{calls_are_long}
use Rattle.box_world.proofs.MessageForms.{call_has, call_served}
use Rattle.box_world.proofs.MessagesFit.{call_in_fits}
use Rattle.box_world.proofs.SpelledMessages.{of_the_kind, of_their_size, are_whole, are_meant, meant_fit}
use Rattle.box_world.proofs.size_laws.calls_have_sizes.Goals as goal

pub returns-clause-kind : goal.returns-clause-kind
returns-clause-kind c = of_the_kind calls call_tree call_in (λ _. ⊤) call_laws call_has call_served

pub returns-clause-size : goal.returns-clause-size
returns-clause-size c = of_their_size calls call_tree call_in (λ _. ⊤) call_laws call_has call_served

pub returns-clause-whole : goal.returns-clause-whole
returns-clause-whole c = are_whole calls call_tree call_in (λ _. ⊤) call_laws call_has call_served

pub returns-clause-meant : goal.returns-clause-meant
returns-clause-meant c = are_meant calls call_tree call_in (λ _. ⊤) call_laws call_has call_served call_levels

pub returns-clause-fit : goal.returns-clause-fit
returns-clause-fit c = meant_fit calls call_tree call_in (λ _. ⊤) call_laws FitsCall call_in_fits

pub returns-clause-least : goal.returns-clause-least
returns-clause-least c = calls_are_long
