use Rattle.wire_values.specs.Carried.{FitsSaved, IsSaved}
use Rattle.wire_values.specs.SavedClients.{saved_in, saved_tree}
use Rattle.box_wire.specs.Kinds.{saved_clients}
use Rattle.box_wire.proofs.SavedLaws.{saved_laws, saved_levels}
use Rattle.box_world.proofs.MessageForms.{saved_has}
use Rattle.box_world.proofs.MessagesFit.{saved_in_fits}
use Rattle.box_world.proofs.SpelledMessages.{of_the_kind, of_their_size, are_whole, are_meant, meant_fit}
use Rattle.box_world.proofs.size_laws.saved_clients_have_sizes.Goals as goal

pub returns-clause-kind : goal.returns-clause-kind
returns-clause-kind c = of_the_kind saved_clients saved_tree saved_in IsSaved saved_laws saved_has (λ m. tt)

pub returns-clause-size : goal.returns-clause-size
returns-clause-size c = of_their_size saved_clients saved_tree saved_in IsSaved saved_laws saved_has (λ m. tt)

pub returns-clause-whole : goal.returns-clause-whole
returns-clause-whole c = are_whole saved_clients saved_tree saved_in IsSaved saved_laws saved_has (λ m. tt)

pub returns-clause-meant : goal.returns-clause-meant
returns-clause-meant c = are_meant saved_clients saved_tree saved_in IsSaved saved_laws saved_has (λ m. tt) (λ t is clear. saved_levels t is)

pub returns-clause-fit : goal.returns-clause-fit
returns-clause-fit c = meant_fit saved_clients saved_tree saved_in IsSaved saved_laws FitsSaved saved_in_fits
