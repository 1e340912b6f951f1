use Rattle.wire_values.specs.Carried.{FitsSaved, IsSaved}
use Rattle.wire_values.specs.SavedClients.{saved_in, saved_tree}
use Rattle.wire_values.proofs.SavedValues.{saved_fits}
use Rattle.box_wire.specs.Kinds.{saved_clients}
use Rattle.box_wire.proofs.SavedLaws.{saved_laws, saved_levels}
use Rattle.box_wire.proofs.ReadBack.{are_spelled, are_read_back}
use Rattle.box_wire.proofs.laws.saved_clients_and_bytes.Goals as goal

pub returns-clause-spelled : goal.returns-clause-spelled
returns-clause-spelled c = are_spelled saved_clients saved_tree saved_in IsSaved FitsSaved saved_laws saved_fits

pub returns-clause-read_back : goal.returns-clause-read_back
returns-clause-read_back c = are_read_back saved_clients saved_tree saved_in IsSaved FitsSaved saved_laws saved_fits (λ t is clear. saved_levels t is)
