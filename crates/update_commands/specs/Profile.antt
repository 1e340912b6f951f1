-- What follows of a schema that is a profile of the protocol. This project's own.
use Rattle.std.specs.Prelude.{List, Ok, Err}
use Rattle.tl_schema.specs.Schemas.{Declared}
use Rattle.wire_profile.specs.Faults.{FaultView, IsAnswer}
use Rattle.wire_profile.specs.Indexes.{ProfileView}
use Rattle.outside.specs.Answer.{refused}
use Rattle.outside.specs.declared.status.Status.{Status}
use Rattle.fault_lines.specs.Profiled.{form_line}
use Rattle.outside.specs.Events.{Event}
use Rattle.outside.specs.Printing.{Prints}
use Rattle.outside.specs.Steps.{Step}

-- a form of the protocol is missing from the schema or differs there, and its line is told; or it is a profile, and then the rest
pub data OfProfile (Rest : ProfileView → Step Status) (S : Declared) (t : List Event) (status : Status) : Type 0 where
  no_profile : (fault : FaultView) → IsAnswer S (Err fault) → Prints (refused (form_line fault)) t status → OfProfile Rest S t status
  profiled : (p : ProfileView) → IsAnswer S (Ok p) → Rest p t status → OfProfile Rest S t status
