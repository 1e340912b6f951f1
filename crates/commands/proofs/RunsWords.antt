-- What a run does, from what its words are found to be.
use Rattle.std.proofs.Common.{ℕ, List, Some}
use Rattle.outside.specs.Answer.{memory_line}
use Rattle.outside.specs.declared.status.Status.{Status}
use Rattle.outside.specs.declared.status.Status.TheVariants.{Usage, Memory}
use Rattle.outside.specs.Begun.{Did}
use Rattle.outside.specs.Events.{HostState}
use Rattle.outside.specs.Pieces.{Tells}
use Rattle.outside.specs.Steps.{Grows}
use Rattle.box_server.specs.Keeping.{KeeperState}
use Rattle.serve_rooms.specs.Acts.{KeptState, beside}
use Rattle.serve_rooms.specs.Doing.{RanKept}
use Rattle.serve_rooms.specs.Serve.{keeps}
use Rattle.serve_rooms.specs.declared.status.KeptStatus.{KeptStatus}
use Rattle.serve_rooms.specs.declared.status.KeptStatus.TheVariants.{Run}
use Rattle.serve_rooms.proofs.Doing.{did_last}
use Rattle.commands.specs.KeepWords.{AsksNoKeep, AsksToKeep, KeepText}
use Rattle.commands.specs.Requests.{RequestText, AsksFor, AsksNothing}
use Rattle.commands.specs.Usage.{usage_line}
use Rattle.commands.specs.Work.{RanStored, RanWords, RunsRequest, kept, no_keep, no_memory, no_request, requested}

module _ (words : List (List ℕ)) (p q : HostState) (status : Status) where
  pub ran_none : AsksNothing words → Did (Tells usage_line Usage) p q (Some status) → RanWords words p q status
  ran_none none h = record { trace = h.trace; grew = h.grew; holds = no_request none h.holds }

  pub ran_request : (r : RequestText) → AsksFor words r → Grows p q (λ t. RunsRequest r t status) → RanWords words p q status
  ran_request r asks h = record { trace = h.trace; grew = h.grew; holds = requested r asks h.holds }

  pub ran_out : Did (Tells memory_line Memory) p q (Some status) → RanWords words p q status
  ran_out h = record { trace = h.trace; grew = h.grew; holds = no_memory h.holds }

module _ (words : List (List ℕ)) where
  pub stored_none : (p q : HostState) (k : KeeperState) (status : Status) → AsksNoKeep words → Did (Tells usage_line Usage) p q (Some status) → RanStored words (beside p k) (beside q k) (Run status)
  stored_none p q k status none h =
      let told = did_last (Tells usage_line Usage) p q k status h in
      record { trace = told.trace; grew = told.grew; holds = no_keep none told.holds }

  pub stored_kept : (p q : KeptState) (status : KeptStatus) (k : KeepText) → AsksToKeep words k → RanKept (keeps k.schema k.address k.sessions) p q status → RanStored words p q status
  stored_kept p q status k asks h = record { trace = h.trace; grew = h.grew; holds = kept k asks h.holds }
