-- Laws of runs over a keeper.
use Rattle.std.proofs.Common.{◌≡◌, ◌++◌, Option, Some, None, refl, subst}
use Rattle.box_server.specs.Keeping.{KeeperState}
use Rattle.outside.specs.Answer.{memory_line}
use Rattle.outside.specs.declared.status.Status.{Status}
use Rattle.outside.specs.declared.status.Status.TheVariants.{Memory}
use Rattle.outside.specs.Events.{HostState}
use Rattle.outside.specs.Pieces.{Tells}
use Rattle.outside.specs.Begun.{Did}
use Rattle.outside.specs.Steps.{StepOf}
use Rattle.serve_rooms.specs.Acts.{Act, KeptState, beside}
use Rattle.serve_rooms.specs.Doing.{DidKept, RanKept, done, out_of_memory}
use Rattle.serve_rooms.specs.declared.status.KeptStatus.{KeptStatus}
use Rattle.serve_rooms.specs.declared.status.KeptStatus.TheVariants.{Run}
use Rattle.serve_rooms.proofs.Acting.{kept_more}
use Rattle.serve_rooms.proofs.Doing.{did_last}

pub ran_kept : (work : StepOf Act KeptStatus) (p q : KeptState) (answer : Option KeptStatus) (status : KeptStatus) → answer ≡ Some status → DidKept work p q answer → RanKept work p q status
ran_kept work p q answer status is h = let g = subst (λ (x : Option KeptStatus). DidKept work p q x) is h in record { trace = g.trace; grew = g.grew; holds = done g.holds }

pub ran_out : (work : StepOf Act KeptStatus) (p : KeptState) (q r : HostState) (k : KeeperState) (answer : Option KeptStatus) (status : Status) → answer ≡ None → DidKept work p (beside q k) answer → Did (Tells memory_line Memory) q r (Some status) → RanKept work p (beside r k) (Run status)
ran_out work p q r k answer status is begun h =
    let g = subst (λ (x : Option KeptStatus). DidKept work p (beside q k) x) is begun in
    let told = did_last (Tells memory_line Memory) q r k status h in
    record {
      trace = g.trace ++ told.trace;
      grew = kept_more p (beside q k) (beside r k) g.trace told.trace g.grew told.grew;
      holds = out_of_memory (record { first = g.trace; rest = told.trace; between = Memory; splits = refl; does = (g.holds, refl); goes = told.holds });
    }
