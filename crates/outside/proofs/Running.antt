-- Laws of runs.
use Rattle.std.proofs.Common.{List, ◌++◌, Some, None, Result, Ok, Err, refl, subst, sym}
use Rattle.tl_base.specs.declared.host.Out.{Out}
use Rattle.outside.specs.declared.status.Status.{Status}
use Rattle.outside.specs.declared.status.Status.TheVariants.{Memory}
use Rattle.outside.specs.Begun.{Did, DidIn}
use Rattle.outside.specs.Events.{HostState}
use Rattle.outside.specs.Steps.{Step}
use Rattle.outside.specs.Pieces.{Tells}
use Rattle.outside.specs.Answer.{memory_line}
use Rattle.outside.specs.Runs.{done, out_of_memory, RanIn, Finishes, answered}
use Rattle.outside.proofs.Growing.{grew_more}

pub ran_done : {outs : List Out} (work : Step Status) (p q : HostState) (status : Status) → DidIn outs work p q (Some status) → RanIn outs work p q status
ran_done work p q status g = record { trace = g.trace; grew = g.grew; holds = done g.holds }

pub ran_out : {outs : List Out} (work : Step Status) (p q r : HostState) (status : Status) → DidIn outs work p q None → Did (Tells memory_line Memory) q r (Some status) → RanIn outs work p r status
ran_out work p q r status g h = record {
  trace = g.trace ++ h.trace;
  grew = grew_more p q r g.trace h.trace g.grew h.grew;
  holds = out_of_memory (record { first = g.trace; rest = h.trace; between = Memory; splits = refl; does = (g.holds, refl); goes = h.holds });
}

-- a run is finished
pub ran : {outs : List Out} (E : Type 0) (work : Step Status) (p q r : HostState) (answer : Result Status E) (status : Status) → DidIn outs work p q (answered answer) → Finishes answer q r status → RanIn outs work p r status
ran {outs = outs} E work p q r (Ok answer) status g f = subst (λ s. RanIn outs work p s status) (sym f.1) (subst (λ s. RanIn outs work p q s) (sym f.0) (ran_done work p q answer g))
ran E work p q r (Err e) status g f = ran_out work p q r status g f
