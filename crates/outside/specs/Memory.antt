-- What a host in memory stands for. This project's own.
use Rattle.std.specs.Prelude.{ℕ, List, [], ◌∷◌, ◌++◌, Option, Some, None, IfSome}
use Rattle.tl_base.specs.MemoryHost.{host_view, host_script, host_counts}
use Rattle.tl_base.specs.MemoryShown.{nothing_shown}
use Rattle.tl_base.specs.Kinds.{no_faults}
use Rattle.tl_base.specs.Scripts.{no_script}
use Rattle.tl_base.specs.declared.counts.Counts.{Counts}
use Rattle.tl_base.specs.declared.mem_host.MemHost.{MemHost}
use Rattle.tl_base.specs.declared.mem_script.HostCall.{HostCall}
use Rattle.outside.specs.Events.{Event, Outside, Past, HostState}
use Rattle.outside.specs.Fits.{Fits}
use Rattle.outside.specs.Logs.{fresh}

-- an outside in memory
abbrev pub outside_of : MemHost → Outside
outside_of h = record { view = host_view h; script = host_script h }

-- what it began with, how it stands, what has happened where it tells that, and how often its calls have failed
pub record MemView : Type 0 where
  pub began : Outside
  pub stands : Outside
  pub events : Option (List Event)
  pub counts : Counts

-- a host that began as one in memory stands as another now does
abbrev pub seen : MemHost → MemHost → Option (List Event) → MemView
seen began shown events = record { began = outside_of began; stands = outside_of shown; events = events; counts = host_counts shown }

abbrev pub past_of : Outside → Option (List Event) → Option Past
past_of began None = None
past_of began (Some events) = Some (record { began = began; events = events })

abbrev pub host_state : MemView → HostState
host_state m = record { past = past_of m.began m.events; counts = m.counts }

-- what is told leads from what it began with to how it stands
abbrev pub Agrees : MemView → Type 0
Agrees m = IfSome m.events (λ t. Fits t m.began m.stands)

-- ---- before a run

-- no file, no link and no moment, and so much room
abbrev pub empty : ℕ → Outside
empty room = record { view = nothing_shown room; script = no_script }

-- it begins so
abbrev pub beginning : Outside → MemView
beginning s = record { began = s; stands = s; events = Some []; counts = no_faults }

-- what it began with and how it stands are changed alike; something that has happened isn't told any more
abbrev pub changed : (Outside → Outside) → MemView → MemView
changed f m = record m { began = f m.began; stands = f m.stands; events = fresh m.events }

abbrev pub with_file : List ℕ → List ℕ → Outside → Outside
with_file name bytes s = record s { view = record s.view { files = s.view.files ++ (name, bytes) ∷ [] } }

abbrev pub with_link : List ℕ → Outside → Outside
with_link bytes s = record s { view = record s.view { links = s.view.links ++ bytes ∷ [] } }

abbrev pub with_moment : ℕ → Outside → Outside
with_moment now s = record s { view = record s.view { moments = s.view.moments ++ now ∷ [] } }

abbrev pub with_cut : ℕ → Outside → Outside
with_cut most s = record s { script = record s.script { cuts = s.script.cuts ++ most ∷ [] } }

abbrev pub with_failure : HostCall → ℕ → Outside → Outside
with_failure call number s = record s { script = record s.script { fails = s.script.fails ++ record { call = call; number = number } ∷ [] } }
