-- What the real host tells: the calls that it noted, how many failed, and how State ended. This project's own.
use Rattle.std.specs.Prelude.{List, [], Some}
use Rattle.tl_base.specs.declared.counts.Counts.{Counts}
use Rattle.tl_base.specs.Kinds.{no_faults}
use Rattle.outside.specs.Events.{Event, HostState}
use Rattle.outside.specs.Memory.{empty}
use Rattle.real_host.specs.declared.real.RealHost.{RealHost}
use Rattle.real_host.specs.declared.state_end.StateEnd.{StateEnd}

-- these calls were noted, and so many failed; what it began with isn't told, so that nothing stands for it
abbrev pub after : List Event → Counts → HostState
after events counts = record { past = Some (record { began = empty 0; events = events }); counts = counts }

abbrev pub seen : RealHost → HostState
seen h = after h.log.events h.counts

-- what became of State, as often as that was asked
abbrev pub ends_of : RealHost → List StateEnd
ends_of h = h.log.ends

-- no call was made
abbrev pub fresh : HostState
fresh = after [] no_faults
