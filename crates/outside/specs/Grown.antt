-- That the past of a host grew by a trace. This project's own.
use Rattle.std.specs.Prelude.{◌≡◌, List, ◌++◌, Option, Some, None}
use Rattle.outside.specs.Events.{Event, Past, HostState, counted_all}

-- The events are appended. A host that tells nothing goes on so; one that tells may stop to.
abbrev pub PastGrew : Option Past → List Event → Option Past → Type 0
PastGrew None t None = Unit {0}
PastGrew None t (Some q) = ⊥
PastGrew (Some p) t None = Unit {0}
PastGrew (Some p) t (Some q) = q ≡ record p { events = p.events ++ t }

-- and each failure is counted
pub record Grew (old : HostState) (t : List Event) (new : HostState) : Type 0 where
  pub past : PastGrew old.past t new.past
  pub counts : new.counts ≡ counted_all t old.counts
