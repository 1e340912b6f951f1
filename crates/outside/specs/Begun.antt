-- What was done where memory ran out: the beginning of a step, in which nothing was written but to some outs. This project's own.
use Rattle.std.specs.Prelude.{◌≡◌, ◌⊎◌, List, [], ◌∷◌, ◌++◌, Option, Some, None}
use Rattle.tl_base.specs.declared.host.Out.{Out}
use Rattle.tl_base.specs.declared.host.Out.TheVariants.{Output, Link}
use Rattle.outside.specs.Events.{Event, HostState, opened, took, ended, read_failed, created, put, write_failed, listened, connected, accepted, told}
use Rattle.outside.specs.Grown.{Grew}
use Rattle.outside.specs.Steps.{Step}
use Rattle.outside.specs.Traces.{Throughout}

-- one of these
abbrev pub IsAmong : Out → List Out → Type 0
IsAmong out [] = ⊥
IsAmong out (o ∷ outs) = (out ≡ o) ⊎ IsAmong out outs

-- Output, to which lines are written as they are made
abbrev pub to_output : List Out
to_output = Output ∷ []

-- a link, over which messages are sent as they are due
abbrev pub to_link : List Out
to_link = Link ∷ []

-- nothing is created, and nothing written, but of these outs
abbrev pub WritesOnly : List Out → Event → Type 0
WritesOnly outs (opened slot name ok) = Unit {0}
WritesOnly outs (took slot bytes) = Unit {0}
WritesOnly outs (ended slot) = Unit {0}
WritesOnly outs (read_failed slot) = Unit {0}
WritesOnly outs (created out name ok) = IsAmong out outs
WritesOnly outs (put out bytes) = IsAmong out outs
WritesOnly outs (write_failed out) = IsAmong out outs
WritesOnly outs (listened address ok) = Unit {0}
WritesOnly outs (connected address ok) = Unit {0}
WritesOnly outs (accepted ok) = Unit {0}
WritesOnly outs (told moment) = Unit {0}

-- these events are the beginning of what a step can be, and nothing is written there but to these outs
pub record BeginsIn {A : Type 0} (outs : List Out) (S : Step A) (t : List Event) : Type 0 where
  pub rest : List Event
  pub answer : A
  pub whole : S (t ++ rest) answer
  pub only : Throughout (WritesOnly outs) t

-- the step with this answer; or, where memory ran out, the beginning of one
abbrev pub MeetsIn : {A : Type 0} → List Out → Step A → List Event → Option A → Type 0
MeetsIn outs S t (Some a) = S t a
MeetsIn outs S t None = BeginsIn outs S t

-- A call did the step and answered so. None: it ran out of memory in the middle of one.
pub record DidIn {A : Type 0} (outs : List Out) (S : Step A) (old new : HostState) (answer : Option A) : Type 0 where
  pub trace : List Event
  pub grew : Grew old trace new
  pub holds : MeetsIn outs S trace answer

-- likewise, with nothing written where memory ran out
abbrev pub Did : {A : Type 0} → Step A → HostState → HostState → Option A → Type 0
Did = DidIn []
