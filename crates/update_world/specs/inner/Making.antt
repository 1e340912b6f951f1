-- Steps over a world's parts. This project's own.
use Rattle.std.specs.Prelude.{◌≤◌, Option, Some, None, Result, Ok, Err}
use Rattle.box_events.specs.declared.steps.Step.{Step}
use Rattle.box_server.specs.Sound.{IsSound}
use Rattle.wire_profile.specs.Indexes.{ProfileView}
use Rattle.wire_profile.specs.Profiles.{IsProfile}
use Rattle.box_world.specs.Worlds.{World}
use Rattle.box_world.specs.declared.fault.StepFault.{StepFault}
use Rattle.tl_base.specs.declared.fault.Fault.{Fault}
use Rattle.box_world.specs.declared.fault.StepFault.TheVariants.{NoClient, NoPacket, WrongEnd, PoolFull}
use Rattle.tl_base.specs.declared.fault.Fault.TheVariants.{Refused, Memory}
use Rattle.update_world.specs.declared.limits.TheConstants.{MAX_POOL_BYTES}
use Rattle.update_world.specs.declared.outcome.Outcome.{Outcome}
use Rattle.update_world.specs.declared.parts.WorldParts.{WorldParts}
use Rattle.update_world.specs.Shown.{Shown, StandsFor, IsOfRun, bytes_of}
use Rattle.update_world.specs.Stepping.{Happens}

-- what clauses see of a world of these parts that isn't spoiled
abbrev pub shown_by : ProfileView → WorldParts → Shown
shown_by p a = record { profile = p; server = a.server; clients = a.clients.items; pool = a.pool; spoiled = None }

-- what holds of a world that isn't spoiled: every law over runs holds of it
pub record IsSteady (s : Shown) : Type 0 where
  pub run : IsOfRun s
  pub profile : IsProfile s.profile
  pub sound : IsSound s.server
  pub most : bytes_of s.pool ≤ MAX_POOL_BYTES

-- what an answer spoils a world by
abbrev pub spoil_of : Result Outcome (Fault StepFault) → Option (Fault StepFault)
spoil_of (Ok outcome) = None
spoil_of (Err (Refused (NoClient n))) = None
spoil_of (Err (Refused (NoPacket n))) = None
spoil_of (Err (Refused (WrongEnd n))) = None
spoil_of (Err (Refused (PoolFull bytes))) = Some (Refused (PoolFull bytes))
spoil_of (Err Memory) = Some Memory

abbrev pub shown_after : ProfileView → WorldParts → Result Outcome (Fault StepFault) → Shown
shown_after p a result = record (shown_by p a) { spoiled = spoil_of result }

-- parts become others by a step, in each world that they stand for
abbrev pub Makes : ProfileView → Step → WorldParts → Result Outcome (Fault StepFault) → WorldParts → Type 0
Makes p s a result b = (w : World) → StandsFor (shown_by p a) w → Happens (shown_by p a) s w result (shown_after p b result)
