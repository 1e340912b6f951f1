-- What clauses see of a world whose packets are bytes, and which worlds it stands for. This project's own.
use Rattle.std.specs.Prelude.{◌≡◌, ℕ, ◌+◌, List, [], ◌∷◌, length, Option}
use Rattle.box_events.specs.declared.steps.Step.{Step}
use Rattle.box_server.specs.Servers.{ServerState}
use Rattle.box_client.specs.States.{ClientState}
use Rattle.wire_profile.specs.Indexes.{ProfileView}
use Rattle.box_world.specs.Worlds.{World, start, run}
use Rattle.box_world.specs.Possible.{AllPossible}
use Rattle.box_world.specs.declared.fault.StepFault.{StepFault}
use Rattle.tl_base.specs.declared.fault.Fault.{Fault}
use Rattle.update_world.specs.declared.sent.SentPacket.{SentPacket}
use Rattle.update_world.specs.Spelled.{AreSent, packet_size}

-- the profile, the server, the clients, the pool, and the refusal that spoiled it
pub record Shown : Type 0 where
  pub profile : ProfileView
  pub server : ServerState
  pub clients : List ClientState
  pub pool : List SentPacket
  pub spoiled : Option (Fault StepFault)

abbrev pub bytes_of : List SentPacket → ℕ
bytes_of [] = 0
bytes_of (s ∷ ss) = length s.bytes + bytes_of ss

-- The same server, the same clients, and packets that are the messages. With which server a reply was made stands in no byte, so it is free.
pub record StandsFor (s : Shown) (w : World) : Type 0 where
  pub server : w.server ≡ s.server
  pub clients : w.clients ≡ s.clients
  pub pool : AreSent s.profile s.pool w.pool

-- it stands for the run of some steps, each possible where it came
pub record IsOfRun (s : Shown) : Type 0 where
  pub steps : List Step
  pub possible : AllPossible packet_size (start (length s.clients)) steps
  pub stands : StandsFor s (run (length s.clients) steps)
