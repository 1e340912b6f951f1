-- A session of a server over a link: what it reads and writes, and how it ends. This project's own.
use Rattle.std.specs.Prelude.{◌≡◌, ℕ, ◌<◌, List, [], length, Result, Ok, Err}
use Rattle.box_events.specs.declared.requests.Numbered.{Numbered}
use Rattle.box_server.specs.Servers.{ServerState}
use Rattle.wire_profile.specs.Indexes.{ProfileView}
use Rattle.box_wire.specs.Kinds.{calls}
use Rattle.box_wire.specs.Framing.{WireRefused}
use Rattle.update_sessions.specs.declared.fault.SessionFault.{SessionFault}
use Rattle.update_sessions.specs.declared.fault.SessionFault.TheVariants.{Packet, Wire, Client, TooManyFrames, LinkFault}
use Rattle.update_sessions.specs.declared.fault.TheConstants.{MAX_FRAMES}
use Rattle.update_sessions.specs.Packed.{NoPacket}
use Rattle.update_sessions.specs.Exchanges.{Exchanged, Broken}
use Rattle.update_sessions.specs.Receiving.{RefusedPacket}
use Rattle.update_sessions.specs.Serving.{server_side}

-- What a server, whose date was set, does over a link that gives these bytes: the calls that it took, what was written, and the server after that.
-- A refused packet changes nothing.
abbrev pub Serves : ProfileView → ServerState → List ℕ → List ℕ → ServerState → Result ℕ SessionFault → List Numbered → Type 0
Serves p s bytes out t (Ok n) cs = Exchanged (server_side p) s bytes [] out t cs × (n ≡ length cs) × (n < MAX_FRAMES)
Serves p s bytes out t (Err (Packet fault)) cs = (left : List ℕ) × Exchanged (server_side p) s bytes left out t cs × (length cs < MAX_FRAMES) × NoPacket left fault
Serves p s bytes out t (Err (Wire fault)) cs = (left : List ℕ) × Exchanged (server_side p) s bytes left out t cs × (length cs < MAX_FRAMES) × RefusedPacket (WireRefused p calls) left fault
Serves p s bytes out t (Err (Client fault)) cs = ⊥
Serves p s bytes out t (Err TooManyFrames) cs = (left : List ℕ) × Exchanged (server_side p) s bytes left out t cs × (length cs ≡ MAX_FRAMES)
Serves p s bytes out t (Err LinkFault) cs = Broken (server_side p) s bytes out t cs
