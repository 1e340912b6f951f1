-- What holds of every world that steps lead to. This project's own.
use Rattle.std.specs.Prelude.{◌≡◌, ℕ, List, Some, slice_get}
use Rattle.box_events.specs.declared.requests.Request.{Request}
use Rattle.box_server.specs.Servers.{ServerState}
use Rattle.box_server.specs.Answers.{answer}
use Rattle.box_client.specs.States.{ClientState}
use Rattle.box_world.specs.Worlds.{Packet, push, request, reply, World}
use Rattle.box_world.specs.WholeBoxes.{whole_box}
use Rattle.box_world.specs.Agreeing.{Boxes, Agrees}
use Rattle.box_world.specs.Growing.{Continues, IsLedger}
use Rattle.box_world.specs.Pushing.{PushLies}
use Rattle.box_world.specs.Requesting.{RequestFits}
use Rattle.box_world.specs.Awaiting.{Asked, Awaits, Below}

-- the client of this number, if it is there, awaits the answer, where it still asks
abbrev pub ClientAwaits : List ClientState → ℕ → ℕ → Asked → Type 0
ClientAwaits cs k n a = (c : ClientState) → slice_get cs k ≡ Some c → Awaits n a c

-- a request that was sent: its positions are boundaries
pub record WasSent (s : ServerState) (boxes : Boxes) (cs : List ClientState) (k n : ℕ) (r : Request) : Type 0 where
  pub seq : ℕ
  pub fits : RequestFits s boxes r seq
  pub awaits : ClientAwaits cs k n (record { request = r; seq = seq })

-- a reply that was sent: the answer, by the server of its moment, to a request that was sent
pub record WasAnswered (s : ServerState) (boxes : Boxes) (cs : List ClientState) (k n : ℕ) (m : ServerState) (r : Request) : Type 0 where
  pub whole : Boxes
  pub ledger : IsLedger m whole
  pub continues : Continues m s whole boxes
  pub seq : ℕ
  pub fits : RequestFits m whole r seq
  pub awaits : ClientAwaits cs k n (record { request = r; seq = seq })

abbrev pub PacketFits : ServerState → Boxes → List ClientState → Packet → Type 0
PacketFits s boxes cs (push p) = PushLies s boxes p
PacketFits s boxes cs (request k n) = WasSent s boxes cs k n.number n.request
PacketFits s boxes cs (reply k n v m) = (r : Request) × (v ≡ answer m r) × WasAnswered s boxes cs k n m r

abbrev pub boxes_of : World → Boxes
boxes_of w = whole_box w.pool

pub record IsGood (w : World) : Type 0 where
  pub ledger : IsLedger w.server (boxes_of w)
  pub agrees : (k : ℕ) (c : ClientState) → slice_get w.clients k ≡ Some c → Agrees w.server (boxes_of w) c
  pub below : (k : ℕ) (c : ClientState) → slice_get w.clients k ≡ Some c → Below c
  pub pool : (m : ℕ) (p : Packet) → slice_get w.pool m ≡ Some p → PacketFits w.server (boxes_of w) w.clients p
