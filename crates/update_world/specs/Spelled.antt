-- The messages of a world as the bytes of a profile. This project's own.
use Rattle.std.specs.Prelude.{◌≡◌, ℕ, List, [], ◌∷◌}
use Rattle.box_events.specs.declared.replies.Frame.TheVariants.{Push, Reply}
use Rattle.wire_profile.specs.Indexes.{ProfileView}
use Rattle.wire_values.specs.Calls.{call_tree}
use Rattle.wire_values.specs.Frames.{frame_tree}
use Rattle.box_wire.specs.Kinds.{calls, frames}
use Rattle.box_wire.specs.Framing.{Framed}
use Rattle.box_world.specs.Worlds.{Packet, push, request, reply}
use Rattle.box_world.specs.Sizes.{frame_size, call_size}
use Rattle.box_world.specs.Fitting.{FrameFits, CallFits}
use Rattle.update_world.specs.declared.sent.SentPacket.{SentPacket}
use Rattle.update_world.specs.declared.sent.End.TheVariants.{Clients, Server, Client}

-- these bytes are the message's
abbrev pub IsSpelled : ProfileView → Packet → List ℕ → Type 0
IsSpelled p (push q) bytes = Framed p frames (frame_tree (Push q)) bytes
IsSpelled p (request k n) bytes = Framed p calls (call_tree n) bytes
IsSpelled p (reply k n r s) bytes = Framed p frames (frame_tree (Reply n r)) bytes

-- how many bytes they are, by whatever profile
abbrev pub packet_size : Packet → ℕ
packet_size (push q) = frame_size (Push q)
packet_size (request k n) = call_size n
packet_size (reply k n r s) = frame_size (Reply n r)

-- the message is read from its bytes as it was spelled
abbrev pub IsRead : Packet → Type 0
IsRead (push q) = FrameFits (Push q)
IsRead (request k n) = CallFits n
IsRead (reply k n r s) = FrameFits (Reply n r)

-- a push goes to all clients, the request of a client to the server, a reply to the client that asked
abbrev pub IsFor : Packet → SentPacket → Type 0
IsFor (push q) s = s.to ≡ Clients
IsFor (request k n) s = s.to ≡ Server k
IsFor (reply k n r m) s = s.to ≡ Client k

-- a packet is the message: it goes to the same end, its bytes spell the message, and are read as it
pub record IsSent (p : ProfileView) (s : SentPacket) (m : Packet) : Type 0 where
  pub to : IsFor m s
  pub bytes : IsSpelled p m s.bytes
  pub read : IsRead m

-- packets are messages, one by one
abbrev pub AreSent : ProfileView → List SentPacket → List Packet → Type 0
AreSent p [] [] = Unit {0}
AreSent p (s ∷ ss) (m ∷ ms) = IsSent p s m × AreSent p ss ms
AreSent p [] (m ∷ ms) = ⊥
AreSent p (s ∷ ss) [] = ⊥
