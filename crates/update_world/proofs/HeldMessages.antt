-- A packet of a pool that stands for messages carries one.
use Rattle.std.proofs.Common.{◌≡◌, ℕ, List, true, Some, sym, ap, ◌∙◌}
use Rattle.std.specs.Prelude.{slice_get}
use Rattle.box_events.specs.declared.replies.Frame.TheVariants.{Push, Reply}
use Rattle.wire_profile.specs.Indexes.{ProfileView}
use Rattle.box_world.specs.Worlds.{Packet, push, request, reply}
use Rattle.update_world.specs.declared.sent.SentPacket.{SentPacket}
use Rattle.update_world.specs.declared.sent.End.TheVariants.{Server}
use Rattle.update_world.specs.Spelled.{IsSent}
use Rattle.update_world.specs.inner.Reading.{HasCall, HasFrame, StandFor, hears}
use Rattle.update_world.proofs.SentLists.{sent_get}

frame_in : (p : ProfileView) (s : SentPacket) (x : Packet) (k : ℕ) → hears k s.to ≡ true → IsSent p s x → HasFrame p s.bytes
frame_in p s (push q) k to is = (Push q, record { fits = is.read; spelled = is.bytes })
frame_in p s (request j n) k to is = let no = sym (ap (hears k) is.to) ∙ to in cc
frame_in p s (reply j n r t) k to is = (Reply n r, record { fits = is.read; spelled = is.bytes })

-- where a client hears it a frame
pub has_frame : (p : ProfileView) (pool : List SentPacket) (k m : ℕ) (s : SentPacket) → StandFor p pool → slice_get pool m ≡ Some s → hears k s.to ≡ true → HasFrame p s.bytes
has_frame p pool k m s h at to = let g = sent_get p pool h.0 h.1 m s at in frame_in p s g.0 k to g.2

call_in : (p : ProfileView) (s : SentPacket) (x : Packet) (k : ℕ) → s.to ≡ Server k → IsSent p s x → HasCall p s.bytes
call_in p s (push q) k to is = let no = sym is.to ∙ to in cc
call_in p s (request j n) k to is = (n, record { fits = is.read; spelled = is.bytes })
call_in p s (reply j n r t) k to is = let no = sym is.to ∙ to in cc

-- where it goes to the server a call
pub has_call : (p : ProfileView) (pool : List SentPacket) (m k : ℕ) (s : SentPacket) → StandFor p pool → slice_get pool m ≡ Some s → s.to ≡ Server k → HasCall p s.bytes
has_call p pool m k s h at to = let g = sent_get p pool h.0 h.1 m s at in call_in p s g.0 k to g.2
