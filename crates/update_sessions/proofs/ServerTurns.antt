-- What a server makes of one packet.
use Rattle.std.proofs.Common.{ℕ, ◌≤◌, List, ◌++◌, length, Option, Ok, subst}
use Rattle.box_events.specs.declared.replies.Frame.{Frame}
use Rattle.box_events.specs.declared.requests.Numbered.{Numbered}
use Rattle.box_server.specs.Servers.{ServerState}
use Rattle.box_server.specs.declared.entry.Entry.{Entry}
use Rattle.box_server.specs.Keeping.{KeeperState, Keeps}
use Rattle.box_server.proofs.Added.{keeps_as}
use Rattle.wire_profile.specs.Indexes.{ProfileView}
use Rattle.update_sessions.specs.declared.answering.CallAnswer.{CallAnswer}
use Rattle.update_sessions.specs.Kept.{kept_for}
use Rattle.update_sessions.specs.Packed.{MeansCall, Packed, SpellsFrame}
use Rattle.update_sessions.specs.Turns.{AnswersPacket}
use Rattle.update_sessions.specs.inner.StoreSteps.{Took, frames_in}

module _ (p : ProfileView) (s : ServerState) (bytes out : List ℕ) (e0 e1 : Option (List Entry)) where
  -- a call is taken, and then
  module _ (call : Numbered) (means : MeansCall p call bytes) (t : ServerState) (x : CallAnswer) (took : Took s call.number call.request e0 e1 t x) where
    -- all that is sent for it is there
    pub turn_answered : Packed (SpellsFrame p) (frames_in x) out → AnswersPacket p s bytes out e0 e1 t (Ok tt)
    turn_answered packed = (
      record { message = call; means = means; taken = tt; sent = subst (λ (fs : List Frame). Packed (SpellsFrame p) fs out) took.sends.frames packed; ends = took.server },
      took.appended,
    )

-- there is room for what the call adds that the bytes mean
pub turn_keeps : (p : ProfileView) (s : ServerState) (bytes : List ℕ) (a b : KeeperState) (F G : Type 0) (call : Numbered) → MeansCall p call bytes → (G → F) → Keeps a b F (λ es. length (es ++ kept_for s call.request) ≤ a.room)
    → Keeps a b G (λ es. (m : Numbered) → MeansCall p m bytes → length (es ++ kept_for s m.request) ≤ a.room)
turn_keeps p s bytes a b F G call means f k =
    keeps_as a b F G (λ es. length (es ++ kept_for s call.request) ≤ a.room) (λ es. (m : Numbered) → MeansCall p m bytes → length (es ++ kept_for s m.request) ≤ a.room) (λ es fits. fits call means) f k
