-- Steps that send a frame, or the requests of a client.
use Rattle.std.proofs.Common.{◌≡◌, inl, inr, ℕ, ◌≤◌, List, [], ◌∷◌, ◌++◌, length, Result, Ok, Err, refl, sym, ◌∙◌, subst}
use Rattle.box_events.specs.declared.replies.Frame.{Frame}
use Rattle.box_events.specs.declared.steps.Step.{Step}
use Rattle.wire_profile.specs.Indexes.{ProfileView}
use Rattle.wire_profile.specs.Profiles.{IsProfile}
use Rattle.wire_values.specs.Frames.{frame_tree}
use Rattle.box_wire.specs.Framing.{Framed}
use Rattle.box_wire.specs.Kinds.{frames}
use Rattle.box_world.specs.Worlds.{Packet, World, happens}
use Rattle.box_world.specs.declared.fault.StepFault.{StepFault}
use Rattle.tl_base.specs.declared.fault.Fault.{Fault}
use Rattle.tl_base.specs.declared.fault.Fault.TheVariants.{Memory}
use Rattle.update_world.specs.declared.limits.TheConstants.{MAX_POOL_BYTES}
use Rattle.update_world.specs.declared.outcome.Outcome.{Outcome}
use Rattle.update_world.specs.declared.parts.WorldParts.{WorldParts}
use Rattle.update_world.specs.declared.sent.SentPacket.{SentPacket}
use Rattle.update_world.specs.declared.sent.End.{End}
use Rattle.update_world.specs.Outcomes.{outcome_of}
use Rattle.update_world.specs.Shown.{StandsFor, bytes_of}
use Rattle.update_world.specs.Spelled.{AreSent, IsFor, IsRead, IsSpelled}
use Rattle.update_world.specs.Stepping.{Happens}
use Rattle.update_world.specs.inner.Making.{shown_after, shown_by}
use Rattle.update_world.specs.inner.Sending.{SendsFrame}
use Rattle.update_world.proofs.Exits.{done, unsent}
use Rattle.update_world.proofs.Refusals.{Reaches}
use Rattle.update_world.proofs.SentLists.{sent_length, sent_push}

-- a packet with a frame's bytes that goes to an end is the message
pub record IsFrameOf (f : Frame) (to : End) (m : Packet) : Type 0 where
  pub ends : (b : List ℕ) → IsFor m (record { bytes = b; to = to })
  pub spelled : (p : ProfileView) (b : List ℕ) → Framed p frames (frame_tree f) b → IsSpelled p m b
  pub read : IsRead m

-- a step reaches the message, and sends it after the others
pub record Brings (w : World) (s : Step) (f : Frame) (to : End) (m : Packet) : Type 0 where
  pub reaches : Reaches w s
  pub frame : IsFrameOf f to m
  pub pool : (happens w s).pool ≡ w.pool ++ m ∷ []

memory_is : (e : Fault StepFault) → ◌≡◌ {A = Result ℕ (Fault StepFault)} (Err e) (Err Memory) → e ≡ Memory
memory_is e q = cc

-- what is sent is the message
one_more : (p : ProfileView) (w : World) (s : Step) (f : Frame) (to : End) (m : Packet) (old : List SentPacket) (b : List ℕ) → AreSent p old w.pool → Brings w s f to m → Framed p frames (frame_tree f) b
    → AreSent p (old ++ record { bytes = b; to = to } ∷ []) (happens w s).pool
one_more p w s f to m old b sent br framed =
    subst (λ (ms : List Packet). AreSent p (old ++ record { bytes = b; to = to } ∷ []) ms) (sym br.pool)
    (sent_push p old (record { bytes = b; to = to }) w.pool m sent (record { to = br.frame.ends b; bytes = br.frame.spelled p b framed; read = br.frame.read }))

-- the frame isn't sent
pub frame_unsent : (p : ProfileView) → IsProfile p → (a b : WorldParts) (s : Step) (w : World) (f : Frame) (to : End) (m : Packet) (new : List SentPacket) (e : Fault StepFault) → StandsFor (shown_by p a) w → Brings w s f to m
    → SendsFrame p f to a.pool (Err e) new → Happens (shown_by p a) s w (Err e) (shown_after p b (Err e))
frame_unsent p is a b s w f to m new e st br (inl q) = subst (λ (x : Fault StepFault). Happens (shown_by p a) s w (Err x) (shown_after p b (Err x))) (sym (memory_is e q)) refl
frame_unsent p is a b s w f to m new e st br (inr h) =
    unsent p is a b s w a.pool (record { bytes = h.0; to = to } ∷ []) new e br.reaches (one_more p w s f to m a.pool h.0 st.pool br h.1) h.2

-- the frame is sent
no_memory : (n : ℕ) → ◌≡◌ {A = Result ℕ (Fault StepFault)} (Ok n) (Err Memory) → ⊥
no_memory n q = cc

pub record IsFrameSent (p : ProfileView) (a : WorldParts) (w : World) (s : Step) (n : ℕ) (new : List SentPacket) : Type 0 where
  pub number : n ≡ length w.pool
  pub pool : AreSent p new (happens w s).pool
  pub most : bytes_of new ≤ MAX_POOL_BYTES

pub frame_sent : (p : ProfileView) (a : WorldParts) (s : Step) (w : World) (f : Frame) (to : End) (m : Packet) (new : List SentPacket) (n : ℕ) → StandsFor (shown_by p a) w → Brings w s f to m
    → SendsFrame p f to a.pool (Ok n) new → IsFrameSent p a w s n new
frame_sent p a s w f to m new n st br (inl q) = absurd (no_memory n q)
frame_sent p a s w f to m new n st br (inr h) = record {
  number = h.2.0 ∙ sent_length p a.pool w.pool st.pool;
  pool = subst (λ (ss : List SentPacket). AreSent p ss (happens w s).pool) (sym h.2.1) (one_more p w s f to m a.pool h.0 st.pool br h.1);
  most = h.2.2;
}

-- where the server and the clients are those of the step's world, it happens
pub frame_done : (p : ProfileView) → IsProfile p → (a b : WorldParts) (s : Step) (w : World) (f : Frame) (to : End) (m : Packet) (n : ℕ) (o : Outcome) → StandsFor (shown_by p a) w → Brings w s f to m
    → SendsFrame p f to a.pool (Ok n) b.pool → (happens w s).server ≡ b.server → (happens w s).clients ≡ b.clients.items → (n ≡ length w.pool → o ≡ outcome_of w s)
    → Happens (shown_by p a) s w (Ok o) (shown_after p b (Ok o))
frame_done p is a b s w f to m n o st br sends server clients same =
    let sent = frame_sent p a s w f to m b.pool n st br sends in
    done p is a b s w o br.reaches (same sent.number) (record { server = server; clients = clients; pool = sent.pool }) sent.most
