-- What a step's function has to show where it ends: that the step happens, or why not.
use Rattle.std.proofs.Common.{◌≡◌, ℕ, ◌<◌, ◌≤◌, List, ◌++◌, length, Some, Ok, Err, refl, sym, ap, ◌∙◌, subst}
use Rattle.box_events.specs.declared.steps.Step.{Step}
use Rattle.wire_profile.specs.Indexes.{ProfileView}
use Rattle.wire_profile.specs.Profiles.{IsProfile}
use Rattle.box_world.specs.Worlds.{World, happens}
use Rattle.box_world.specs.declared.fault.StepFault.TheVariants.{NoClient, NoPacket, PoolFull, WrongEnd}
use Rattle.box_world.specs.Possible.{bytes_in, client_of}
use Rattle.box_world.specs.declared.fault.StepFault.{StepFault}
use Rattle.tl_base.specs.declared.fault.Fault.{Fault}
use Rattle.box_world.specs.declared.fault.StepFault.TheVariants.{NoClient, NoPacket, WrongEnd, PoolFull}
use Rattle.tl_base.specs.declared.fault.Fault.TheVariants.{Refused, Memory}
use Rattle.update_world.specs.declared.limits.TheConstants.{MAX_POOL_BYTES}
use Rattle.update_world.specs.declared.outcome.Outcome.{Outcome}
use Rattle.update_world.specs.declared.parts.WorldParts.{WorldParts}
use Rattle.update_world.specs.declared.sent.SentPacket.{SentPacket}
use Rattle.update_world.specs.Outcomes.{outcome_of}
use Rattle.update_world.specs.Shown.{StandsFor, bytes_of}
use Rattle.update_world.specs.Spelled.{AreSent, packet_size}
use Rattle.update_world.specs.Stepping.{Happens}
use Rattle.update_world.specs.inner.Making.{shown_after, shown_by}
use Rattle.update_world.specs.inner.Pools.{Sends}
use Rattle.update_world.proofs.Refusals.{Reaches, far_client, possible, too_full}
use Rattle.update_world.proofs.SentLists.{sent_bytes}

-- it happens
pub done : (p : ProfileView) → IsProfile p → (a b : WorldParts) (s : Step) (w : World) (o : Outcome) → Reaches w s → o ≡ outcome_of w s → StandsFor (shown_by p b) (happens w s) → bytes_of b.pool ≤ MAX_POOL_BYTES
    → Happens (shown_by p a) s w (Ok o) (shown_after p b (Ok o))
done p is a b s w o r same st most =
    let few : bytes_in packet_size (happens w s).pool ≤ MAX_POOL_BYTES = subst (λ (n : ℕ). n ≤ MAX_POOL_BYTES) (sent_bytes p is b.pool (happens w s).pool st.pool) most in
    (possible packet_size w s r few, same, record { server = st.server; clients = st.clients; pool = st.pool }, refl)

-- the client isn't there
pub no_such_client : (p : ProfileView) (a : WorldParts) (s : Step) (w : World) (k : ℕ) → StandsFor (shown_by p a) w → client_of s ≡ Some k → length a.clients.items ≤ k
    → Happens (shown_by p a) s w (Err (Refused (NoClient k))) (shown_after p a (Err (Refused (NoClient k))))
no_such_client p a s w k st is le = (far_client packet_size w s k is (subst (λ (n : ℕ). n ≤ k) (sym (ap length st.clients)) le), refl)

-- the pool would be too full
pub overfilled : (p : ProfileView) → IsProfile p → (a b : WorldParts) (s : Step) (w : World) (n : ℕ) (ss : List SentPacket) → Reaches w s → AreSent p ss (happens w s).pool → n ≡ bytes_of ss → MAX_POOL_BYTES < n
    → Happens (shown_by p a) s w (Err (Refused (PoolFull n))) (shown_after p b (Err (Refused (PoolFull n))))
overfilled p is a b s w n ss r sent sum lt =
    let same : n ≡ bytes_in packet_size (happens w s).pool = sum ∙ sent_bytes p is ss (happens w s).pool sent in
    (too_full packet_size w s r (subst (λ (m : ℕ). MAX_POOL_BYTES < m) same lt) ∙ ap (λ (m : ℕ). Some (PoolFull m)) (sym same), refl)

-- packets of a step that reaches them are not sent
pub unsent : (p : ProfileView) → IsProfile p → (a b : WorldParts) (s : Step) (w : World) (old more new : List SentPacket) (e : Fault StepFault) → Reaches w s → AreSent p (old ++ more) (happens w s).pool → Sends old more (Err e) new
    → Happens (shown_by p a) s w (Err e) (shown_after p b (Err e))
unsent p is a b s w old more new (Refused (NoClient n)) r sent sends = absurd sends
unsent p is a b s w old more new (Refused (NoPacket n)) r sent sends = absurd sends
unsent p is a b s w old more new (Refused (WrongEnd n)) r sent sends = absurd sends
unsent p is a b s w old more new (Refused (PoolFull n)) r sent sends = overfilled p is a b s w n (old ++ more) r sent sends.0 sends.1
unsent p is a b s w old more new Memory r sent sends = refl
