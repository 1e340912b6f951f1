-- A world stays one that stands for a run of possible steps.
use Rattle.std.proofs.Common.{◌≡◌, ℕ, zero, suc, ◌+◌, ◌≤◌, ℤ, List, [], ◌∷◌, ◌++◌, length, Option, Some, None, Result, Ok, Err, refl, sym, ap, ◌∙◌, subst, arith}
use Rattle.std.specs.Prelude.{slice_get}
use Rattle.std.proofs.lemmas.Option.{none-some}
use Rattle.std.specs.FinMap as finite
use Rattle.box_events.specs.declared.positions.Receipt.{Receipt}
use Rattle.box_events.specs.declared.requests.Post.{Post}
use Rattle.box_events.specs.declared.steps.Step.{Step}
use Rattle.box_events.specs.declared.steps.Step.TheVariants as step
use Rattle.box_server.specs.Refusing.{post_cause}
use Rattle.box_server.specs.Servers.{new_server}
use Rattle.box_server.specs.Sound.{IsSound}
use Rattle.box_server.specs.declared.fault.PostFault.{PostFault}
use Rattle.box_server.proofs.Soundness.{dated_sound, posted_sound}
use Rattle.box_client.specs.Asking.{restarted, wakes}
use Rattle.box_client.specs.States.{ClientState, new_client}
use Rattle.wire_profile.specs.Indexes.{ProfileView}
use Rattle.wire_profile.specs.Profiles.{IsProfile}
use Rattle.box_wire.specs.StepReading.{IsDated}
use Rattle.box_world.specs.Worlds.{Packet, push, request, reply, World, asks, client_steps, happens, heard, new_clients, post_by, run, served, start, watches}
use Rattle.box_world.specs.Possible.{AllPossible}
use Rattle.box_world.proofs.OneMore.{clients_stay, possible_go_on, runs_go_on}
use Rattle.box_world.specs.declared.fault.StepFault.{StepFault}
use Rattle.tl_base.specs.declared.fault.Fault.{Fault}
use Rattle.box_world.specs.declared.fault.StepFault.TheVariants.{NoClient, NoPacket, WrongEnd, PoolFull}
use Rattle.tl_base.specs.declared.fault.Fault.TheVariants.{Refused, Memory}
use Rattle.update_world.specs.declared.limits.TheConstants.{MAX_POOL_BYTES}
use Rattle.update_world.specs.declared.outcome.Outcome.{Outcome}
use Rattle.update_world.specs.declared.parts.WorldParts.{WorldParts}
use Rattle.update_world.specs.declared.sent.SentPacket.{SentPacket}
use Rattle.update_world.specs.Shown.{StandsFor, bytes_of}
use Rattle.update_world.specs.Spelled.{AreSent, packet_size}
use Rattle.update_world.specs.inner.Making.{IsSteady, Makes, shown_by, spoil_of}
use Rattle.update_world.proofs.Refusals.{not_full}
use Rattle.update_world.proofs.SentLists.{sent_bytes}

-- ---- the server stays sound

sound_posted : (w : World) (random_id : ℤ) (ps : List Post) (r : Option Receipt) (cause : Option PostFault) → post_cause w.server ps ≡ cause → IsSound w.server → IsSound (post_by w random_id ps r cause).server
sound_posted w random_id ps (Some r) cause is sound = sound
sound_posted w random_id ps None (Some cause) is sound = sound
sound_posted w random_id ps None None is sound = posted_sound w.server random_id ps sound is

sound_served : (w : World) (o : Option Packet) → IsSound w.server → IsSound (served w o).server
sound_served w None sound = sound
sound_served w (Some (push p)) sound = sound
sound_served w (Some (request k n)) sound = sound
sound_served w (Some (reply k n r s)) sound = sound

sound_heard : (w : World) (k : ℕ) (o : Option ClientState) (p : Option Packet) → IsSound w.server → IsSound (heard w k o p).server
sound_heard w k None p sound = sound
sound_heard w k (Some c) None sound = sound
sound_heard w k (Some c) (Some p) sound = sound

sound_asks : (w : World) (k : ℕ) (o : Option ClientState) → IsSound w.server → IsSound (asks w k o).server
sound_asks w k None sound = sound
sound_asks w k (Some c) sound = sound

sound_steps : (w : World) (k : ℕ) (f : ClientState → ClientState) (o : Option ClientState) → IsSound w.server → IsSound (client_steps w k f o).server
sound_steps w k f None sound = sound
sound_steps w k f (Some c) sound = sound

stays_sound : (w : World) (s : Step) → IsDated s → IsSound w.server → IsSound (happens w s).server
stays_sound w (step.Post random_id ps) dated sound = sound_posted w random_id ps (finite.get w.server.receipts random_id) (post_cause w.server ps) refl sound
stays_sound w (step.Date date) dated sound = dated_sound w.server date sound dated
stays_sound w (step.Serve m) dated sound = sound_served w (slice_get w.pool m) sound
stays_sound w (step.Hear k m) dated sound = sound_heard w k (slice_get w.clients k) (slice_get w.pool m) sound
stays_sound w (step.Tick k) dated sound = sound_asks w k (slice_get w.clients k) sound
stays_sound w (step.Wake k) dated sound = sound_steps w k wakes (slice_get w.clients k) sound
stays_sound w (step.Watch k id) dated sound = sound_steps w k (watches id) (slice_get w.clients k) sound
stays_sound w (step.Restart k) dated sound = sound_steps w k restarted (slice_get w.clients k) sound
stays_sound w step.TooLong dated sound = sound
stays_sound w (step.ChannelTooLong id) dated sound = sound

-- ---- a step that happens leads on

pub goes_on : (p : ProfileView) (a b : WorldParts) (s : Step) (o : Outcome) → IsSteady (shown_by p a) → IsDated s → length b.clients.items ≡ length a.clients.items → Makes p s a (Ok o) b → IsSteady (shown_by p b)
goes_on p a b s o steady dated same made =
    let n : ℕ = length a.clients.items in
    let steps : List Step = steady.run.steps in
    let w : World = run n steps in
    let h = made w steady.run.stands in
    let more : run n (steps ++ s ∷ []) ≡ happens w s = runs_go_on n steps s in
    let now : StandsFor (shown_by p b) (happens w s) = record { server = h.2.server; clients = h.2.clients; pool = h.2.pool } in
    let stands : StandsFor (shown_by p b) (run n (steps ++ s ∷ [])) = subst (StandsFor (shown_by p b)) (sym more) now in
    record {
      run = record {
        steps = steps ++ s ∷ [];
        possible = subst (λ (m : ℕ). AllPossible packet_size (start m) (steps ++ s ∷ [])) (sym same) (possible_go_on packet_size n steps s steady.run.possible h.0);
        stands = subst (λ (m : ℕ). StandsFor (shown_by p b) (run m (steps ++ s ∷ []))) (sym same) stands;
      };
      profile = steady.profile;
      sound = subst IsSound h.2.server (stays_sound w s dated (subst IsSound (sym steady.run.stands.server) steady.sound));
      most = subst (λ (m : ℕ). m ≤ MAX_POOL_BYTES) (sym (sent_bytes p steady.profile b.pool (happens w s).pool h.2.pool)) (not_full packet_size w s h.0);
    }

-- a refused one leaves all as it was
kept_by : (p : ProfileView) (a b : WorldParts) → shown_by p b ≡ shown_by p a → IsSteady (shown_by p a) → IsSteady (shown_by p b)
kept_by p a b same steady = subst IsSteady (sym same) steady

pub stays_steady : (p : ProfileView) (a b : WorldParts) (s : Step) (result : Result Outcome (Fault StepFault)) → IsSteady (shown_by p a) → IsDated s → length b.clients.items ≡ length a.clients.items → Makes p s a result b → spoil_of result ≡ None
    → IsSteady (shown_by p b)
stays_steady p a b s (Ok o) steady dated same made fine = goes_on p a b s o steady dated same made
stays_steady p a b s (Err (Refused (NoClient n))) steady dated same made fine = kept_by p a b (made (run (length a.clients.items) steady.run.steps) steady.run.stands).1 steady
stays_steady p a b s (Err (Refused (NoPacket n))) steady dated same made fine = kept_by p a b (made (run (length a.clients.items) steady.run.steps) steady.run.stands).1 steady
stays_steady p a b s (Err (Refused (WrongEnd n))) steady dated same made fine = kept_by p a b (made (run (length a.clients.items) steady.run.steps) steady.run.stands).1 steady
stays_steady p a b s (Err (Refused (PoolFull n))) steady dated same made fine = absurd (none-some (Refused (PoolFull n)) (sym fine))
stays_steady p a b s (Err Memory) steady dated same made fine = absurd (none-some Memory (sym fine))

-- ---- at the start

pub many_new : (n : ℕ) → length (new_clients n) ≡ n
many_new n = clients_stay n []

pub one_more_new : (n : ℕ) → new_clients n ++ new_client ∷ [] ≡ new_clients (n + 1)
one_more_new zero = refl
one_more_new (suc n) = ap (λ (cs : List ClientState). new_client ∷ cs) (one_more_new n) ∙ ap new_clients (let e : suc (n + 1) ≡ suc n + 1 = omega arith in e)

pub starts_steady : (p : ProfileView) (a : WorldParts) (n : ℕ) → IsProfile p → IsSound new_server → a.server ≡ new_server → a.clients.items ≡ new_clients n → a.pool ≡ [] → IsSteady (shown_by p a)
starts_steady p a n is sound server clients pool =
    let many : length a.clients.items ≡ n = ap length clients ∙ many_new n in
    record {
      run = record {
        steps = [];
        possible = tt;
        stands = record {
          server = sym server;
          clients = ap new_clients many ∙ sym clients;
          pool = subst (λ (ss : List SentPacket). AreSent p ss []) (sym pool) tt;
        };
      };
      profile = is;
      sound = subst IsSound (sym server) sound;
      most = subst (λ (ss : List SentPacket). bytes_of ss ≤ MAX_POOL_BYTES) (sym pool) (omega arith);
    }
