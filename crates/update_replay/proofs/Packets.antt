-- The packets that a step sent, and their bytes.
use Rattle.std.proofs.Common.{◌≡◌, ℕ, zero, suc, List, [], ◌∷◌, length, drop, Option, Some, None, refl, ap, ◌∙◌}
use Rattle.std.specs.Prelude.{slice_get}
use Rattle.std.specs.FinMap as finite
use Rattle.box_events.specs.declared.positions.Receipt.{Receipt}
use Rattle.box_events.specs.declared.requests.Post.{Post}
use Rattle.std.specs.Prelude.{ℤ}
use Rattle.box_events.specs.declared.steps.Step.{Step}
use Rattle.box_events.specs.declared.steps.Step.TheVariants as step
use Rattle.box_server.specs.Refusing.{post_cause}
use Rattle.box_server.specs.declared.fault.PostFault.{PostFault}
use Rattle.box_client.specs.States.{ClientState}
use Rattle.box_client.specs.Asking.{restarted, wakes}
use Rattle.wire_profile.specs.Indexes.{ProfileView}
use Rattle.box_world.specs.Worlds.{Packet, World, client_steps, happens, heard, post_by, watches}
use Rattle.update_replay.specs.StepLines.{AreSpelled}
use Rattle.update_world.specs.declared.sent.SentPacket.{SentPacket}
use Rattle.update_world.specs.Outcomes.{outcome_of, post_outcome}
use Rattle.update_world.specs.Shown.{Shown}
use Rattle.update_world.specs.Spelled.{AreSent, IsSpelled}
use Rattle.update_replay.specs.WorldLines.{bytes_from, first_new}

-- the packets from a number on are spelled as they were sent
pub spelled_from : (p : ProfileView) (ss : List SentPacket) (ms : List Packet) (n : ℕ) → AreSent p ss ms → AreSpelled (IsSpelled p) (drop n ms) (bytes_from n ss)
spelled_from p [] [] zero a = tt
spelled_from p [] [] (suc n) a = tt
spelled_from p [] (m ∷ ms) n a = absurd a
spelled_from p (s ∷ ss) [] n a = absurd a
spelled_from p (s ∷ ss) (m ∷ ms) zero a = (a.0.bytes, spelled_from p ss ms zero a.1)
spelled_from p (s ∷ ss) (m ∷ ms) (suc n) a = spelled_from p ss ms n a.1

-- ---- the first of them is the one after those that were there

quiet_post : (w : World) (random_id : ℤ) (ps : List Post) (o : Option Receipt) (cause : Option PostFault) (s : Shown) → length s.pool ≡ length (post_by w random_id ps o cause).pool → first_new s (post_outcome w random_id ps o cause) ≡ length w.pool
quiet_post w random_id ps (Some receipt) cause s same = same
quiet_post w random_id ps None (Some fault) s same = same
quiet_post w random_id ps None None s same = refl

quiet_heard : (w : World) (k : ℕ) (o : Option ClientState) (m : Option Packet) → (heard w k o m).pool ≡ w.pool
quiet_heard w k None m = refl
quiet_heard w k (Some c) None = refl
quiet_heard w k (Some c) (Some m) = refl

quiet_client : (w : World) (k : ℕ) (f : ClientState → ClientState) (o : Option ClientState) → (client_steps w k f o).pool ≡ w.pool
quiet_client w k f None = refl
quiet_client w k f (Some c) = refl

pub first_is : (w : World) (s : Step) (new : Shown) → length new.pool ≡ length (happens w s).pool → first_new new (outcome_of w s) ≡ length w.pool
unfolding outcome_of
first_is w (step.Post random_id ps) new same = quiet_post w random_id ps (finite.get w.server.receipts random_id) (post_cause w.server ps) new same
first_is w (step.Date date) new same = same
first_is w (step.Serve m) new same = refl
first_is w (step.Hear k m) new same = same ∙ ap length (quiet_heard w k (slice_get w.clients k) (slice_get w.pool m))
first_is w (step.Tick k) new same = refl
first_is w (step.Wake k) new same = same ∙ ap length (quiet_client w k wakes (slice_get w.clients k))
first_is w (step.Watch k id) new same = same ∙ ap length (quiet_client w k (watches id) (slice_get w.clients k))
first_is w (step.Restart k) new same = same ∙ ap length (quiet_client w k restarted (slice_get w.clients k))
first_is w step.TooLong new same = refl
first_is w (step.ChannelTooLong id) new same = refl
