-- What a step adds to a world, and the numbers that it leads to.
use Rattle.std.proofs.Common.{◌≡◌, ℕ, List, [], ◌∷◌, ◌++◌, length, drop, map, Some, None, Option, append-nil, refl, sym, ap, ◌∙◌}
use Rattle.std.specs.Prelude.{slice_get}
use Rattle.std.specs.FinMap as maps
use Rattle.box_events.specs.declared.positions.Receipt.{Receipt}
use Rattle.box_events.specs.declared.requests.Post.{Post}
use Rattle.std.specs.Prelude.{ℤ}
use Rattle.box_events.specs.declared.steps.Step.{Step}
use Rattle.box_events.specs.declared.steps.Step.TheVariants as step
use Rattle.box_events.specs.declared.updates.Push.TheVariants.{TooLong}
use Rattle.box_server.specs.declared.fault.PostFault.{PostFault}
use Rattle.box_server.specs.Posting.{push_of}
use Rattle.box_server.specs.Refusing.{post_cause}
use Rattle.box_server.specs.Answers.{answer}
use Rattle.box_server.proofs.Carrying.{changed_overlays}
use Rattle.box_client.specs.Numbers.{ClientNumbers}
use Rattle.box_world.specs.NumberWorlds.{NumberWorld, n_happens, n_post_by, n_served, n_heard, n_asks, n_steps, n_requests, n_run, n_run_from}
use Rattle.box_world.proofs.NumberWorlds.{numbers_follow}
use Rattle.box_world.specs.Worlds.{Packet, push, request, reply, channel_too_long}
use Rattle.update_replay.specs.Laws.{NewPacketsAreAdded, StepsAreOfRuns}

-- ---- what a step adds

-- a pool that goes on from another
Adds : List Packet → List Packet → Type 0
Adds before after = (more : List Packet) × (after ≡ before ++ more)

nothing : (ps : List Packet) → Adds ps ps
unfolding Adds
nothing ps = ([], sym (append-nil ps))

posts_add : (w : NumberWorld) (id : ℤ) (ps : List Post) (known : Option Receipt) (cause : Option PostFault) → Adds w.pool (n_post_by w id ps known cause).pool
unfolding Adds
posts_add w id ps (Some receipt) cause = nothing w.pool
posts_add w id ps None (Some cause) = nothing w.pool
posts_add w id ps None None = (push (push_of w.server ps) ∷ [], refl)

serves_add : (w : NumberWorld) (m : Option Packet) → Adds w.pool (n_served w m).pool
unfolding Adds
serves_add w None = nothing w.pool
serves_add w (Some (push p)) = nothing w.pool
serves_add w (Some (request k n)) = (reply k n.number (answer w.server n.request) w.server ∷ [], refl)
serves_add w (Some (reply k n r s)) = nothing w.pool

hears_add : (w : NumberWorld) (k : ℕ) (c : Option ClientNumbers) (m : Option Packet) → Adds w.pool (n_heard w k c m).pool
hears_add w k None m = nothing w.pool
hears_add w k (Some c) None = nothing w.pool
hears_add w k (Some c) (Some m) = nothing w.pool

asks_add : (w : NumberWorld) (k : ℕ) (c : Option ClientNumbers) → Adds w.pool (n_asks w k c).pool
unfolding Adds
asks_add w k None = nothing w.pool
asks_add w k (Some c) = (map (request k) (n_requests c), refl)

goes_on_adds : (w : NumberWorld) (k : ℕ) (f : ClientNumbers → ClientNumbers) (c : Option ClientNumbers) → Adds w.pool (n_steps w k f c).pool
goes_on_adds w k f None = nothing w.pool
goes_on_adds w k f (Some c) = nothing w.pool

steps_add : (w : NumberWorld) (s : Step) → Adds w.pool (n_happens w s).pool
unfolding Adds
steps_add w (step.Post id ps) = posts_add w id ps (maps.get w.server.receipts id) (post_cause w.server ps)
steps_add w (step.Date date) = nothing w.pool
steps_add w (step.Serve m) = serves_add w (slice_get w.pool m)
steps_add w (step.Hear k m) = hears_add w k (slice_get w.clients k) (slice_get w.pool m)
steps_add w (step.Tick k) = asks_add w k (slice_get w.clients k)
steps_add w (step.Wake k) = goes_on_adds w k _ (slice_get w.clients k)
steps_add w (step.Watch k id) = goes_on_adds w k _ (slice_get w.clients k)
steps_add w (step.Restart k) = goes_on_adds w k _ (slice_get w.clients k)
steps_add w step.TooLong = (push TooLong ∷ [], refl)
steps_add w (step.ChannelTooLong id) = (push (channel_too_long w.server id) ∷ [], refl)

dropped : (xs ys : List Packet) → drop (length xs) (xs ++ ys) ≡ ys
dropped [] ys = refl
dropped (x ∷ xs) ys = dropped xs ys

added : (before after : List Packet) → Adds before after → after ≡ before ++ drop (length before) after
unfolding Adds
added before after a = a.1 ∙ ap (λ (t : List Packet). before ++ t) (sym (dropped before a.0)) ∙ ap (λ (t : List Packet). before ++ drop (length before) t) (sym a.1)

pub new_packets_are_added : NewPacketsAreAdded
new_packets_are_added w s = added w.pool (n_happens w s).pool (steps_add w s)

-- ---- a run with one more step

one_more : (w : NumberWorld) (steps : List Step) (s : Step) → n_run_from w (steps ++ s ∷ []) ≡ n_happens (n_run_from w steps) s
one_more w [] s = refl
one_more w (t ∷ ts) s = one_more (n_happens w t) ts s

pub steps_are_of_runs : StepsAreOfRuns
steps_are_of_runs n steps s =
    ap (λ (w : NumberWorld). n_happens w s) (numbers_follow changed_overlays n steps)
    ∙ sym (one_more (n_run n []) steps s)
    ∙ sym (numbers_follow changed_overlays n (steps ++ s ∷ []))
