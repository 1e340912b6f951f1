-- One step of a replay, made: whose client its outcome tells of, and its lines.
use Rattle.std.proofs.Common.{◌≡◌, ℕ, ◌+◌, ◌<◌, ℤ, List, [], ◌∷◌, ◌++◌, length, Option, Some, None, Result, Ok, refl, sym, ◌∙◌, subst, arith}
use Rattle.std.specs.FinMap as finite
use Rattle.box_events.specs.declared.positions.Receipt.{Receipt}
use Rattle.box_events.specs.declared.requests.Post.{Post}
use Rattle.box_events.specs.declared.steps.Step.{Step}
use Rattle.box_events.specs.declared.steps.Step.TheVariants as step
use Rattle.box_server.specs.Refusing.{post_cause}
use Rattle.box_server.specs.declared.fault.PostFault.{PostFault}
use Rattle.wire_profile.specs.Indexes.{ProfileView}
use Rattle.box_world.specs.NumberWorlds.{n_run}
use Rattle.box_world.specs.Possible.{client_of}
use Rattle.box_world.specs.Worlds.{World, run}
use Rattle.box_world.proofs.OneMore.{clients_stay, runs_go_on}
use Rattle.update_replay.specs.StepLines.{StepLines}
use Rattle.update_world.specs.Outcomes.{outcome_of, post_outcome}
use Rattle.update_world.specs.Shown.{Shown, StandsFor}
use Rattle.update_world.specs.Spelled.{IsSpelled, packet_size}
use Rattle.update_world.specs.Stepping.{Happens}
use Rattle.box_world.specs.declared.fault.StepFault.{StepFault}
use Rattle.tl_base.specs.declared.fault.Fault.{Fault}
use Rattle.update_world.specs.declared.outcome.Outcome.{Outcome}
use Rattle.update_world.proofs.Refusals.{named_client}
use Rattle.update_replay.specs.Replays.{StandsAfter}
use Rattle.update_replay.specs.WorldLines.{Stands, outcome_lines}
use Rattle.update_replay.proofs.Told.{steps_are_told}

-- ---- whose client is told of

post_stands : (w : World) (random_id : ℤ) (ps : List Post) (o : Option Receipt) (cause : Option PostFault) (v : Shown) → Stands v (post_outcome w random_id ps o cause)
post_stands w random_id ps (Some receipt) cause v = tt
post_stands w random_id ps None (Some cause) v = tt
post_stands w random_id ps None None v = tt

outcome_stands : (w : World) (s : Step) (v : Shown) → ((k : ℕ) → client_of s ≡ Some k → k < length w.clients) → length v.clients ≡ length w.clients → Stands v (outcome_of w s)
unfolding outcome_of
outcome_stands w (step.Post random_id ps) v there many = post_stands w random_id ps (finite.get w.server.receipts random_id) (post_cause w.server ps) v
outcome_stands w (step.Date date) v there many = tt
outcome_stands w (step.Serve m) v there many = tt
outcome_stands w (step.Hear k m) v there many = omega (arith, many, there k refl)
outcome_stands w (step.Tick k) v there many = tt
outcome_stands w (step.Wake k) v there many = tt
outcome_stands w (step.Watch k id) v there many = tt
outcome_stands w (step.Restart k) v there many = omega (arith, many, there k refl)
outcome_stands w step.TooLong v there many = tt
outcome_stands w (step.ChannelTooLong id) v there many = tt

-- ---- a step that was made

-- what happens in each world that the shown one stands for
abbrev pub HappensIn : Shown → Step → Result Outcome (Fault StepFault) → Shown → Type 0
HappensIn w s r v = (x : World) → w.spoiled ≡ None → StandsFor w x → Happens w s x r v

module _ (w v : Shown) (count : ℕ) (s : Step) (outcome : Outcome) (happens : HappensIn w s (Ok outcome) v) (same : v.profile ≡ w.profile) (many : length v.clients ≡ length w.clients) (p : ProfileView) (n : ℕ) (ss : List Step) (stands : StandsAfter p n w ss) (number : count ≡ length ss) where
  pub here : Happens w s (run n ss) (Ok outcome) v
  here = happens (run n ss) stands.fine stands.stands

  after : StandsFor v (run n (ss ++ s ∷ []))
  after = subst (StandsFor v) (sym (runs_go_on n ss s)) here.2

  pub lines_told : StepLines (IsSpelled p) (length ss) (n_run n ss) s (outcome_lines v count outcome)
  lines_told =
      let told : StepLines (IsSpelled v.profile) count (n_run n ss) s (outcome_lines v count (outcome_of (run n ss) s)) = steps_are_told n ss s v count after here.0 in
      let by_outcome : StepLines (IsSpelled v.profile) count (n_run n ss) s (outcome_lines v count outcome) = subst (λ (o : Outcome). StepLines (IsSpelled v.profile) count (n_run n ss) s (outcome_lines v count o)) (sym here.1) told in
      let by_profile : StepLines (IsSpelled p) count (n_run n ss) s (outcome_lines v count outcome) = subst (λ (q : ProfileView). StepLines (IsSpelled q) count (n_run n ss) s (outcome_lines v count outcome)) (same ∙ stands.profile) by_outcome in
      subst (λ (k : ℕ). StepLines (IsSpelled p) k (n_run n ss) s (outcome_lines v count outcome)) number by_profile

  pub stands_on : StandsAfter p n v (ss ++ s ∷ [])
  stands_on = record { profile = same ∙ stands.profile; clients = many ∙ stands.clients; fine = here.3; stands = after }

  pub there : Stands v outcome
  there =
      let low = named_client packet_size (run n ss) s here.0 in
      let as_many : length v.clients ≡ length (run n ss).clients = many ∙ stands.clients ∙ sym (clients_stay n ss) in
      subst (Stands v) (sym here.1) (outcome_stands (run n ss) s v low as_many)
