-- A difference that is finished reaches where the server was that answered.
use Rattle.std.proofs.Common.{◌≡◌, ℕ, ℤ, List, [], ◌∷◌, ◌++◌, append_assoc, append-nil, length, Bool, true, false, cond, eqb, Some, Result, Ok, Err, set, refl, sym, ap, ap₂, ◌∙◌, subst, inl, inr, arith}
use Rattle.std.specs.Prelude.{slice_get, ◌&&◌, ltb}
use Rattle.std.proofs.lemmas.Bool.Decides.{nat_tests}
use Rattle.std.proofs.lemmas.Option.{same_Some}
use Rattle.box_events.specs.Events.{EventView}
use Rattle.box_events.specs.declared.replies.ChannelReply.{ChannelReply}
use Rattle.box_events.specs.declared.replies.Reply.{Reply}
use Rattle.box_events.specs.declared.replies.Reply.TheVariants as reply_of
use Rattle.box_events.specs.declared.requests.Numbered.{Numbered}
use Rattle.box_events.specs.declared.steps.Step.{Step}
use Rattle.box_events.specs.declared.steps.Step.TheVariants.{Hear, Serve}
use Rattle.box_events.specs.Weaves.{woven_of}
use Rattle.box_events.specs.declared.difference_fault.WeaveFault.{WeaveFault}
use Rattle.channel_box.specs.States.{ChannelState, first}
use Rattle.channel_box.specs.Steps.{asks_number, at_first, is_asking}
use Rattle.box_server.specs.Answers.{answer}
use Rattle.box_server.specs.Servers.{ServerState}
use Rattle.box_server.proofs.Carrying.{changed_overlays}
use Rattle.box_client.specs.declared.received.Received.{Received}
use Rattle.box_client.specs.Replies.{Outcome, ignored, refuses, becomes, nothing_new, group_taken, group_woven, group_replied, replied}
use Rattle.box_client.specs.States.{ClientState}
use Rattle.box_world.specs.Agreeing.{IsPast, is_final, is_last_part}
use Rattle.box_world.specs.Worlds.{Packet, request, reply, World, after_reply, heard, received, run, sent, served}
use Rattle.box_world.proofs.Reaching.{channels_catch_up, clients_catch_up, replies_are_taken}
use Rattle.box_world.proofs.Lists.{written}
use Rattle.box_world.proofs.OneMore.{runs_go_on}
use Rattle.box_world.proofs.Stepping.{advances, good_run}
use Rattle.headline.specs.Boxes.{FinishedReach, FinishedChannelsReach, HearsAnswer, IsChannelPast}
use Rattle.headline.specs.Forward.{ChannelsGoOn, GoesForward}
use Rattle.headline.proofs.Channels.{first_index}
use Rattle.headline.proofs.Forward.{clients_go_forward, past_forward}

-- ---- pools go on

-- a pool that goes on from another
abbrev Adds : List Packet → List Packet → Type 0
Adds before after = (more : List Packet) × (after ≡ before ++ more)

step_adds : (n : ℕ) (steps : List Step) (s : Step) → Adds (run n steps).pool (run n (steps ++ s ∷ [])).pool
step_adds n steps s =
    let a = advances changed_overlays (run n steps) s (good_run changed_overlays n steps) in
    (a.more, ap (λ (w : World). w.pool) (runs_go_on n steps s) ∙ a.pool)

adds_then : (a b c : List Packet) → Adds a b → Adds b c → Adds a c
adds_then a b c m k = (m.0 ++ k.0, k.1 ∙ ap (λ (l : List Packet). l ++ k.0) m.1 ∙ append_assoc a m.0 k.0)

steps_add : (n : ℕ) (steps more : List Step) → Adds (run n steps).pool (run n (steps ++ more)).pool
steps_add n steps [] = ([], ap (λ (l : List Step). (run n l).pool) (append-nil steps) ∙ sym (append-nil (run n steps).pool))
steps_add n steps (s ∷ more) =
    let rest = steps_add n (steps ++ s ∷ []) more in
    let all = adds_then (run n steps).pool (run n (steps ++ s ∷ [])).pool (run n ((steps ++ s ∷ []) ++ more)).pool (step_adds n steps s) rest in
    subst (λ (l : List Step). Adds (run n steps).pool (run n l).pool) (append_assoc steps (s ∷ []) more) all

at_end : (ps : List Packet) (p : Packet) (more : List Packet) → slice_get (ps ++ p ∷ more) (length ps) ≡ Some p
at_end [] p more = refl
at_end (x ∷ ps) p more = at_end ps p more

-- the answer that a serve sends stays at its place
answer_there : (n : ℕ) (early later : List Step) (j k : ℕ) (q : Numbered) → slice_get (run n early).pool j ≡ Some (request k q)
    → slice_get (run n (early ++ Serve j ∷ later)).pool (length (run n early).pool) ≡ Some (reply k q.number (answer (run n early).server q.request) (run n early).server)
answer_there n early later j k q is =
    let w : World = run n early in
    let r : Packet = reply k q.number (answer w.server q.request) w.server in
    let one : run n (early ++ Serve j ∷ []) ≡ sent w r = runs_go_on n early (Serve j) ∙ ap (served w) is in
    let pool : (run n (early ++ Serve j ∷ [])).pool ≡ w.pool ++ r ∷ [] = ap (λ (x : World). x.pool) one in
    let more = steps_add n (early ++ Serve j ∷ []) later in
    let all : (run n ((early ++ Serve j ∷ []) ++ later)).pool ≡ w.pool ++ r ∷ more.0 = more.1 ∙ ap (λ (l : List Packet). l ++ more.0) pool ∙ append_assoc w.pool (r ∷ []) more.0 in
    let at : slice_get (run n ((early ++ Serve j ∷ []) ++ later)).pool (length w.pool) ≡ Some r = ap (λ (l : List Packet). slice_get l (length w.pool)) all ∙ at_end w.pool r more.0 in
    subst (λ (l : List Step). slice_get (run n l).pool (length w.pool) ≡ Some r) (append_assoc early (Serve j ∷ []) later) at

-- ---- the client that hears it

heard_by : (b : Bool) (c d : ClientState) → b ≡ true → cond b d c ≡ d
heard_by true c d e = refl
heard_by false c d e = absurd (let w : false ≡ true = e in cc)

same : (k : ℕ) → eqb k k ≡ true
same k = grind (arith, nat_tests)

placed : (cs : List ClientState) (k : ℕ) (c d e : ClientState) → slice_get cs k ≡ Some c → slice_get (set cs k d) k ≡ Some e → e ≡ d
placed cs k c d e was is = elim (written cs k d k e is) [
  | inl h ↦ absurd (h.0 refl)
  | inr h ↦ h.1
]

-- the client after the answer that it hears
after_is : (n : ℕ) (steps : List Step) (k m : ℕ) (c d : ClientState) (number : ℕ) (v : Reply) (s : ServerState) → slice_get (run n steps).pool m ≡ Some (reply k number v s) → slice_get (run n steps).clients k ≡ Some c
    → slice_get (run n (steps ++ Hear k m ∷ [])).clients k ≡ Some d → d ≡ after_reply c (replied c number v)
after_is n steps k m c d number v s is at next =
    let w : World = run n steps in
    let p : Packet = reply k number v s in
    let one : run n (steps ++ Hear k m ∷ []) ≡ heard w k (Some c) (Some p) = runs_go_on n steps (Hear k m) ∙ ap₂ (heard w k) at is in
    let there : slice_get (set w.clients k (received k c p)) k ≡ Some d = sym (ap (λ (x : World). slice_get x.clients k) one) ∙ next in
    placed w.clients k c (received k c p) d at there ∙ heard_by (eqb k k) c (after_reply c (replied c number v)) (same k)

-- ---- the group takes each answer or refuses it

taken_some : (b : Bool) (c : ClientState) (x : Received) (xs ys : List EventView) → group_taken b c x xs ys ≡ ignored → ⊥
taken_some true c x xs ys e = absurd cc
taken_some false c x xs ys e = absurd cc

woven_some : (c : ClientState) (b : Received) (o p : Result (List EventView) WeaveFault) → group_woven c b o p ≡ ignored → ⊥
woven_some c b (Err cause) p e = absurd cc
woven_some c b (Ok xs) (Err cause) e = absurd cc
woven_some c b (Ok xs) (Ok ys) e = taken_some (b.last && ltb b.state.seq c.settings.at) c b xs ys e

pub group_some : (c : ClientState) (v : Reply) → group_replied c v ≡ ignored → ⊥
group_some c (reply_of.State state) e = absurd cc
group_some c (reply_of.Empty date seq) e = let b = nothing_new c date seq in woven_some c b (woven_of c.common.at b.state.pts b.news b.others) (woven_of c.secret.at b.state.qts b.secrets []) e
group_some c (reply_of.Difference news secrets others settings state last) e =
    let b : Received = record { news = news; secrets = secrets; others = others; settings = settings; state = state; last = last } in
    woven_some c b (woven_of c.common.at b.state.pts b.news b.others) (woven_of c.secret.at b.state.qts b.secrets []) e
group_some c (reply_of.Channel r) e = absurd cc
group_some c (reply_of.Receipt r) e = absurd cc
group_some c (reply_of.Error code text) e = absurd cc

by_group : (b : Bool) (x y : Outcome) → b ≡ true → cond b x y ≡ x
by_group true x y e = refl
by_group false x y e = absurd (let w : false ≡ true = e in cc)

module _ (n : ℕ) (steps : List Step) (k : ℕ) (q : Numbered) (s : ServerState) (c d : ClientState) (h : HearsAnswer n steps k q s c d) where
  -- the steps before the client hears it, the packet's number, and the answer
  abbrev mid : List Step
  mid = h.early ++ Serve h.j ∷ h.later

  abbrev place : ℕ
  place = length (run n h.early).pool

  abbrev answered : Reply
  answered = answer s q.request

  is_there : slice_get (run n mid).pool place ≡ Some (reply k q.number answered s)
  is_there = subst (λ (x : ServerState). slice_get (run n mid).pool place ≡ Some (reply k q.number (answer x q.request) x)) (sym h.server) (answer_there n h.early h.later h.j k q h.asked)

  is_after : d ≡ after_reply c (replied c q.number answered)
  is_after = after_is n mid k place c d q.number answered s is_there h.before (subst (λ (l : List Step). slice_get (run n l).clients k ≡ Some d) (sym (append_assoc h.early (Serve h.j ∷ h.later) (Hear k place ∷ []))) h.after)

  reached : (o : Outcome) → replied c q.number answered ≡ o → is_final answered ≡ true → is_asking q.number c.common.mode ≡ true → IsPast s d
  reached ignored is final asks = absurd (group_some c answered (sym (by_group (is_asking q.number c.common.mode) _ _ asks) ∙ is))
  reached (refuses cause) is final asks = absurd (replies_are_taken changed_overlays n mid place k q.number answered s c cause is_there h.before is)
  reached (becomes x) is final asks =
      let after : d ≡ x = is_after ∙ ap (after_reply c) is in
      subst (IsPast s) (sym after) (clients_catch_up changed_overlays n mid place k q.number answered s c x is_there h.before final is)

  channel_reached : (v : ChannelReply) (e : ChannelState) → answered ≡ reply_of.Channel v → is_last_part v ≡ true → is_asking q.number c.common.mode ≡ false → first (asks_number q.number) c.channels ≡ Some e → IsChannelPast s e.id d.channels
  channel_reached v e is last free asks =
      let there : slice_get (run n mid).pool place ≡ Some (reply k q.number (reply_of.Channel v) s) = is_there ∙ ap (λ (x : Reply). Some (reply k q.number x s)) is in
      let (f, id, becoming, far) = channels_catch_up changed_overlays n mid place k q.number v s c e there h.before free asks last in
      let ds : List ChannelState = at_first (asks_number q.number) (λ _. f) c.channels in
      let after : d ≡ record c { channels = ds } = is_after ∙ ap (λ (x : Reply). after_reply c (replied c q.number x)) is ∙ ap (after_reply c) becoming in
      let at = first_index (asks_number q.number) c.channels e f asks in
      (at.0, f, ap (λ (x : ClientState). slice_get x.channels at.0) after ∙ at.2, id, far)

  -- after all of the steps
  abbrev heard_then : List Step
  heard_then = h.early ++ Serve h.j ∷ (h.later ++ Hear k place ∷ [])

  all_steps : steps ≡ heard_then ++ h.rest
  all_steps =
      h.parts
      ∙ ap (λ (l : List Step). h.early ++ Serve h.j ∷ l) (sym (append_assoc h.later (Hear k place ∷ []) h.rest))
      ∙ sym (append_assoc h.early (Serve h.j ∷ (h.later ++ Hear k place ∷ [])) h.rest)

  goes_on : (x : ClientState) → slice_get (run n steps).clients k ≡ Some x → GoesForward d x
  goes_on x at =
      let (y, there, f) = clients_go_forward n heard_then h.rest k d h.after in
      let same : y ≡ x = same_Some y x (sym there ∙ ap (λ (l : List Step). slice_get (run n l).clients k) (sym all_steps) ∙ at) in
      subst (GoesForward d) same f

channels_forward : (s : ServerState) (id : ℤ) (cs ds : List ChannelState) → ChannelsGoOn cs ds → IsChannelPast s id cs → IsChannelPast s id ds
channels_forward s id cs ds g (i, f, at, same, far) =
    let one = g i f at in
    (i, one.0, one.1, one.2 ∙ same, omega (arith, far, one.3))

pub finished_reach : (n : ℕ) (steps : List Step) → FinishedReach n steps
finished_reach n steps k q s c d h final asks =
    let here = reached n steps k q s c d h (replied c q.number (answer s q.request)) refl final asks in
    (here, λ x at. past_forward s d x (goes_on n steps k q s c d h x at) here)

pub finished_channels_reach : (n : ℕ) (steps : List Step) → FinishedChannelsReach n steps
finished_channels_reach n steps k q s c d v e h is last free asks =
    let here = channel_reached n steps k q s c d h v e is last free asks in
    (here, λ x at. channels_forward s e.id d.channels x.channels (goes_on n steps k q s c d h x at).channels here)
