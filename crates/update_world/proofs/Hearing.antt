-- A client receives a packet.
use Rattle.std.proofs.Common.{◌≡◌, ℕ, ◌<◌, ◌≤◌, List, [], length, set, Bool, true, false, cond, eqb, Option, Some, None, Result, Ok, Err, is_some, ◌||◌, refl, sym, ap, ◌∙◌, subst, arith}
use Rattle.std.specs.Prelude.{slice_get}
use Rattle.std.proofs.lemmas.Option.{slice_get_within}
use Rattle.std.proofs.lemmas.Bool.Decides.{nat_tests}
use Rattle.box_events.specs.Events.{EventView}
use Rattle.box_server.specs.Servers.{ServerState}
use Rattle.box_events.specs.declared.replies.ChannelReply.{ChannelReply}
use Rattle.box_events.specs.declared.replies.Frame.{Frame}
use Rattle.box_events.specs.declared.replies.Frame.TheVariants.{Push, Reply}
use Rattle.box_events.specs.declared.replies.Reply.{Reply as SomeReply}
use Rattle.box_events.specs.declared.replies.Reply.TheVariants as reply_of
use Rattle.box_events.specs.declared.steps.Step.{Step}
use Rattle.box_events.specs.declared.steps.Step.TheVariants as step
use Rattle.box_events.specs.declared.updates.Push.{Push as SomePush}
use Rattle.channel_box.specs.States.{ChannelState, first}
use Rattle.channel_box.specs.Steps.{Answered, stale, refused, taken, answered, answered_by, asks_number, is_asking, taken_by}
use Rattle.channel_box.specs.Steps as channels
use Rattle.box_events.specs.Weaves.{woven_of}
use Rattle.box_events.specs.declared.difference_fault.WeaveFault.{WeaveFault}
use Rattle.box_client.specs.declared.received.Received.{Received}
use Rattle.box_client.specs.States.{ClientState}
use Rattle.box_client.specs.Replies.{ignored, becomes, brings, by_channels, channel_replied, group_replied, group_taken, group_woven, nothing_new, replied}
use Rattle.wire_profile.specs.Indexes.{ProfileView}
use Rattle.box_world.specs.Worlds.{Packet, push, request, reply, World, after_reply, goes_on, happens, heard, received, run}
use Rattle.box_world.specs.declared.fault.StepFault.TheVariants.{NoClient, NoPacket, WrongEnd}
use Rattle.box_world.specs.Possible.{is_for, wrong}
use Rattle.report_lines.specs.declared.heard.HeardAs.{HeardAs}
use Rattle.report_lines.specs.declared.heard.HeardAs.TheVariants as told
use Rattle.box_world.specs.declared.fault.StepFault.{StepFault}
use Rattle.tl_base.specs.declared.fault.Fault.{Fault}
use Rattle.box_world.specs.declared.fault.StepFault.TheVariants.{NoClient, NoPacket, WrongEnd, PoolFull}
use Rattle.tl_base.specs.declared.fault.Fault.TheVariants.{Refused, Memory}
use Rattle.update_world.specs.declared.outcome.Outcome.TheVariants as outcome
use Rattle.update_world.specs.declared.parts.WorldParts.{WorldParts}
use Rattle.update_world.specs.declared.sent.SentPacket.{SentPacket}
use Rattle.update_world.specs.Outcomes.{asks_it, heard_as, heard_by, outcome_of}
use Rattle.update_world.specs.Shown.{StandsFor}
use Rattle.update_world.specs.Spelled.{AreSent, IsSent, packet_size}
use Rattle.update_world.specs.Stepping.{Happens}
use Rattle.update_world.specs.inner.Delivering.{IsTaken, after_frame, frame_as}
use Rattle.update_world.specs.inner.Making.{IsSteady, shown_after, shown_by}
use Rattle.update_world.specs.inner.Reading.{FrameFor, HasFrameFor, hears}
use Rattle.update_world.proofs.Posts.{stays}
use Rattle.update_world.proofs.Refusals.{far_packet, there, wrong_packet}
use Rattle.update_world.proofs.Runs.{is_taken}
use Rattle.update_world.proofs.SentLists.{sent_get, sent_length}

-- ---- what a client's answer tells

-- an answer that the group takes, or refuses, is never ignored
not_ignored : (last : Bool) (c : ClientState) (b : Received) (xs ys : List EventView) → group_taken last c b xs ys ≡ ignored → ⊥
not_ignored true c b xs ys e = cc
not_ignored false c b xs ys e = cc

group_told : (c : ClientState) (b : Received) (o p : Result (List EventView) WeaveFault) → group_woven c b o p ≡ ignored → ⊥
group_told c b (Err cause) p e = cc
group_told c b (Ok xs) (Err cause) e = cc
group_told c b (Ok xs) (Ok ys) e = not_ignored _ c b xs ys e

brings_told : (c : ClientState) (b : Received) → brings c b ≡ ignored → ⊥
brings_told c b e = group_told c b (woven_of c.common.at b.state.pts b.news b.others) (woven_of c.secret.at b.state.qts b.secrets []) e

group_never : (c : ClientState) (r : SomeReply) → group_replied c r ≡ ignored → ⊥
group_never c (reply_of.State state) e = cc
group_never c (reply_of.Empty date seq) e = brings_told c (nothing_new c date seq) e
group_never c (reply_of.Difference news secrets others settings state last) e =
    brings_told c (record { news = news; secrets = secrets; others = others; settings = settings; state = state; last = last }) e
group_never c (reply_of.Channel r) e = cc
group_never c (reply_of.Receipt receipt) e = cc
group_never c (reply_of.Error code text) e = cc

-- nor one that a channel asked for
taken_never : (cs : List ChannelState) (n : ℕ) (o : Result ChannelState WeaveFault) → taken_by cs n o ≡ stale → ⊥
taken_never cs n (Ok c) e = cc
taken_never cs n (Err cause) e = cc

answered_never : (cs : List ChannelState) (n : ℕ) (r : ChannelReply) (o : Option ChannelState) → is_some o ≡ true → answered_by cs n r o ≡ stale → ⊥
answered_never cs n r None some e = cc
answered_never cs n r (Some c) some e = taken_never cs n (channels.replied c r) e

by_never : (c : ClientState) (a : Answered) → by_channels c a ≡ ignored → a ≡ stale
by_never c stale e = refl
by_never c (refused cause) e = cc
by_never c (taken cs) e = cc

channel_never : (c : ClientState) (n : ℕ) (r : SomeReply) → is_some (first (asks_number n) c.channels) ≡ true → channel_replied c n r ≡ ignored → ⊥
channel_never c n (reply_of.State state) some e = cc
channel_never c n (reply_of.Empty date seq) some e = cc
channel_never c n (reply_of.Difference news secrets others settings state last) some e = cc
channel_never c n (reply_of.Channel r) some e = answered_never c.channels n r (first (asks_number n) c.channels) some (by_never c (answered c.channels n r) e)
channel_never c n (reply_of.Receipt receipt) some e = cc
channel_never c n (reply_of.Error code text) some e = cc

-- so an answer is ignored exactly where nobody asks its number
either : (a b : Bool) (c : ClientState) (n : ℕ) (r : SomeReply) → is_asking n c.common.mode ≡ a → is_some (first (asks_number n) c.channels) ≡ b → cond a (group_replied c r) (cond b (channel_replied c n r) ignored) ≡ ignored → a || b ≡ false
either true b c n r group channel e = absurd (group_never c r e)
either false true c n r group channel e = absurd (channel_never c n r channel e)
either false false c n r group channel e = refl

stale_told : (c : ClientState) (n : ℕ) (r : SomeReply) → replied c n r ≡ ignored → asks_it n c ≡ false
stale_told c n r e = either (is_asking n c.common.mode) (is_some (first (asks_number n) c.channels)) c n r refl refl e

neither : (a b : Bool) (c d : ClientState) (n : ℕ) (r : SomeReply) → cond a (group_replied c r) (cond b (channel_replied c n r) ignored) ≡ becomes d → a || b ≡ true
neither true b c d n r e = refl
neither false true c d n r e = refl
neither false false c d n r e = cc

taken_told : (c d : ClientState) (n : ℕ) (r : SomeReply) → replied c n r ≡ becomes d → asks_it n c ≡ true
taken_told c d n r e = neither (is_asking n c.common.mode) (is_some (first (asks_number n) c.channels)) c d n r e

-- the client after it, and as what it heard it
pub reply_client : (c d : ClientState) (f : Frame) (n : ℕ) (r : SomeReply) → f ≡ Reply n r → replied c n r ≡ becomes d → d ≡ after_frame c f
reply_client c d f n r is e = ap (after_reply c) (sym e) ∙ ap (after_frame c) (sym is)

pub reply_told : (c d : ClientState) (f : Frame) (n : ℕ) (r : SomeReply) → f ≡ Reply n r → replied c n r ≡ becomes d → told.Reply ≡ frame_as c f
reply_told c d f n r is e = ap (λ (b : Bool). cond b told.Reply told.Stale) (sym (taken_told c d n r e)) ∙ ap (frame_as c) (sym is)

pub stale_client : (c d : ClientState) (f : Frame) (n : ℕ) (r : SomeReply) → f ≡ Reply n r → replied c n r ≡ ignored → d ≡ c → d ≡ after_frame c f
stale_client c d f n r is e same = same ∙ ap (after_reply c) (sym e) ∙ ap (after_frame c) (sym is)

pub stale_heard : (c : ClientState) (f : Frame) (n : ℕ) (r : SomeReply) → f ≡ Reply n r → replied c n r ≡ ignored → told.Stale ≡ frame_as c f
stale_heard c f n r is e = ap (λ (b : Bool). cond b told.Reply told.Stale) (sym (stale_told c n r e)) ∙ ap (frame_as c) (sym is)

-- ---- which message it is

-- a message that client k hears, and what it makes of the client
pub record IsHeard (w : World) (k m : ℕ) (f : Frame) : Type 0 where
  pub message : Packet
  pub there : slice_get w.pool m ≡ Some message
  pub to : is_for k (Some message) ≡ true
  pub client : (c : ClientState) → received k c message ≡ after_frame c f
  pub told : (c : ClientState) → heard_as c message ≡ frame_as c f

heard_push : (w : World) (k m : ℕ) (f : Frame) (q : SomePush) → slice_get w.pool m ≡ Some (push q) → f ≡ Push q → IsHeard w k m f
heard_push w k m f q at is = record {
  message = push q;
  there = at;
  to = refl;
  client = λ c. ap (after_frame c) (sym is);
  told = λ c. ap (frame_as c) (sym is);
}

heard_reply : (w : World) (k m j n : ℕ) (f : Frame) (r : SomeReply) (s : ServerState) → slice_get w.pool m ≡ Some (reply j n r s) → eqb j k ≡ true → f ≡ Reply n r → IsHeard w k m f
heard_reply w k m j n f r s at to is = record {
  message = reply j n r s;
  there = at;
  to = to;
  client = λ c. ap (λ (b : Bool). cond b (after_reply c (replied c n r)) c) to ∙ ap (after_frame c) (sym is);
  told = λ c. ap (frame_as c) (sym is);
}

by_message : (p : ProfileView) (a : WorldParts) (w : World) (k m : ℕ) (f : Frame) (x : Packet) (h : HasFrameFor p a.pool k m f) → slice_get w.pool m ≡ Some x → IsSent p h.sent x → IsHeard w k m f
by_message p a w k m f (push q) h at is = heard_push w k m f q at (h.only (Push q) (record { fits = is.read; spelled = is.bytes }))
by_message p a w k m f (request j n) h at is = let to = sym (ap (hears k) is.to) ∙ h.to in cc
by_message p a w k m f (reply j n r s) h at is = heard_reply w k m j n f r s at (sym (ap (hears k) is.to) ∙ h.to) (h.only (Reply n r) (record { fits = is.read; spelled = is.bytes }))

pub is_heard : (p : ProfileView) (a : WorldParts) (w : World) (k m : ℕ) (f : Frame) → AreSent p a.pool w.pool → HasFrameFor p a.pool k m f → IsHeard w k m f
is_heard p a w k m f sent h = let g = sent_get p a.pool w.pool sent m h.sent h.there in by_message p a w k m f g.0 h g.1 g.2

-- the client of a steady world refuses nothing of it
same_number : (j k : ℕ) → eqb j k ≡ true → j ≡ k
same_number j k e = grind (arith, nat_tests)

taken_by_message : (p : ProfileView) (a : WorldParts) (n : ℕ) (steps : List Step) (k m : ℕ) (f : Frame) (x : Packet) (c : ClientState) (h : HasFrameFor p a.pool k m f) → slice_get (run n steps).pool m ≡ Some x → IsSent p h.sent x
    → slice_get (run n steps).clients k ≡ Some c → IsTaken c f
taken_by_message p a n steps k m f (push q) c h at is cl = subst (IsTaken c) (sym (h.only (Push q) (record { fits = is.read; spelled = is.bytes }))) tt
taken_by_message p a n steps k m f (request j r) c h at is cl = let to = sym (ap (hears k) is.to) ∙ h.to in cc
taken_by_message p a n steps k m f (reply j i r s) c h at is cl =
    let same : j ≡ k = same_number j k (sym (ap (hears k) is.to) ∙ h.to) in
    let at_k : slice_get (run n steps).pool m ≡ Some (reply k i r s) = at ∙ ap (λ (l : ℕ). Some (reply l i r s)) same in
    subst (IsTaken c) (sym (h.only (Reply i r) (record { fits = is.read; spelled = is.bytes }))) (is_taken n steps m k i r s c at_k cl)

pub frame_taken : (p : ProfileView) (a : WorldParts) (k m : ℕ) (f : Frame) (c : ClientState) → IsSteady (shown_by p a) → HasFrameFor p a.pool k m f → slice_get a.clients.items k ≡ Some c → IsTaken c f
frame_taken p a k m f c steady h at =
    let n : ℕ = length a.clients.items in
    let steps : List Step = steady.run.steps in
    let g = sent_get p a.pool (run n steps).pool steady.run.stands.pool m h.sent h.there in
    taken_by_message p a n steps k m f g.0 c h g.1 g.2 (ap (λ (cs : List ClientState). slice_get cs k) steady.run.stands.clients ∙ at)

-- ---- the step

pub hear_done : (p : ProfileView) (a b : WorldParts) (w : World) (k m : ℕ) (f : Frame) (c d : ClientState) (heard_so : HeardAs) → IsSteady (shown_by p a) → StandsFor (shown_by p a) w → HasFrameFor p a.pool k m f → slice_get a.clients.items k ≡ Some c
    → d ≡ after_frame c f → heard_so ≡ frame_as c f → b.server ≡ a.server → b.clients.items ≡ set a.clients.items k d → b.pool ≡ a.pool
    → Happens (shown_by p a) (step.Hear k m) w (Ok (outcome.Heard k heard_so)) (shown_after p b (Ok (outcome.Heard k heard_so)))
unfolding outcome_of
hear_done p a b w k m f c d heard_so steady st h at is as_told server clients pool =
    let x = is_heard p a w k m f st.pool h in
    let cl : slice_get w.clients k ≡ Some c = ap (λ (cs : List ClientState). slice_get cs k) st.clients ∙ at in
    let now : happens w (step.Hear k m) ≡ goes_on w k (received k c x.message) = λ i. heard w k (cl i) (x.there i) in
    stays p steady.profile a b (step.Hear k m) w (outcome.Heard k heard_so)
    (record {
      client = there NoClient (length w.clients) k (slice_get_within w.clients k c cl);
      packet = there NoPacket (length w.pool) m (slice_get_within w.pool m x.message x.there);
      right = ap (λ (o : Option Packet). wrong (is_for k o) m) x.there ∙ ap (λ (t : Bool). wrong t m) x.to;
    }) st steady.most (ap (λ (v : World). v.pool) now) pool
    (ap (λ (v : World). v.server) now ∙ st.server ∙ sym server)
    (ap (λ (v : World). v.clients) now ∙ (λ i. set (st.clients i) k ((x.client c ∙ sym is) i)) ∙ sym clients)
    (ap (outcome.Heard k) (as_told ∙ sym (x.told c)) ∙ λ i. outcome.Heard k (heard_by (sym cl i) (sym x.there i)))

-- ---- refusals

-- a packet that goes to another end isn't for the client
not_for : (p : ProfileView) (k : ℕ) (s : SentPacket) (x : Packet) → hears k s.to ≡ false → IsSent p s x → is_for k (Some x) ≡ false
not_for p k s (push q) to is = sym (ap (hears k) is.to) ∙ to
not_for p k s (request j n) to is = refl
not_for p k s (reply j n r t) to is = sym (ap (hears k) is.to) ∙ to

pub hear_refused : (p : ProfileView) (a b : WorldParts) (w : World) (k m : ℕ) (e : Fault StepFault) → StandsFor (shown_by p a) w → k < length a.clients.items → FrameFor p a.pool k m (Err e) → b ≡ a
    → Happens (shown_by p a) (step.Hear k m) w (Err e) (shown_after p b (Err e))
hear_refused p a b w k m (Refused (NoClient n)) st lt h same = absurd h
hear_refused p a b w k m (Refused (NoPacket n)) st lt h same =
    let cl : k < length w.clients = subst (λ (n : ℕ). k < n) (sym (ap length st.clients)) lt in
    let far : length w.pool ≤ m = subst (λ (n : ℕ). n ≤ m) (sent_length p a.pool w.pool st.pool) h.1 in
    (far_packet packet_size w (step.Hear k m) m (there NoClient (length w.clients) k cl) refl far ∙ ap (λ (n : ℕ). Some (NoPacket n)) (sym h.0), ap (shown_by p) same)
hear_refused p a b w k m (Refused (WrongEnd n)) st lt h same =
    let cl : k < length w.clients = subst (λ (n : ℕ). k < n) (sym (ap length st.clients)) lt in
    let g = sent_get p a.pool w.pool st.pool m h.1.sent h.1.there in
    let to : is_for k (slice_get w.pool m) ≡ false = ap (is_for k) g.1 ∙ not_for p k h.1.sent g.0 h.1.to g.2 in (
      wrong_packet packet_size w (step.Hear k m) (WrongEnd m) (there NoClient (length w.clients) k cl) (there NoPacket (length w.pool) m (slice_get_within w.pool m g.0 g.1)) (ap (λ (t : Bool). wrong t m) to) ∙ ap (λ (n : ℕ). Some (WrongEnd n)) (sym h.0),
      ap (shown_by p) same,
    )
hear_refused p a b w k m (Refused (PoolFull n)) st lt h same = absurd h
hear_refused p a b w k m Memory st lt h same = refl
