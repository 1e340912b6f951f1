-- The server answers the request of a packet, and warns.
use Rattle.std.proofs.Common.{◌≡◌, ℕ, ◌≤◌, ℤ, pos, List, [], ◌∷◌, ◌++◌, length, Option, Some, Ok, Err, true, false, refl, sym, ap, ◌∙◌, subst, arith}
use Rattle.std.specs.Prelude.{slice_get}
use Rattle.std.proofs.lemmas.Option.{slice_get_within}
use Rattle.box_events.specs.declared.limits.TheConstants.{MAX_FRAME_BYTES}
use Rattle.box_events.specs.declared.requests.Numbered.{Numbered}
use Rattle.box_events.specs.declared.replies.Frame.TheVariants.{Push, Reply}
use Rattle.box_events.specs.declared.replies.Reply.{Reply as SomeReply}
use Rattle.box_events.specs.declared.steps.Step.TheVariants as step
use Rattle.box_events.specs.declared.updates.Push.{Push as SomePush}
use Rattle.box_events.specs.declared.updates.Push.TheVariants.{Container, TooLong}
use Rattle.box_events.specs.declared.updates.Update.{Update}
use Rattle.box_events.specs.declared.updates.Update.TheVariants.{ChannelTooLong}
use Rattle.box_server.specs.Answers.{answer, IsAnswered}
use Rattle.box_server.specs.Servers.{ServerState}
use Rattle.box_server.specs.Sound.{IsSound}
use Rattle.wire_forms.specs.Parts.{number}
use Rattle.wire_forms.specs.declared.numbers.TheConstants.{INVOKE}
use Rattle.wire_forms.proofs.Words.{again}
use Rattle.wire_profile.specs.Indexes.{ProfileView}
use Rattle.wire_values.specs.Calls.{call_tree}
use Rattle.wire_profile.specs.declared.rule.Root.TheVariants.{Call}
use Rattle.wire_profile.specs.declared.rule.Rule.TheVariants.{Number}
use Rattle.wire_profile.proofs.ClearValues.{call_here}
use Rattle.wire_profile.proofs.RuleFacts.{clear_of_call, number_is}
use Rattle.tl_types.specs.Values.{ValueViews, values_of}
use Rattle.wire_values.specs.Calls.{request_tree}
use Rattle.box_world.specs.Worlds.{Packet, push, request, reply, World, served, channel_too_long, run}
use Rattle.box_world.specs.declared.fault.StepFault.TheVariants.{NoPacket, WrongEnd}
use Rattle.box_world.specs.Possible.{is_served, wrong}
use Rattle.box_world.specs.Sizes.{frame_size}
use Rattle.box_world.specs.Fitting.{CallFits, FrameFits, IsNumber}
use Rattle.box_world.proofs.AnswersFit.{answers_fit}
use Rattle.box_world.proofs.AnswersBelow.{answers_below}
use Rattle.box_world.proofs.PushesBelow.{warnings_below}
use Rattle.box_world.proofs.PushesFit.{warnings_fit}
use Rattle.box_world.specs.declared.fault.StepFault.{StepFault}
use Rattle.tl_base.specs.declared.fault.Fault.{Fault}
use Rattle.box_world.specs.declared.fault.StepFault.TheVariants.{NoClient, NoPacket, WrongEnd, PoolFull}
use Rattle.tl_base.specs.declared.fault.Fault.TheVariants.{Refused, Memory}
use Rattle.update_world.specs.declared.outcome.Outcome.TheVariants as outcome
use Rattle.update_world.specs.declared.parts.WorldParts.{WorldParts}
use Rattle.update_world.specs.declared.reading.Asked.{Asked}
use Rattle.update_world.specs.declared.sent.SentPacket.{SentPacket}
use Rattle.update_world.specs.declared.sent.End.TheVariants.{Clients, Server, Client}
use Rattle.update_world.specs.Outcomes.{outcome_of}
use Rattle.update_world.specs.Shown.{StandsFor}
use Rattle.update_world.specs.Spelled.{AreSent, IsSent, packet_size}
use Rattle.update_world.specs.Stepping.{Happens}
use Rattle.update_world.specs.inner.Making.{IsSteady, shown_after, shown_by}
use Rattle.update_world.specs.inner.Reading.{AsksFrom, HasCallFrom, is_request}
use Rattle.update_world.specs.inner.Sending.{SendsFrame}
use Rattle.update_world.proofs.Refusals.{Reaches, far_packet, there, wrong_packet}
use Rattle.update_world.proofs.Runs.{is_answered}
use Rattle.update_world.proofs.Sendings.{Brings, frame_done, frame_unsent}
use Rattle.update_world.proofs.SentLists.{sent_get, sent_length}

-- ---- which request it is

-- a packet that goes to the server is a request of that client
of_server : (p : ProfileView) (s : SentPacket) (x : Packet) (k : ℕ) → s.to ≡ Server k → IsSent p s x → (n : Numbered) × (x ≡ request k n)
of_server p s (push q) k to is = let other = is.to in cc
of_server p s (request j n) k to is = let other = is.to in (n, cc)
of_server p s (reply j n r t) k to is = let other = is.to in cc

pub call_is : (p : ProfileView) (a : WorldParts) (w : World) (m : ℕ) (x : Asked) → AreSent p a.pool w.pool → HasCallFrom p a.pool m x → (slice_get w.pool m ≡ Some (request x.from x.call)) × CallFits x.call
call_is p a w m x sent h =
    let g = sent_get p a.pool w.pool sent m h.sent h.there in
    let r = of_server p h.sent g.0 x.from h.to g.2 in
    let is : IsSent p h.sent (request x.from r.0) = subst (λ (y : Packet). IsSent p h.sent y) r.1 g.2 in
    let same : x.call ≡ r.0 = h.only r.0 (record { fits = is.read; spelled = is.bytes }) in
    (g.1 ∙ ap (λ (y : Packet). Some y) r.1 ∙ ap (λ (n : Numbered). Some (request x.from n)) (sym same), subst CallFits (sym same) is.read)

-- it is one that the server answers, under a number from 1
pub call_answered : (p : ProfileView) (a : WorldParts) (m : ℕ) (x : Asked) → IsSteady (shown_by p a) → HasCallFrom p a.pool m x → IsAnswered x.call.request
call_answered p a m x steady h =
    let n : ℕ = length a.clients.items in
    is_answered n steady.run.steps m x.from x.call (call_is p a (run n steady.run.steps) m x steady.run.stands.pool h).0

numbered : (n : Numbered) → CallFits n → IsNumber n.number
numbered n fits =
    let vs : ValueViews = values_of (number n.number ∷ request_tree n.request ∷ []) in
    let low = number_is 1 (number n.number) (call_here Call INVOKE vs (clear_of_call (call_tree n) fits).1 Number refl) in
    let same = again n.number in
    (omega (arith, low.0, same), omega (arith, low.1, same))

-- ---- the step

reaches_call : (w : World) (m k : ℕ) (n : Numbered) → slice_get w.pool m ≡ Some (request k n) → Reaches w (step.Serve m)
reaches_call w m k n at = record {
  client = refl;
  packet = there NoPacket (length w.pool) m (slice_get_within w.pool m (request k n) at);
  right = ap (λ (o : Option Packet). wrong (is_served o) m) at;
}

reply_brings : (w : World) (m k : ℕ) (n : Numbered) (r : SomeReply) → IsSound w.server → IsAnswered n.request → CallFits n → slice_get w.pool m ≡ Some (request k n) → r ≡ answer w.server n.request
    → Brings w (step.Serve m) (Reply n.number r) (Client k) (reply k n.number r w.server)
reply_brings w m k n r sound answered fits at is = record {
  reaches = reaches_call w m k n at;
  frame = record { ends = λ b. refl; spelled = λ p b framed. framed; read = subst (λ (x : SomeReply). FrameFits (Reply n.number x)) (sym is) (answers_fit w.server n.number n.request sound (numbered n fits) answered) };
  pool = ap (λ (o : Option Packet). (served w o).pool) at ∙ ap (λ (x : SomeReply). w.pool ++ reply k n.number x w.server ∷ []) (sym is);
}

pub reply_short : (s : ServerState) (n : ℕ) (x : Asked) (r : SomeReply) → IsSound s → r ≡ answer s x.call.request → frame_size (Reply n r) ≤ MAX_FRAME_BYTES
reply_short s n x r sound is = subst (λ (y : SomeReply). frame_size (Reply n y) ≤ MAX_FRAME_BYTES) (sym is) (answers_below s n x.call.request sound).limit

to_world : (a : WorldParts) (w : World) (x : Asked) (r : SomeReply) → w.server ≡ a.server → r ≡ answer a.server x.call.request → r ≡ answer w.server x.call.request
to_world a w x r same is = is ∙ ap (λ (s : ServerState). answer s x.call.request) (sym same)

pub serve_unsent : (p : ProfileView) (a b : WorldParts) (w : World) (m : ℕ) (x : Asked) (r : SomeReply) (new : List SentPacket) (e : Fault StepFault) → IsSteady (shown_by p a) → StandsFor (shown_by p a) w → HasCallFrom p a.pool m x
    → r ≡ answer a.server x.call.request → SendsFrame p (Reply x.call.number r) (Client x.from) a.pool (Err e) new → Happens (shown_by p a) (step.Serve m) w (Err e) (shown_after p b (Err e))
serve_unsent p a b w m x r new e steady st h is sends =
    let here = call_is p a w m x st.pool h in
    frame_unsent p steady.profile a b (step.Serve m) w (Reply x.call.number r) (Client x.from) (reply x.from x.call.number r w.server) new e st
    (reply_brings w m x.from x.call r (subst IsSound (sym st.server) steady.sound) (call_answered p a m x steady h) here.1 here.0 (to_world a w x r st.server is)) sends

pub serve_done : (p : ProfileView) (a b : WorldParts) (w : World) (m n : ℕ) (x : Asked) (r : SomeReply) → IsSteady (shown_by p a) → StandsFor (shown_by p a) w → HasCallFrom p a.pool m x
    → r ≡ answer a.server x.call.request → SendsFrame p (Reply x.call.number r) (Client x.from) a.pool (Ok n) b.pool → b.server ≡ a.server → b.clients.items ≡ a.clients.items
    → Happens (shown_by p a) (step.Serve m) w (Ok (outcome.Served n)) (shown_after p b (Ok (outcome.Served n)))
unfolding outcome_of
serve_done p a b w m n x r steady st h is sends server clients =
    let here = call_is p a w m x st.pool h in
    frame_done p steady.profile a b (step.Serve m) w (Reply x.call.number r) (Client x.from) (reply x.from x.call.number r w.server) n (outcome.Served n) st
    (reply_brings w m x.from x.call r (subst IsSound (sym st.server) steady.sound) (call_answered p a m x steady h) here.1 here.0 (to_world a w x r st.server is)) sends
    (ap (λ (o : Option Packet). (served w o).server) here.0 ∙ st.server ∙ sym server)
    (ap (λ (o : Option Packet). (served w o).clients) here.0 ∙ st.clients ∙ sym clients)
    (ap outcome.Served)

-- ---- refusals

-- a packet that goes to a client isn't served
not_served : (p : ProfileView) (s : SentPacket) (x : Packet) → is_request s.to ≡ false → IsSent p s x → is_served (Some x) ≡ false
not_served p s (push q) to is = refl
not_served p s (request j n) to is = sym (ap is_request is.to) ∙ to
not_served p s (reply j n r t) to is = refl

pub serve_refused : (p : ProfileView) (a b : WorldParts) (w : World) (m : ℕ) (e : Fault StepFault) → StandsFor (shown_by p a) w → AsksFrom p a.pool m (Err e) → b ≡ a
    → Happens (shown_by p a) (step.Serve m) w (Err e) (shown_after p b (Err e))
serve_refused p a b w m (Refused (NoClient n)) st h same = absurd h
serve_refused p a b w m (Refused (NoPacket n)) st h same =
    let far : length w.pool ≤ m = subst (λ (k : ℕ). k ≤ m) (sent_length p a.pool w.pool st.pool) h.1 in
    (far_packet packet_size w (step.Serve m) m refl refl far ∙ ap (λ (k : ℕ). Some (NoPacket k)) (sym h.0), ap (shown_by p) same)
serve_refused p a b w m (Refused (WrongEnd n)) st h same =
    let g = sent_get p a.pool w.pool st.pool m h.1.sent h.1.there in
    let to : is_served (slice_get w.pool m) ≡ false = ap is_served g.1 ∙ not_served p h.1.sent g.0 h.1.to g.2 in (
      wrong_packet packet_size w (step.Serve m) (WrongEnd m) refl (there NoPacket (length w.pool) m (slice_get_within w.pool m g.0 g.1)) (ap (λ b. wrong b m) to) ∙ ap (λ (k : ℕ). Some (WrongEnd k)) (sym h.0),
      ap (shown_by p) same,
    )
serve_refused p a b w m (Refused (PoolFull n)) st h same = absurd h
serve_refused p a b w m Memory st h same = refl

-- ---- warnings

warning_brings : (w : World) → Brings w step.TooLong (Push TooLong) Clients (push TooLong)
warning_brings w = record {
  reaches = record { client = refl; packet = refl; right = refl };
  frame = record { ends = λ b. refl; spelled = λ p b framed. framed; read = (warnings_fit (pos 0) 0 (omega arith)).0 };
  pool = refl;
}

pub warning_unsent : (p : ProfileView) (a b : WorldParts) (w : World) (new : List SentPacket) (e : Fault StepFault) → IsSteady (shown_by p a) → StandsFor (shown_by p a) w → SendsFrame p (Push TooLong) Clients a.pool (Err e) new
    → Happens (shown_by p a) step.TooLong w (Err e) (shown_after p b (Err e))
warning_unsent p a b w new e steady st sends = frame_unsent p steady.profile a b step.TooLong w (Push TooLong) Clients (push TooLong) new e st (warning_brings w) sends

pub warning_done : (p : ProfileView) (a b : WorldParts) (w : World) (n : ℕ) → IsSteady (shown_by p a) → StandsFor (shown_by p a) w → SendsFrame p (Push TooLong) Clients a.pool (Ok n) b.pool → b.server ≡ a.server
    → b.clients.items ≡ a.clients.items → Happens (shown_by p a) step.TooLong w (Ok (outcome.Pushed n false)) (shown_after p b (Ok (outcome.Pushed n false)))
unfolding outcome_of
warning_done p a b w n steady st sends server clients =
    frame_done p steady.profile a b step.TooLong w (Push TooLong) Clients (push TooLong) n (outcome.Pushed n false) st (warning_brings w) sends (st.server ∙ sym server) (st.clients ∙ sym clients) (ap (λ (k : ℕ). outcome.Pushed k false))

channel_brings : (w : World) (id : ℤ) (q : SomePush) → IsSound w.server → q ≡ channel_too_long w.server id → Brings w (step.ChannelTooLong id) (Push q) Clients (push q)
channel_brings w id q sound is = record {
  reaches = record { client = refl; packet = refl; right = refl };
  frame = record { ends = λ b. refl; spelled = λ p b framed. framed; read = subst (λ (x : SomePush). FrameFits (Push x)) (sym is) (warnings_fit id w.server.date sound.date).1 };
  pool = ap (λ (x : SomePush). w.pool ++ push x ∷ []) (sym is);
}

at_world : (a : WorldParts) (w : World) (id : ℤ) (q : SomePush) → w.server ≡ a.server → q ≡ channel_too_long a.server id → q ≡ channel_too_long w.server id
at_world a w id q same is = is ∙ ap (λ (s : ServerState). channel_too_long s id) (sym same)

pub channel_unsent : (p : ProfileView) (a b : WorldParts) (w : World) (id : ℤ) (q : SomePush) (new : List SentPacket) (e : Fault StepFault) → IsSteady (shown_by p a) → StandsFor (shown_by p a) w → q ≡ channel_too_long a.server id
    → SendsFrame p (Push q) Clients a.pool (Err e) new → Happens (shown_by p a) (step.ChannelTooLong id) w (Err e) (shown_after p b (Err e))
channel_unsent p a b w id q new e steady st is sends =
    frame_unsent p steady.profile a b (step.ChannelTooLong id) w (Push q) Clients (push q) new e st (channel_brings w id q (subst IsSound (sym st.server) steady.sound) (at_world a w id q st.server is)) sends

pub channel_done : (p : ProfileView) (a b : WorldParts) (w : World) (id : ℤ) (q : SomePush) (n : ℕ) → IsSteady (shown_by p a) → StandsFor (shown_by p a) w → q ≡ channel_too_long a.server id
    → SendsFrame p (Push q) Clients a.pool (Ok n) b.pool → b.server ≡ a.server → b.clients.items ≡ a.clients.items
    → Happens (shown_by p a) (step.ChannelTooLong id) w (Ok (outcome.Pushed n true)) (shown_after p b (Ok (outcome.Pushed n true)))
unfolding outcome_of
channel_done p a b w id q n steady st is sends server clients =
    frame_done p steady.profile a b (step.ChannelTooLong id) w (Push q) Clients (push q) n (outcome.Pushed n true) st (channel_brings w id q (subst IsSound (sym st.server) steady.sound) (at_world a w id q st.server is)) sends
    (st.server ∙ sym server) (st.clients ∙ sym clients) (ap (λ (k : ℕ). outcome.Pushed k true))

pub channel_short : (s : ServerState) (id : ℤ) (q : SomePush) → q ≡ channel_too_long s id → frame_size (Push q) ≤ MAX_FRAME_BYTES
channel_short s id q is = subst (λ (x : SomePush). frame_size (Push x) ≤ MAX_FRAME_BYTES) (sym is) (let size = (warnings_below id s.date).1 in omega (arith, size))

-- the push that is put together is that one
pub container_is : (s : ServerState) (id z : ℤ) (old us : List Update) (date : ℕ) → old ≡ [] → us ≡ old ++ ChannelTooLong z ∷ [] → z ≡ id → date ≡ s.date → Container us date 0 0 ≡ channel_too_long s id
container_is s id z old us date none is same at =
    let list : us ≡ ChannelTooLong id ∷ [] = is ∙ ap (λ (l : List Update). l ++ ChannelTooLong z ∷ []) none ∙ ap (λ (y : ℤ). ChannelTooLong y ∷ []) same in
    λ i. Container (list i) (at i) 0 0
