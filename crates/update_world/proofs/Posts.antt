-- Posts that the server receives, and dates.
use Rattle.std.proofs.Common.{◌≡◌, ◌≢◌, inl, inr, ℕ, ℤ, ◌≤◌, List, [], ◌∷◌, ◌++◌, length, Option, Some, None, Result, Ok, Err, refl, sym, ap, ◌∙◌, subst}
use Rattle.std.proofs.lemmas.Option.{none-some, same_Some}
use Rattle.std.specs.FinMap as finite
use Rattle.box_events.specs.declared.limits.TheConstants.{MAX_FRAME_BYTES}
use Rattle.box_events.specs.declared.positions.Receipt.{Receipt}
use Rattle.box_events.specs.declared.positions.State.{State}
use Rattle.box_events.specs.declared.requests.Post.{Post}
use Rattle.box_events.specs.declared.replies.Frame.TheVariants.{Push}
use Rattle.box_events.specs.declared.steps.Step.{Step}
use Rattle.box_events.specs.declared.steps.Step.TheVariants as step
use Rattle.box_events.specs.declared.updates.Push.{Push as SomePush}
use Rattle.box_server.specs.declared.fault.PostFault.{PostFault}
use Rattle.box_server.specs.declared.fault.PostFault.TheVariants.{Memory as PostMemory}
use Rattle.box_server.specs.declared.posted.Posted.{Posted}
use Rattle.box_server.specs.Servers.{ServerState, state_of, dated_at}
use Rattle.box_server.specs.Sound.{IsSound}
use Rattle.box_server.specs.Posting.{posted, push_of}
use Rattle.box_server.specs.Receiving.{Receives, answer_by, state_by}
use Rattle.box_server.specs.Refusing.{post_cause}
use Rattle.wire_profile.specs.Indexes.{ProfileView}
use Rattle.wire_profile.specs.Profiles.{IsProfile}
use Rattle.box_world.specs.Worlds.{Packet, push, World, sent, post_by, happens}
use Rattle.box_world.specs.Fitting.{FrameFits}
use Rattle.box_world.specs.Sizes.{frame_size}
use Rattle.box_world.proofs.PushesBelow.{pushes_below}
use Rattle.box_world.proofs.PushesFit.{pushes_fit}
use Rattle.box_world.specs.declared.fault.StepFault.{StepFault}
use Rattle.tl_base.specs.declared.fault.Fault.{Fault}
use Rattle.update_world.specs.declared.limits.TheConstants.{MAX_POOL_BYTES}
use Rattle.update_world.specs.declared.outcome.Outcome.{Outcome}
use Rattle.update_world.specs.declared.outcome.Outcome.TheVariants as outcome
use Rattle.update_world.specs.declared.parts.WorldParts.{WorldParts}
use Rattle.update_world.specs.declared.sent.SentPacket.{SentPacket}
use Rattle.update_world.specs.declared.sent.End.TheVariants.{Clients}
use Rattle.update_world.specs.Outcomes.{outcome_of, post_outcome}
use Rattle.update_world.specs.Shown.{StandsFor, bytes_of}
use Rattle.update_world.specs.Spelled.{AreSent}
use Rattle.update_world.specs.Stepping.{Happens}
use Rattle.update_world.specs.inner.Making.{shown_after, shown_by}
use Rattle.update_world.specs.inner.Sending.{SendsFrame}
use Rattle.update_world.proofs.Exits.{done}
use Rattle.update_world.proofs.Refusals.{Reaches}
use Rattle.update_world.proofs.Sendings.{Brings, frame_done, frame_unsent}

-- ---- what the server's answer tells

pub record IsNew (s : ServerState) (random_id : ℤ) (ps : List Post) (q : SomePush) (t : ServerState) : Type 0 where
  pub fresh : finite.get s.receipts random_id ≡ None
  pub clear : post_cause s ps ≡ None
  pub push : q ≡ push_of s ps
  pub server : t ≡ posted s random_id ps

abbrev push_in : Result Posted PostFault → Option SomePush
push_in (Ok a) = a.push
push_in (Err fault) = None

new_by : (s : ServerState) (random_id : ℤ) (ps : List Post) (o : Option Receipt) (cause : Option PostFault) (r : Receipt) (q : SomePush)
    → ◌≡◌ {A = Result Posted PostFault} (Ok (record { receipt = r; push = Some q })) (answer_by s random_id ps o cause) → (o ≡ None) × (cause ≡ None) × (q ≡ push_of s ps)
new_by s random_id ps (Some receipt) cause r q e = absurd (none-some q (sym (ap push_in e)))
new_by s random_id ps None (Some cause) r q e = absurd (none-some q (sym (ap push_in e)))
new_by s random_id ps None None r q e = (refl, refl, same_Some q (push_of s ps) (ap push_in e))

pub new_post : (s : ServerState) (random_id : ℤ) (ps : List Post) (r : Receipt) (q : SomePush) (t : ServerState) → Receives s random_id ps (Ok (record { receipt = r; push = Some q })) t → IsNew s random_id ps q t
new_post s random_id ps r q t (inl h) = absurd (none-some q (sym (ap push_in h.0)))
new_post s random_id ps r q t (inr h) =
    let n = new_by s random_id ps (finite.get s.receipts random_id) (post_cause s ps) r q h.0 in
    record { fresh = n.0; clear = n.1; push = n.2; server = h.1 ∙ λ i. state_by s random_id ps (n.0 i) (n.1 i) }

-- known posts, and refused ones
pub record IsKnown (s : ServerState) (random_id : ℤ) (t : ServerState) : Type 0 where
  pub receipt : Receipt
  pub known : finite.get s.receipts random_id ≡ Some receipt
  pub server : t ≡ s

known_by : (s : ServerState) (random_id : ℤ) (ps : List Post) (o : Option Receipt) (cause : Option PostFault) (r : Receipt)
    → ◌≡◌ {A = Result Posted PostFault} (Ok (record { receipt = r; push = None })) (answer_by s random_id ps o cause) → (x : Receipt) × (o ≡ Some x)
known_by s random_id ps (Some receipt) cause r e = (receipt, refl)
known_by s random_id ps None (Some cause) r e = cc
known_by s random_id ps None None r e = absurd (none-some (push_of s ps) (ap push_in e))

pub known_post : (s : ServerState) (random_id : ℤ) (ps : List Post) (r : Receipt) (t : ServerState) → Receives s random_id ps (Ok (record { receipt = r; push = None })) t → IsKnown s random_id t
known_post s random_id ps r t (inl h) = cc
known_post s random_id ps r t (inr h) =
    let n = known_by s random_id ps (finite.get s.receipts random_id) (post_cause s ps) r h.0 in
    record { receipt = n.0; known = n.1; server = h.1 ∙ ap (λ (o : Option Receipt). state_by s random_id ps o (post_cause s ps)) n.1 }

pub record IsRefused (s : ServerState) (random_id : ℤ) (ps : List Post) (fault : PostFault) (t : ServerState) : Type 0 where
  pub fresh : finite.get s.receipts random_id ≡ None
  pub cause : post_cause s ps ≡ Some fault
  pub server : t ≡ s

refused_by : (s : ServerState) (random_id : ℤ) (ps : List Post) (o : Option Receipt) (cause : Option PostFault) (f : PostFault) → ◌≡◌ {A = Result Posted PostFault} (Err f) (answer_by s random_id ps o cause) → (o ≡ None) × (cause ≡ Some f)
refused_by s random_id ps (Some receipt) cause f e = cc
refused_by s random_id ps None (Some cause) f e = (refl, cc)
refused_by s random_id ps None None f e = cc

pub refused_post : (s : ServerState) (random_id : ℤ) (ps : List Post) (f : PostFault) (t : ServerState) → f ≢ PostMemory → Receives s random_id ps (Err f) t → IsRefused s random_id ps f t
refused_post s random_id ps f t not (inl h) = absurd (not cc)
refused_post s random_id ps f t not (inr h) =
    let n = refused_by s random_id ps (finite.get s.receipts random_id) (post_cause s ps) f h.0 in
    record { fresh = n.0; cause = n.1; server = h.1 ∙ λ i. state_by s random_id ps (n.0 i) (n.1 i) }

-- by what is answered
pub new_of : (s : ServerState) (random_id : ℤ) (ps : List Post) (x : Posted) (q : SomePush) (t : ServerState) → Receives s random_id ps (Ok x) t → x.push ≡ Some q → IsNew s random_id ps q t
new_of s random_id ps x q t h is = new_post s random_id ps x.receipt q t (subst (λ (o : Option SomePush). Receives s random_id ps (Ok (record { receipt = x.receipt; push = o })) t) is h)

pub known_of : (s : ServerState) (random_id : ℤ) (ps : List Post) (x : Posted) (t : ServerState) → Receives s random_id ps (Ok x) t → x.push ≡ None → IsKnown s random_id t
known_of s random_id ps x t h is = known_post s random_id ps x.receipt t (subst (λ (o : Option SomePush). Receives s random_id ps (Ok (record { receipt = x.receipt; push = o })) t) is h)

-- of the same id and posts
pub same_call : (s : ServerState) (a b : ℤ) (ps qs : List Post) (r : Result Posted PostFault) (t : ServerState) → a ≡ b → ps ≡ qs → Receives s a ps r t → Receives s b qs r t
same_call s a b ps qs r t id posts h = subst (λ (l : List Post). Receives s b l r t) posts (subst (λ (z : ℤ). Receives s z ps r t) id h)

-- what is pushed isn't too long
pub push_short : (s : ServerState) (random_id : ℤ) (ps : List Post) (q : SomePush) (t : ServerState) → IsSound s → IsNew s random_id ps q t → frame_size (Push q) ≤ MAX_FRAME_BYTES
push_short s random_id ps q t sound n = subst (λ (x : SomePush). frame_size (Push x) ≤ MAX_FRAME_BYTES) (sym n.push) (pushes_below s ps sound n.clear).limit

-- ---- steps

-- every step that names no client and no packet reaches what it names
pub free : (w : World) (random_id : ℤ) (ps : List Post) → Reaches w (step.Post random_id ps)
free w random_id ps = record { client = refl; packet = refl; right = refl }

new_happens : (w : World) (random_id : ℤ) (ps : List Post) (q : SomePush) (t : ServerState) → IsNew w.server random_id ps q t
    → happens w (step.Post random_id ps) ≡ sent (record w { server = posted w.server random_id ps }) (push (push_of w.server ps))
new_happens w random_id ps q t n = λ i. post_by w random_id ps (n.fresh i) (n.clear i)

new_brings : (w : World) (random_id : ℤ) (ps : List Post) (q : SomePush) (t : ServerState) → IsSound w.server → IsNew w.server random_id ps q t → Brings w (step.Post random_id ps) (Push q) Clients (push q)
new_brings w random_id ps q t sound n = record {
  reaches = free w random_id ps;
  frame = record { ends = λ b. refl; spelled = λ p b framed. framed; read = subst (λ (x : SomePush). FrameFits (Push x)) (sym n.push) (pushes_fit w.server ps sound n.clear) };
  pool = ap (λ (v : World). v.pool) (new_happens w random_id ps q t n) ∙ ap (λ (x : SomePush). w.pool ++ push x ∷ []) (sym n.push);
}

new_outcome : (w : World) (random_id : ℤ) (ps : List Post) (q : SomePush) (t : ServerState) (n : ℕ) → IsNew w.server random_id ps q t → n ≡ length w.pool
    → outcome.Posted (state_of t) n ≡ outcome_of w (step.Post random_id ps)
unfolding outcome_of
new_outcome w random_id ps q t n new same =
    let told : outcome_of w (step.Post random_id ps) ≡ outcome.Posted (state_of (posted w.server random_id ps)) (length w.pool) = λ i. post_outcome w random_id ps (new.fresh i) (new.clear i) in
    (λ i. outcome.Posted (state_of (new.server i)) (same i)) ∙ sym told

-- The server takes a new post: its push is sent, or not.
to_world : (p : ProfileView) (a : WorldParts) (w : World) (random_id : ℤ) (ps : List Post) (q : SomePush) (t : ServerState) → StandsFor (shown_by p a) w → IsNew a.server random_id ps q t → IsNew w.server random_id ps q t
to_world p a w random_id ps q t st n = subst (λ (s : ServerState). IsNew s random_id ps q t) (sym st.server) n

pub post_unsent : (p : ProfileView) → IsProfile p → (a b : WorldParts) (w : World) (random_id : ℤ) (ps : List Post) (q : SomePush) (t : ServerState) (new : List SentPacket) (e : Fault StepFault) → IsSound a.server → StandsFor (shown_by p a) w
    → IsNew a.server random_id ps q t → SendsFrame p (Push q) Clients a.pool (Err e) new → Happens (shown_by p a) (step.Post random_id ps) w (Err e) (shown_after p b (Err e))
post_unsent p is a b w random_id ps q t new e sound st n sends =
    frame_unsent p is a b (step.Post random_id ps) w (Push q) Clients (push q) new e st (new_brings w random_id ps q t (subst IsSound (sym st.server) sound) (to_world p a w random_id ps q t st n)) sends

pub post_done : (p : ProfileView) → IsProfile p → (a b : WorldParts) (w : World) (random_id : ℤ) (ps : List Post) (q : SomePush) (state : State) (n : ℕ) → IsSound a.server → StandsFor (shown_by p a) w
    → IsNew a.server random_id ps q b.server → b.clients.items ≡ a.clients.items → SendsFrame p (Push q) Clients a.pool (Ok n) b.pool → state ≡ state_of b.server
    → Happens (shown_by p a) (step.Post random_id ps) w (Ok (outcome.Posted state n)) (shown_after p b (Ok (outcome.Posted state n)))
post_done p is a b w random_id ps q state n sound st new clients sends at =
    let here : IsNew w.server random_id ps q b.server = to_world p a w random_id ps q b.server st new in
    frame_done p is a b (step.Post random_id ps) w (Push q) Clients (push q) n (outcome.Posted state n) st (new_brings w random_id ps q b.server (subst IsSound (sym st.server) sound) here) sends
    (ap (λ (v : World). v.server) (new_happens w random_id ps q b.server here) ∙ sym here.server)
    (ap (λ (v : World). v.clients) (new_happens w random_id ps q b.server here) ∙ st.clients ∙ sym clients)
    (λ same. ap (λ (s : State). outcome.Posted s n) at ∙ new_outcome w random_id ps q b.server n here same)

-- A step that leaves the pool as it is.
pub stays : (p : ProfileView) → IsProfile p → (a b : WorldParts) (s : Step) (w : World) (o : Outcome) → Reaches w s → StandsFor (shown_by p a) w → bytes_of a.pool ≤ MAX_POOL_BYTES → (happens w s).pool ≡ w.pool → b.pool ≡ a.pool
    → (happens w s).server ≡ b.server → (happens w s).clients ≡ b.clients.items → o ≡ outcome_of w s → Happens (shown_by p a) s w (Ok o) (shown_after p b (Ok o))
stays p is a b s w o r st most pool same server clients told =
    done p is a b s w o r told
    (record { server = server; clients = clients; pool = subst (λ (ss : List SentPacket). AreSent p ss (happens w s).pool) (sym same) (subst (λ (ms : List Packet). AreSent p a.pool ms) (sym pool) st.pool) })
    (subst (λ (ss : List SentPacket). bytes_of ss ≤ MAX_POOL_BYTES) (sym same) most)

pub post_known : (p : ProfileView) → IsProfile p → (a b : WorldParts) (w : World) (random_id : ℤ) (ps : List Post) → StandsFor (shown_by p a) w → bytes_of a.pool ≤ MAX_POOL_BYTES → IsKnown a.server random_id b.server
    → b.clients.items ≡ a.clients.items → b.pool ≡ a.pool → Happens (shown_by p a) (step.Post random_id ps) w (Ok outcome.Again) (shown_after p b (Ok outcome.Again))
unfolding outcome_of
post_known p is a b w random_id ps st most known clients pool =
    let here : IsKnown w.server random_id b.server = subst (λ (s : ServerState). IsKnown s random_id b.server) (sym st.server) known in
    let same : happens w (step.Post random_id ps) ≡ w = ap (λ (o : Option Receipt). post_by w random_id ps o (post_cause w.server ps)) here.known in
    stays p is a b (step.Post random_id ps) w outcome.Again (free w random_id ps) st most (ap (λ (v : World). v.pool) same) pool
    (ap (λ (v : World). v.server) same ∙ sym here.server) (ap (λ (v : World). v.clients) same ∙ st.clients ∙ sym clients)
    (sym (ap (λ (o : Option Receipt). post_outcome w random_id ps o (post_cause w.server ps)) here.known))

pub post_refused : (p : ProfileView) → IsProfile p → (a b : WorldParts) (w : World) (random_id : ℤ) (ps : List Post) (f : PostFault) → StandsFor (shown_by p a) w → bytes_of a.pool ≤ MAX_POOL_BYTES
    → IsRefused a.server random_id ps f b.server → b.clients.items ≡ a.clients.items → b.pool ≡ a.pool
    → Happens (shown_by p a) (step.Post random_id ps) w (Ok (outcome.PostRefused f)) (shown_after p b (Ok (outcome.PostRefused f)))
unfolding outcome_of
post_refused p is a b w random_id ps f st most refused clients pool =
    let here : IsRefused w.server random_id ps f b.server = subst (λ (s : ServerState). IsRefused s random_id ps f b.server) (sym st.server) refused in
    let same : happens w (step.Post random_id ps) ≡ w = λ i. post_by w random_id ps (here.fresh i) (here.cause i) in
    stays p is a b (step.Post random_id ps) w (outcome.PostRefused f) (free w random_id ps) st most (ap (λ (v : World). v.pool) same) pool
    (ap (λ (v : World). v.server) same ∙ sym here.server) (ap (λ (v : World). v.clients) same ∙ st.clients ∙ sym clients)
    (sym (λ i. post_outcome w random_id ps (here.fresh i) (here.cause i)))

-- ---- dates

pub date_done : (p : ProfileView) → IsProfile p → (a b : WorldParts) (w : World) (date told : ℕ) → StandsFor (shown_by p a) w → bytes_of a.pool ≤ MAX_POOL_BYTES → b.server ≡ dated_at a.server date → b.clients.items ≡ a.clients.items
    → b.pool ≡ a.pool → told ≡ b.server.date → Happens (shown_by p a) (step.Date date) w (Ok (outcome.Date told)) (shown_after p b (Ok (outcome.Date told)))
unfolding outcome_of
date_done p is a b w date told st most server clients pool same =
    let now : dated_at w.server date ≡ b.server = ap (λ (s : ServerState). dated_at s date) st.server ∙ sym server in
    stays p is a b (step.Date date) w (outcome.Date told) (record { client = refl; packet = refl; right = refl }) st most refl pool now (st.clients ∙ sym clients)
    (ap outcome.Date (same ∙ ap (λ (s : ServerState). s.date) (sym now)))
