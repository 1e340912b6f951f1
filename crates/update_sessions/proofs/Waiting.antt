-- A conversation never waits: no number is asked more often than it and replies to it are on their way.
use Rattle.std.proofs.Common.{◌≡◌, ◌≢◌, ◌⊎◌, inl, inr, ℕ, ◌+◌, ◌≤◌, List, [], ◌∷◌, ◌++◌, Bool, true, false, eqb, None, Result, Ok, Err, refl, sym, ap, subst, arith}
use Rattle.std.proofs.lemmas.Bool.Decides.{nat_tests}
use Rattle.box_events.specs.declared.replies.Frame.{Frame}
use Rattle.box_events.specs.declared.replies.Frame.TheVariants.{Push as PushFrame, Reply}
use Rattle.box_events.specs.declared.requests.Numbered.{Numbered}
use Rattle.box_events.specs.declared.requests.Request.{Request}
use Rattle.box_events.specs.declared.requests.Request.TheVariants as request
use Rattle.box_server.specs.Receiving.{post_answer}
use Rattle.box_server.specs.Servers.{ServerState}
use Rattle.box_server.specs.declared.fault.PostFault.{PostFault}
use Rattle.box_server.specs.declared.posted.Posted.{Posted}
use Rattle.box_client.specs.Asking.{is_one_asking, ticks, wakes}
use Rattle.box_client.specs.Pushes.{pushed}
use Rattle.box_client.specs.Replies.{Outcome, becomes, ignored, refuses, replied}
use Rattle.box_client.specs.States.{ClientState}
use Rattle.box_world.specs.Worlds.{after_reply}
use Rattle.update_sessions.specs.Hearing.{IsTaken, cause_in, hears}
use Rattle.update_sessions.specs.Serving.{posted_frames, sent_for}
use Rattle.update_sessions.specs.Waiting.{Conversation, IsCalled, IsReplied, NeverBothWait, Reaches, RequestsAreNeverLost, Turn, client_takes, opening, server_takes}
use Rattle.update_sessions.proofs.OpenNumbers.{IsRefused, among, among_both, asked_counts, asks_of, free_client, one, pushed_counts, replied_counts, ticks_counts, waits_number, woken_counts}

-- how many of these frames reply to a number
abbrev replies_to : ℕ → List Frame → ℕ
replies_to n [] = 0
replies_to n (PushFrame p ∷ fs) = replies_to n fs
replies_to n (Reply m r ∷ fs) = one (eqb m n) + replies_to n fs

replies_both : (n : ℕ) (xs ys : List Frame) → replies_to n (xs ++ ys) ≡ replies_to n xs + replies_to n ys
replies_both n [] ys = omega arith
replies_both n (PushFrame p ∷ xs) ys = replies_both n xs ys
replies_both n (Reply m r ∷ xs) ys = let rest = replies_both n xs ys in omega (arith, rest)

-- each call is replied to
posted_replies : (n m : ℕ) (o : Result Posted PostFault) → one (eqb m n) ≤ replies_to n (posted_frames m o)
posted_replies n m (Ok p) = omega arith
posted_replies n m (Err fault) = omega arith

sent_replies : (n : ℕ) (s : ServerState) (m : ℕ) (r : Request) → one (eqb m n) ≤ replies_to n (sent_for s m r)
sent_replies n s m request.State = omega arith
sent_replies n s m (request.Difference pts qts date) = omega arith
sent_replies n s m (request.Channel id pts) = omega arith
sent_replies n s m (request.Post random_id posts) = posted_replies n m (post_answer s random_id posts)

-- ---- through a conversation

-- no number is asked more often than that
abbrev Covers : Conversation → Type 0
Covers v = (n : ℕ) → asks_of n v.client ≤ among n v.calls + replies_to n v.frames

opening_covers : (c : ClientState) (s : ServerState) → is_one_asking c ≡ false → Covers (opening c s)
opening_covers c s calm n =
    let up = ticks_counts n (wakes c) in
    let none = free_client n c calm in
    let woken_none = woken_counts n c.channels in
    omega (arith, up, none, woken_none)

unrefused : (o : Outcome) → cause_in o ≡ None → IsRefused o → ⊥
unrefused ignored e h = h
unrefused (refuses cause) e h = cc
unrefused (becomes d) e h = h

module _ (v : Conversation) (covers : Covers v) where
  call_covers : (q : Numbered) (qs : List Numbered) (n : ℕ) → v.calls ≡ q ∷ qs → asks_of n v.client ≤ among n qs + replies_to n (v.frames ++ sent_for v.server q.number q.request)
  call_covers q qs n e =
      let now = covers n in
      let own = ap (among n) e in
      let both = replies_both n v.frames (sent_for v.server q.number q.request) in
      let reply = sent_replies n v.server q.number q.request in
      omega (arith, now, own, both, reply)

  frame_covers : (f : Frame) (fs : List Frame) (n : ℕ) → v.frames ≡ f ∷ fs → IsTaken v.client f → asks_of n (ticks (hears v.client f)).client ≤ among n (v.calls ++ (ticks (hears v.client f)).asks) + replies_to n fs
  frame_covers (PushFrame p) fs n e taken =
      let now = covers n in
      let own = ap (replies_to n) e in
      let up = ticks_counts n (pushed v.client p) in
      let stay = pushed_counts n v.client p in
      let both = among_both n v.calls (ticks (pushed v.client p)).asks in
      omega (arith, now, own, up, stay, both)
  frame_covers (Reply m r) fs n e taken =
      let now = covers n in
      let own = ap (replies_to n) e in
      let d : ClientState = after_reply v.client (replied v.client m r) in
      let up = ticks_counts n d in
      let dropped = replied_counts m n (among n v.calls + replies_to n fs) v.client r (unrefused (replied v.client m r) taken.clear) (omega (arith, now, own)) in
      let both = among_both n v.calls (ticks d).asks in
      omega (arith, up, dropped, both)

  turn_covers : (w : Conversation) → Turn v w → Covers w
  turn_covers w (server_takes q qs e is) = subst Covers (sym is) (λ n. call_covers q qs n e)
  turn_covers w (client_takes f fs e taken is) = subst Covers (sym is) (λ n. frame_covers f fs n e taken)

reached_covers : (v : Conversation) (passed : List Conversation) (w : Conversation) → Covers v → Reaches v passed w → Covers w
reached_covers v [] w covers is = subst Covers (sym is) covers
reached_covers v (x ∷ xs) w covers (turn, rest) = reached_covers x xs w (turn_covers v covers x turn) rest

-- ---- what that says

called_by : (n m : ℕ) (b : Bool) (k : ℕ) (A B : Type 0) → eqb m n ≡ b → 1 ≤ one b + k → (1 ≤ k → A ⊎ B) → ((m ≡ n) ⊎ A) ⊎ B
called_by n m true k A B e le rest = inl (inl (grind (arith, nat_tests)))
called_by n m false k A B e le rest = elim (rest (omega (arith, le))) [ inl a ↦ inl (inr a) | inr b ↦ inr b ]

replied_by : (n m : ℕ) (b : Bool) (k : ℕ) (A : Type 0) → eqb m n ≡ b → 1 ≤ one b + k → (1 ≤ k → A) → (m ≡ n) ⊎ A
replied_by n m true k A e le rest = inl (grind (arith, nat_tests))
replied_by n m false k A e le rest = inr (rest (omega (arith, le)))

is_replied : (n : ℕ) (fs : List Frame) → 1 ≤ replies_to n fs → IsReplied n fs
is_replied n [] le = absurd (omega (arith, le))
is_replied n (PushFrame p ∷ fs) le = is_replied n fs le
is_replied n (Reply m r ∷ fs) le = replied_by n m (eqb m n) (replies_to n fs) (IsReplied n fs) refl le (is_replied n fs)

is_on_its_way : (n : ℕ) (qs : List Numbered) (fs : List Frame) → 1 ≤ among n qs + replies_to n fs → IsCalled n qs ⊎ IsReplied n fs
is_on_its_way n [] fs le = inr (is_replied n fs (omega (arith, le)))
is_on_its_way n (q ∷ qs) fs le = called_by n q.number (eqb q.number n) (among n qs + replies_to n fs) (IsCalled n qs) (IsReplied n fs) refl (omega (arith, le)) (is_on_its_way n qs fs)

pub requests_are_never_lost : RequestsAreNeverLost
requests_are_never_lost c s passed v calm reaches n r is =
    let covers = reached_covers (opening c s) passed v (opening_covers c s calm) reaches n in
    let some = asked_counts v.client n r is in
    is_on_its_way n v.calls v.frames (omega (arith, covers, some))

message_by : (n : ℕ) (qs : List Numbered) (fs : List Frame) → 1 ≤ among n qs + replies_to n fs → (qs ≢ []) ⊎ (fs ≢ [])
message_by n [] [] le = absurd (omega (arith, le))
message_by n [] (f ∷ fs) le = inr (λ e. cc)
message_by n (q ∷ qs) fs le = inl (λ e. cc)

pub never_both_wait : NeverBothWait
never_both_wait c s passed v calm reaches asks =
    let some = waits_number v.client asks in
    let covers = reached_covers (opening c s) passed v (opening_covers c s calm) reaches some.0 in
    message_by some.0 v.calls v.frames (omega (arith, covers, some.1))
