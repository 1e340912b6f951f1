-- What is sent for a call.
use Rattle.std.proofs.Common.{◌≡◌, ℕ, ℤ, pos, ◌≤◌, List, [], ◌∷◌, Option, Some, None, Result, Ok, Err, refl, sym, ap, ◌∙◌, subst, arith}
use Rattle.std.specs.Prelude.{IfSome}
use Rattle.std.specs.FinMap as map
use Rattle.box_events.specs.declared.limits.TheConstants.{MAX_FRAME_BYTES}
use Rattle.box_events.specs.declared.positions.Receipt.{Receipt}
use Rattle.box_events.specs.declared.replies.Frame.TheVariants.{Push as PushFrame, Reply}
use Rattle.box_events.specs.declared.replies.Reply.{Reply as SomeReply}
use Rattle.box_events.specs.declared.replies.Reply.TheVariants.{Receipt as ReceiptReply, Error}
use Rattle.box_events.specs.declared.requests.Post.{Post}
use Rattle.box_events.specs.declared.requests.Request.{Request}
use Rattle.box_events.specs.declared.requests.Request.TheVariants as request
use Rattle.box_events.specs.declared.updates.Push.{Push}
use Rattle.box_server.specs.Answers.{IsAnswered, answer}
use Rattle.box_server.specs.FaultNames.{name_of}
use Rattle.box_server.specs.Posting.{push_of}
use Rattle.box_server.specs.Receiving.{answer_by, post_answer}
use Rattle.box_server.specs.Refusing.{post_cause}
use Rattle.box_server.specs.Servers.{ServerState}
use Rattle.box_server.specs.Sound.{IsSound}
use Rattle.box_server.specs.declared.fault.PostFault.{PostFault}
use Rattle.box_server.specs.declared.posted.Posted.{Posted}
use Rattle.box_world.specs.Sizes.{frame_size}
use Rattle.box_world.proofs.AnswersBelow.{answers_below}
use Rattle.box_world.proofs.PushesBelow.{pushes_below, receipts_below, refusals_below}
use Rattle.update_sessions.specs.Serving.{after_request, push_frames, posted_frames, sent_for}
use Rattle.update_sessions.specs.inner.StoreSteps.{Sends}

-- ---- requests but for posts

pub sent_answer : (s : ServerState) (n : ℕ) (r : Request) → IsAnswered r → sent_for s n r ≡ Reply n (answer s r) ∷ []
sent_answer s n request.State h = refl
sent_answer s n (request.Difference pts qts date) h = refl
sent_answer s n (request.Channel id pts) h = refl
sent_answer s n (request.Post random_id posts) h = absurd h

pub after_answer : (s : ServerState) (r : Request) → IsAnswered r → after_request s r ≡ s
after_answer s request.State h = refl
after_answer s (request.Difference pts qts date) h = refl
after_answer s (request.Channel id pts) h = refl
after_answer s (request.Post random_id posts) h = absurd h

-- an answer is short, and so is what is sent
pub answer_short : (s : ServerState) (n : ℕ) (r : Request) (reply : SomeReply) → IsSound s → reply ≡ answer s r → frame_size (Reply n reply) ≤ MAX_FRAME_BYTES
answer_short s n r reply sound is = subst (λ (v : SomeReply). frame_size (Reply n v) ≤ MAX_FRAME_BYTES) (sym is) (answers_below s n r sound).limit

pub answer_sent : (s : ServerState) (n : ℕ) (r : Request) (reply : SomeReply) → IsAnswered r → reply ≡ answer s r → sent_for s n r ≡ Reply n reply ∷ []
answer_sent s n r reply h is = sent_answer s n r h ∙ ap (λ (v : SomeReply). Reply n v ∷ []) (sym is)

pub refusal_sent : (n : ℕ) (f : PostFault) (text : List ℕ) → text ≡ name_of f → posted_frames n (Err f) ≡ Reply n (Error (pos 400) text) ∷ []
refusal_sent n f text is = ap (λ (l : List ℕ). Reply n (Error (pos 400) l) ∷ []) (sym is)

-- a reply alone
pub sends_reply : (s : ServerState) (n : ℕ) (r : Request) (reply : SomeReply) → IsSound s → IsAnswered r → reply ≡ answer s r → Sends (record { reply = Reply n reply; push = None }) (sent_for s n r)
sends_reply s n r reply sound h is = record { frames = sym (answer_sent s n r reply h is); short = record { reply = answer_short s n r reply sound is; push = tt } }

pub sends_refusal : (n : ℕ) (f : PostFault) (text : List ℕ) → text ≡ name_of f → Sends (record { reply = Reply n (Error (pos 400) text); push = None }) (posted_frames n (Err f))
sends_refusal n f text is =
    record {
      frames = sym (refusal_sent n f text is);
      short = record { reply = subst (λ (l : List ℕ). frame_size (Reply n (Error (pos 400) l)) ≤ MAX_FRAME_BYTES) (sym is) (let size = refusals_below n f in omega (arith, size)); push = tt };
    }

-- a receipt with its push, and one without
receipt_short : (n : ℕ) (receipt : Receipt) → frame_size (Reply n (ReceiptReply receipt)) ≤ MAX_FRAME_BYTES
receipt_short n receipt = let size = receipts_below n receipt in omega (arith, size)

pub sends_push : (n : ℕ) (q : Posted) (push : Push) → q.push ≡ Some push → IfSome q.push (λ push. frame_size (PushFrame push) ≤ MAX_FRAME_BYTES)
    → Sends (record { reply = Reply n (ReceiptReply q.receipt); push = Some (PushFrame push) }) (posted_frames n (Ok q))
sends_push n q push is short =
    record {
      frames = ap (λ (o : Option Push). Reply n (ReceiptReply q.receipt) ∷ push_frames o) (sym is);
      short = record { reply = receipt_short n q.receipt; push = subst (λ (o : Option Push). IfSome o (λ push. frame_size (PushFrame push) ≤ MAX_FRAME_BYTES)) is short };
    }

pub sends_receipt : (n : ℕ) (q : Posted) → q.push ≡ None → Sends (record { reply = Reply n (ReceiptReply q.receipt); push = None }) (posted_frames n (Ok q))
sends_receipt n q is = record { frames = ap (λ (o : Option Push). Reply n (ReceiptReply q.receipt) ∷ push_frames o) (sym is); short = record { reply = receipt_short n q.receipt; push = tt } }

-- ---- posts

push_in : Result Posted PostFault → Option Push
push_in (Ok q) = q.push
push_in (Err f) = None

-- the push of posts that are taken is short
short_by : (s : ServerState) (random_id : ℤ) (posts : List Post) (known : Option Receipt) (cause : Option PostFault) (q : Posted) → post_cause s posts ≡ cause → IsSound s → Ok q ≡ answer_by s random_id posts known cause
    → IfSome q.push (λ push. frame_size (PushFrame push) ≤ MAX_FRAME_BYTES)
unfolding push_in
short_by s random_id posts (Some receipt) cause q is sound e =
    let none : q.push ≡ None = ap push_in e in
    subst (λ (o : Option Push). IfSome o (λ push. frame_size (PushFrame push) ≤ MAX_FRAME_BYTES)) (sym none) tt
short_by s random_id posts None (Some cause) q is sound e = absurd cc
short_by s random_id posts None None q is sound e =
    let some : q.push ≡ Some (push_of s posts) = ap push_in e in
    subst (λ (o : Option Push). IfSome o (λ push. frame_size (PushFrame push) ≤ MAX_FRAME_BYTES)) (sym some) (pushes_below s posts sound is).limit

pub push_short : (s : ServerState) (random_id : ℤ) (posts : List Post) (q : Posted) → IsSound s → Ok q ≡ post_answer s random_id posts → IfSome q.push (λ push. frame_size (PushFrame push) ≤ MAX_FRAME_BYTES)
push_short s random_id posts q sound is = short_by s random_id posts (map.get s.receipts random_id) (post_cause s posts) q refl sound is

-- ---- what a store takes
