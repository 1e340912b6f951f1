-- A server's answers to all that a client asks, in that order, end its session: at each moment what is still to be answered is what the client asks then.
use Rattle.std.proofs.Common.{◌≡◌, ◌⊎◌, inl, inr, ℕ, zero, suc, ◌+◌, ◌≤◌, pos, List, [], ◌∷◌, ◌++◌, append_assoc, length, Bool, true, false, ◌&&◌, cond, eqb, ltb, is_some, Option, Some, None, Result, Ok, Err, refl, sym, ap, ◌∙◌, subst, arith}
use Rattle.std.proofs.lemmas.Option.{none-some}
use Rattle.box_events.specs.Events.{EventView, count_of}
use Rattle.box_events.specs.declared.replies.Reply.{Reply}
use Rattle.box_events.specs.declared.replies.Reply.TheVariants as reply_of
use Rattle.box_events.specs.declared.requests.Numbered.{Numbered}
use Rattle.box_events.specs.declared.requests.Request.{Request}
use Rattle.box_events.specs.declared.requests.Request.TheVariants.{Channel as Channel_of}
use Rattle.box_events.specs.Weaves.{woven_of}
use Rattle.box_events.specs.declared.difference_fault.WeaveFault.{WeaveFault}
use Rattle.pts_machine.specs.declared.mode.Mode.{Mode}
use Rattle.pts_machine.specs.declared.mode.Mode.TheVariants.{Live, Again}
use Rattle.pts_machine.specs.Steps.{extend}
use Rattle.channel_box.specs.States.{ChannelState, first}
use Rattle.channel_box.specs.Steps.{asks_number, at_first, is_asking}
use Rattle.box_server.specs.Answers.{answer}
use Rattle.box_server.specs.Servers.{ServerState}
use Rattle.box_server.proofs.Carrying.{changed_overlays}
use Rattle.box_client.specs.declared.received.Received.{Received}
use Rattle.box_client.specs.Asking as asking
use Rattle.box_client.specs.Asking.{difference_of, is_one_asking, ticks, wakes}
use Rattle.box_client.specs.Replies.{Outcome, becomes, channel_replied, group_done, group_replied, group_taken, group_woven, ignored, nothing_new, replied}
use Rattle.box_client.specs.States.{ClientState}
use Rattle.box_world.specs.Agreeing.{Each, Reaches}
use Rattle.box_world.specs.Awaiting.{Below}
use Rattle.box_world.specs.Recovering.{AnswersEach, most_frames}
use Rattle.box_world.specs.Streams.{Doing, Frame, IsHonestFrame, Past, asked_by, begun, channel_request, past_of, told_reply}
use Rattle.box_world.specs.Worlds.{after_reply}
use Rattle.box_world.proofs.ChannelReplying.{answered_is}
use Rattle.box_world.proofs.GoingOn.{agree_ticks, agree_wakes, still_wakes}
use Rattle.box_world.proofs.Histories.{frames_are_bounded}
use Rattle.box_world.proofs.Lists.{of_both}
use Rattle.box_world.proofs.Replying.{Told, extend_again, extend_live, stale, takes}
use Rattle.box_world.proofs.Streams.{ordered, told_whom}
use Rattle.box_world.proofs.Ticking.{awaits_ticks, below_ticks, tick_new}
use Rattle.box_world.proofs.Worlds.{still_awaits, still_below}
use Rattle.headline.specs.Answering.{AreAnswers, all_asks, hears_one, session_asks}
use Rattle.headline.specs.CatchingUp.{heard_all}
use Rattle.headline.specs.Ending.{SessionsEndInOrder, told_replies}
use Rattle.headline.proofs.Answered.{Known, asks_for, below_calm, each_in, goes_honest}
use Rattle.headline.proofs.Channels.{each_index, group_channels}
use Rattle.headline.proofs.Ending.{Asks, asks_by, same}
use Rattle.headline.proofs.Finished.{group_some}
use Rattle.headline.proofs.LastAnswers.{AgreesAt, by_true}
use Rattle.headline.proofs.LastChannels.{channel_asked, stream_honest}
use Rattle.update_sessions.proofs.OpenNumbers.{one, asks_in, asks_of, among, among_both, free_client, woken_counts, ticks_counts, asks_one, none_counts}

-- ---- how often a number is asked, and how often it is still to be answered

-- ---- who waits for nothing asks no number

-- ---- a tick

-- ---- a number is asked where it is counted, and counted where it is asked

-- the first channel that asks m takes its answer
taken_by : (m n : ℕ) (x y d : ChannelState) (ds : List ChannelState) (b : Bool) → one (is_asking n y.lane.mode) ≡ 0 → asks_number m d ≡ b → cond b (Some d) (first (asks_number m) ds) ≡ Some x
    → (first (asks_number m) ds ≡ Some x → asks_in n (at_first (asks_number m) (λ _. y) ds) + one (eqb m n) ≡ asks_in n ds)
    → asks_in n (cond b (y ∷ ds) (d ∷ at_first (asks_number m) (λ _. y) ds)) + one (eqb m n) ≡ one (is_asking n d.lane.mode) + asks_in n ds
taken_by m n x y d ds true free e is rest = let here = ap one (asks_one n m d.lane.mode e) in omega (arith, free, here)
taken_by m n x y d ds false free e is rest = let more = rest is in omega (arith, more)

taken_counts : (m n : ℕ) (x y : ChannelState) (ds : List ChannelState) → one (is_asking n y.lane.mode) ≡ 0 → first (asks_number m) ds ≡ Some x → asks_in n (at_first (asks_number m) (λ _. y) ds) + one (eqb m n) ≡ asks_in n ds
taken_counts m n x y [] free is = absurd (none-some x is)
taken_counts m n x y (d ∷ ds) free is = taken_by m n x y d ds (asks_number m d) free refl is (λ at. taken_counts m n x y ds free at)

-- a number that is counted is asked
channel_counted : (c : ClientState) (n : ℕ) (o : Option ChannelState) → first (asks_number n) c.channels ≡ o → is_asking n c.common.mode ≡ false → 1 ≤ asks_in n c.channels → (r : Request) × (asked_by c n ≡ Some r)
channel_counted c n None f free some = let none = none_counts n c.channels f in absurd (omega (arith, none, some))
channel_counted c n (Some d) f free some = (Channel_of d.id (pos d.lane.at), channel_asked c n d free f)

counted_by : (c : ClientState) (n : ℕ) (b : Bool) → is_asking n c.common.mode ≡ b → 1 ≤ asks_of n c → (r : Request) × (asked_by c n ≡ Some r)
counted_by c n true e some = ((difference_of c).request, by_true (is_asking n c.common.mode) (Some (difference_of c).request) (channel_request (first (asks_number n) c.channels)) e)
counted_by c n false e some = let here = ap one e in channel_counted c n (first (asks_number n) c.channels) refl e (omega (arith, here, some))

-- a number that is asked is counted
asked_some : (c : ClientState) (n : ℕ) (r : Request) (o : Option ChannelState) → first (asks_number n) c.channels ≡ o → channel_request o ≡ Some r → 1 ≤ asks_in n c.channels
asked_some c n r None f is = absurd (none-some r is)
asked_some c n r (Some d) f is =
    let all = taken_counts n n d (record d { lane = record d.lane { mode = Live } }) c.channels refl f in
    let own = ap one (same n) in
    omega (arith, all, own)

asked_counts : (c : ClientState) (n : ℕ) (r : Request) (b : Bool) → is_asking n c.common.mode ≡ b → cond b (Some (difference_of c).request) (channel_request (first (asks_number n) c.channels)) ≡ Some r → 1 ≤ asks_of n c
asked_counts c n r true e is = let here = ap one e in omega (arith, here)
asked_counts c n r false e is = let more = asked_some c n r (first (asks_number n) c.channels) refl is in omega (arith, more)

-- who asks no number waits for nothing
asks_none : (c : ClientState) → ((n : ℕ) → asks_of n c ≡ 0) → Asks c → ⊥
asks_none c none (n, r, is) = let some = asked_counts c n r (is_asking n c.common.mode) refl is in let no = none n in omega (arith, some, no)

calm_by : (c : ClientState) (b : Bool) → is_one_asking c ≡ b → ((n : ℕ) → asks_of n c ≡ 0) → is_one_asking c ≡ false
calm_by c true e none = absurd (asks_none c none (asks_by c c.common.mode refl e))
calm_by c false e none = e

waits_by : (c : ClientState) (n : ℕ) (b : Bool) → is_one_asking c ≡ b → 1 ≤ asks_of n c → is_one_asking c ≡ true
waits_by c n true e some = e
waits_by c n false e some = let none = free_client n c e in absurd (omega (arith, none, some))

-- a client that asks a number waits
pub asked_waits : (c : ClientState) (n : ℕ) (r : Request) → asked_by c n ≡ Some r → is_one_asking c ≡ true
asked_waits c n r is = waits_by c n (is_one_asking c) refl (asked_counts c n r (is_asking n c.common.mode) refl is)

-- ---- an answer

either_free : (n : ℕ) (m : Mode) → (m ≡ Live) ⊎ (m ≡ Again) → one (is_asking n m) ≡ 0
either_free n m (inl e) = ap (λ (k : Mode). one (is_asking n k)) e
either_free n m (inr e) = ap (λ (k : Mode). one (is_asking n k)) e

same_becomes : (c d : ClientState) → becomes c ≡ becomes d → d ≡ c
same_becomes c d e = let is : c ≡ d = cc in sym is

done_free : (n : ℕ) (last : Bool) (c : ClientState) (b : Received) (xs ys : List EventView) → one (is_asking n (group_done last c b xs ys).common.mode) ≡ 0
done_free n true c b xs ys = either_free n (extend count_of c.common xs true).mode (inl (extend_live c.common xs))
done_free n false c b xs ys = either_free n (extend count_of c.common xs false).mode (inr (extend_again c.common xs))

taken_free : (n : ℕ) (c : ClientState) (b : Received) (xs ys : List EventView) (t : Bool) (d : ClientState) → group_taken t c b xs ys ≡ becomes d → one (is_asking n d.common.mode) ≡ 0
taken_free n c b xs ys true d e = absurd cc
taken_free n c b xs ys false d e = ap (λ (x : ClientState). one (is_asking n x.common.mode)) (same_becomes (group_done b.last c b xs ys) d e) ∙ done_free n b.last c b xs ys

woven_free : (n : ℕ) (c : ClientState) (b : Received) (o p : Result (List EventView) WeaveFault) (d : ClientState) → group_woven c b o p ≡ becomes d → one (is_asking n d.common.mode) ≡ 0
woven_free n c b (Err cause) p d e = absurd cc
woven_free n c b (Ok xs) (Err cause) d e = absurd cc
woven_free n c b (Ok xs) (Ok ys) d e = taken_free n c b xs ys (b.last && ltb b.state.seq c.settings.at) d e

group_free : (n : ℕ) (c : ClientState) (v : Reply) (d : ClientState) → group_replied c v ≡ becomes d → one (is_asking n d.common.mode) ≡ 0
group_free n c (reply_of.State state) d e = absurd cc
group_free n c (reply_of.Empty date seq) d e = let b : Received = nothing_new c date seq in woven_free n c b (woven_of c.common.at b.state.pts b.news b.others) (woven_of c.secret.at b.state.qts b.secrets []) d e
group_free n c (reply_of.Difference news secrets others settings state last) d e =
    let b : Received = record { news = news; secrets = secrets; others = others; settings = settings; state = state; last = last } in
    woven_free n c b (woven_of c.common.at b.state.pts b.news b.others) (woven_of c.secret.at b.state.qts b.secrets []) d e
group_free n c (reply_of.Channel r) d e = absurd cc
group_free n c (reply_of.Receipt r) d e = absurd cc
group_free n c (reply_of.Error code text) d e = absurd cc

by_false : {A : Type 0} (b : Bool) (x y : A) → b ≡ false → cond b x y ≡ y
by_false true x y e = absurd (let w : true ≡ false = e in cc)
by_false false x y e = refl

module _ (h : List Doing) (c : ClientState) (m : ℕ) (v : Reply) (a : AgreesAt h (length h) c) (honest : IsHonestFrame h c (length h) (told_reply m v)) (n : ℕ) where
  abbrev d : ClientState
  d = after_reply c (replied c m v)

  abbrev s : Past
  s = past_of h (length h)

  of_group : is_asking m c.common.mode ≡ true → Told s.server s.boxes c (Reaches s.server v) (group_replied c v) → asks_of n d + one (eqb m n) ≡ asks_of n c
  of_group e (stale none) = absurd (group_some c v none)
  of_group e (takes x becoming g past) =
      let whom : replied c m v ≡ group_replied c v = by_true (is_asking m c.common.mode) (group_replied c v) (cond (is_some (first (asks_number m) c.channels)) (channel_replied c m v) ignored) e in
      let is : d ≡ x = ap (after_reply c) (whom ∙ becoming) in
      let free : one (is_asking n d.common.mode) ≡ 0 = ap (λ (y : ClientState). one (is_asking n y.common.mode)) is ∙ group_free n c v x becoming in
      let stay : asks_in n d.channels ≡ asks_in n c.channels = ap (λ (o : Outcome). asks_in n (after_reply c o).channels) whom ∙ ap (asks_in n) (group_channels c v) in
      let here = ap one (asks_one n m c.common.mode e) in
      omega (arith, free, stay, here)

  of_channel : is_asking m c.common.mode ≡ false → (o : Option ChannelState) → first (asks_number m) c.channels ≡ o → 1 ≤ asks_in m c.channels → asks_of n d + one (eqb m n) ≡ asks_of n c
  of_channel e None f some = let none = none_counts m c.channels f in absurd (omega (arith, none, some))
  of_channel e (Some x) f some =
      let t = (stream_honest h c (length h) m v a honest x e f).1 in
      let ds : List ChannelState = at_first (asks_number m) (λ _. t.taken.channel) c.channels in
      let whom : replied c m v ≡ channel_replied c m v =
      by_false (is_asking m c.common.mode) (group_replied c v) (cond (is_some (first (asks_number m) c.channels)) (channel_replied c m v) ignored) e ∙ by_true (is_some (first (asks_number m) c.channels)) (channel_replied c m v) ignored (ap is_some f) in
      let becoming : channel_replied c m v ≡ becomes (record c { channels = ds }) = ap (channel_replied c m) t.is ∙ answered_is c m x t.reply t.taken.channel f t.taken.is in
      let is : d ≡ record c { channels = ds } = ap (after_reply c) (whom ∙ becoming) in
      let whole : asks_of n d ≡ asks_of n (record c { channels = ds }) = ap (asks_of n) is in
      let took = taken_counts m n x t.taken.channel c.channels (either_free n t.taken.channel.lane.mode t.taken.free) f in
      omega (arith, whole, took)

  of_whom : (b : Bool) → is_asking m c.common.mode ≡ b → 1 ≤ asks_of m c → asks_of n d + one (eqb m n) ≡ asks_of n c
  of_whom true e some =
      of_group e (subst (λ (b : Bool). Told s.server s.boxes c (Reaches s.server v) (cond b (group_replied c v) (cond (is_some (first (asks_number m) c.channels)) (channel_replied c m v) ignored))) e
      (told_whom changed_overlays s.server s.boxes c m v (is_asking m c.common.mode) (ordered h (length h)) a honest))
  of_whom false e some = let here = ap one e in of_channel e (first (asks_number m) c.channels) refl (omega (arith, here, some))

  reply_counts : 1 ≤ asks_of m c → asks_of n d + one (eqb m n) ≡ asks_of n c
  reply_counts some = of_whom (is_asking m c.common.mode) refl some

-- ---- answer after answer

-- all that is to be answered was answered, or the answers are k
record InOrder (h : List Doing) (c : ClientState) (qs : List Numbered) (k : ℕ) : Type 0 where
  pub replies : List (ℕ × Reply)
  pub answers : AreAnswers (past_of h (length h)).server (qs ++ all_asks c (told_replies replies)) (told_replies replies)
  pub each : AnswersEach (past_of h (length h)).server c replies
  pub ends : ((is_one_asking (heard_all c (told_replies replies)) ≡ false) × (length (qs ++ all_asks c (told_replies replies)) ≡ length replies)) ⊎ (length replies ≡ k)

no_answers : (s : ServerState) (qs : List Numbered) → AreAnswers s qs []
no_answers s [] = tt
no_answers s (q ∷ qs) = tt

more_ends : (s t : ℕ) (x k : ℕ) (A : Type 0) → (A × (s ≡ x)) ⊎ (x ≡ k) → t ≡ suc s → (A × (t ≡ suc x)) ⊎ (suc x ≡ suc k)
more_ends s t x k A (inl e) is = inl (e.0, omega (arith, e.1, is))
more_ends s t x k A (inr e) is = inr (omega (arith, e))

in_order : (h : List Doing) (k : ℕ) (c : ClientState) (qs : List Numbered) → AgreesAt h (length h) c → Below c → Each (λ q. Known q c) qs → ((n : ℕ) → asks_of n c ≡ among n qs) → InOrder h c qs k
in_order h zero c qs a b known counts = record { replies = []; answers = no_answers (past_of h (length h)).server (qs ++ []); each = tt; ends = inr refl }
in_order h (suc k) c [] a b known counts = record { replies = []; answers = tt; each = tt; ends = inl (calm_by c (is_one_asking c) refl counts, refl) }
in_order h (suc k) c (q ∷ qs) a b known counts =
    let s : Past = past_of h (length h) in
    let v : Reply = answer s.server q.request in
    let some : 1 ≤ asks_of q.number c = (let own = ap one (same q.number) in let all = counts q.number in omega (arith, own, all)) in
    let honest : IsHonestFrame h c (length h) (told_reply q.number v) = λ r is. ap (answer s.server) (sym (asks_for q.number (Some (record { request = q.request; seq = known.0.seq })) c r known.0.awaits.asks is)) in
    let g = goes_honest h c (length h) q.number v a honest in
    let d : ClientState = hears_one c (told_reply q.number v) in
    let e : ClientState = (ticks d).client in
    let own = counted_by c q.number (is_asking q.number c.common.mode) refl some in
    let rest = in_order h k e (qs ++ (ticks d).asks) (agree_ticks s.server s.boxes d g.agrees) (below_ticks d (still_below c d g.still b))
    (each_in (λ (x : Numbered). Known x e) (qs ++ (ticks d).asks) (λ p i. elim (of_both qs (ticks d).asks i.0 p i.1) as (λ z. Known p e) [
      | inl old ↦ (let w = each_index (λ (x : Numbered). Known x c) qs i.0 p known.1 old in record { seq = w.seq; awaits = awaits_ticks d p.number (record { request = p.request; seq = w.seq }) (still_awaits c d p.number (record { request = p.request; seq = w.seq }) g.still w.awaits) })
      | inr new ↦ (let w = tick_new s.server s.boxes d g.agrees (still_below c d g.still b) new.0 p new.1 in record { seq = w.seq; awaits = w.awaits })
    ]))
    (λ n. (let up = ticks_counts n d in let took = reply_counts h c q.number v a honest n some in let all = counts n in let both = among_both n qs (ticks d).asks in omega (arith, up, took, all, both))) in
    let fs : List Frame = told_replies rest.replies in
    let parts : (qs ++ (ticks d).asks) ++ all_asks e fs ≡ qs ++ ((ticks d).asks ++ all_asks e fs) = append_assoc qs (ticks d).asks (all_asks e fs) in
    record {
      replies = (q.number, v) ∷ rest.replies;
      answers = (refl, subst (λ (l : List Numbered). AreAnswers s.server l fs) parts rest.answers);
      each = ((own.0, own.1, honest own.0 own.1), rest.each);
      ends = more_ends (length ((qs ++ (ticks d).asks) ++ all_asks e fs)) (length (q ∷ (qs ++ ((ticks d).asks ++ all_asks e fs)))) (length rest.replies) k (is_one_asking (heard_all e fs) ≡ false) rest.ends (let long = ap length parts in omega (arith, long));
    }

ended_by : (A : Type 0) (x k : ℕ) → x ≤ k → A ⊎ (x ≡ suc k) → A
ended_by A x k few (inl e) = e
ended_by A x k few (inr e) = absurd (omega (arith, few, e))

pub sessions_end_in_order : SessionsEndInOrder
sessions_end_in_order h c a calm =
    let s : Past = past_of h (length h) in
    let w : ClientState = wakes c in
    let woke = agree_wakes s.server s.boxes c a in
    let below = still_below c w (still_wakes c) (below_calm c calm) in
    let t = in_order h (suc (most_frames s c)) (begun c) (ticks w).asks (agree_ticks s.server s.boxes w woke) (below_ticks w below)
    (each_in (λ (x : Numbered). Known x (begun c)) (ticks w).asks (λ p i. (let new = tick_new s.server s.boxes w woke below i.0 p i.1 in record { seq = new.seq; awaits = new.awaits })))
    (λ n. (let up = ticks_counts n w in let none = free_client n c calm in let woken_none = woken_counts n c.channels in omega (arith, up, none, woken_none))) in
    let few = frames_are_bounded changed_overlays h (length h) c t.replies a calm t.each in
    let fs : List Frame = told_replies t.replies in
    let ended = ended_by ((is_one_asking (heard_all (begun c) fs) ≡ false) × (length (session_asks c fs) ≡ length t.replies)) (length t.replies) (most_frames s c) few t.ends in
    record { replies = t.replies; answers = t.answers; all = ended.1; each = t.each; done = ended.0; few = few }
