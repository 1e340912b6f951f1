-- A client that asks can be answered, and no more often than so many times.
use Rattle.std.proofs.Common.{◌≡◌, ◌⊎◌, inl, inr, ℕ, zero, suc, ◌≤◌, pos, List, [], ◌∷◌, length, Bool, true, false, ◌||◌, cond, eqb, Some, refl, sym, ap, ◌∙◌, arith}
use Rattle.std.proofs.lemmas.Bool.Decides.{nat_tests}
use Rattle.std.proofs.lemmas.Option.{same_Some}
use Rattle.box_events.specs.declared.replies.Reply.{Reply}
use Rattle.box_events.specs.declared.requests.Request.{Request}
use Rattle.box_events.specs.declared.requests.Request.TheVariants.{Channel as Channel_of}
use Rattle.pts_machine.specs.declared.mode.Mode.{Mode}
use Rattle.pts_machine.specs.declared.mode.Mode.TheVariants.{Live, Asking, Again}
use Rattle.channel_box.specs.Looks.{any_asks, is_waiting}
use Rattle.channel_box.specs.States.{ChannelState, first}
use Rattle.channel_box.specs.Steps.{asks_number, is_asking}
use Rattle.box_server.specs.Answers.{answer}
use Rattle.box_server.specs.Servers.{ServerState}
use Rattle.box_server.proofs.Carrying.{changed_overlays}
use Rattle.box_client.specs.Asking.{difference_of, is_one_asking}
use Rattle.box_client.specs.States.{ClientState}
use Rattle.box_world.specs.Recovering.{AnswersEach, most_frames}
use Rattle.box_world.specs.Streams.{Doing, Honest, Past, asked_by, begun, channel_request, heard_frame, past_of, told_reply}
use Rattle.box_world.proofs.Histories.{frames_are_bounded}
use Rattle.headline.specs.CatchingUp.{heard_all}
use Rattle.headline.specs.Ending.{SessionsEnd, told_replies}
use Rattle.headline.proofs.LastAnswers.{by_true}
use Rattle.headline.proofs.LastChannels.{channel_asked}

-- ---- who waits asks a number

pub same : (n : ℕ) → eqb n n ≡ true
same n = grind (arith, nat_tests)

-- a channel that waits, and the number that it asks
abbrev Waiting : List ChannelState → Type 0
Waiting ds = (n : ℕ) × (d : ChannelState) × (first (asks_number n) ds ≡ Some d)

waiting_by : (d : ChannelState) (ds : List ChannelState) (m : Mode) → d.lane.mode ≡ m → any_asks (d ∷ ds) ≡ true → (any_asks ds ≡ true → Waiting ds) → Waiting (d ∷ ds)
waiting_by d ds Live e w rest =
    let (n, x, f) = rest (sym (ap (λ (m : Mode). is_waiting m || any_asks ds) e) ∙ w) in
    (n, x, ap (λ (m : Mode). cond (is_asking n m) (Some d) (first (asks_number n) ds)) e ∙ f)
waiting_by d ds Again e w rest =
    let (n, x, f) = rest (sym (ap (λ (m : Mode). is_waiting m || any_asks ds) e) ∙ w) in
    (n, x, ap (λ (m : Mode). cond (is_asking n m) (Some d) (first (asks_number n) ds)) e ∙ f)
waiting_by d ds (Asking n) e w rest = (n, d, ap (λ (m : Mode). cond (is_asking n m) (Some d) (first (asks_number n) ds)) e ∙ ap (λ (b : Bool). cond b (Some d) (first (asks_number n) ds)) (same n))

waiting : (ds : List ChannelState) → any_asks ds ≡ true → Waiting ds
waiting [] w = absurd (let no : false ≡ true = w in cc)
waiting (d ∷ ds) w = waiting_by d ds d.lane.mode refl w (waiting ds)

-- a number that a client asks, and what by it
abbrev pub Asks : ClientState → Type 0
Asks c = (n : ℕ) × (r : Request) × (asked_by c n ≡ Some r)

asks_channel : (c : ClientState) → ((n : ℕ) → is_asking n c.common.mode ≡ false) → Waiting c.channels → Asks c
asks_channel c free (n, d, f) = (n, Channel_of d.id (pos d.lane.at), channel_asked c n d (free n) f)

pub asks_by : (c : ClientState) (m : Mode) → c.common.mode ≡ m → is_one_asking c ≡ true → Asks c
asks_by c Live e w = asks_channel c (λ n. ap (is_asking n) e) (waiting c.channels (sym (ap (λ (m : Mode). is_waiting m || any_asks c.channels) e) ∙ w))
asks_by c Again e w = asks_channel c (λ n. ap (is_asking n) e) (waiting c.channels (sym (ap (λ (m : Mode). is_waiting m || any_asks c.channels) e) ∙ w))
asks_by c (Asking n) e w = (n, (difference_of c).request, by_true (is_asking n c.common.mode) (Some (difference_of c).request) (channel_request (first (asks_number n) c.channels)) (ap (is_asking n) e ∙ same n))

-- ---- answer after answer

-- the session has ended after these, or they are k
record Answered (s : ServerState) (c : ClientState) (k : ℕ) : Type 0 where
  pub replies : List (ℕ × Reply)
  pub answers : AnswersEach s c replies
  pub ends : (is_one_asking (heard_all c (told_replies replies)) ≡ false) ⊎ (length replies ≡ k)

more_ends : (s : ServerState) (c : ClientState) (k : ℕ) (f : ℕ × Reply) (a : Answered s (heard_frame c (told_reply f.0 f.1)) k)
    → (is_one_asking (heard_all (heard_frame c (told_reply f.0 f.1)) (told_replies a.replies)) ≡ false) ⊎ (length a.replies ≡ k) → (is_one_asking (heard_all c (told_replies (f ∷ a.replies))) ≡ false) ⊎ (length (f ∷ a.replies) ≡ suc k)
more_ends s c k f a (inl e) = inl e
more_ends s c k f a (inr e) = inr (omega (arith, e))

answer_one : (s : ServerState) (c : ClientState) (k : ℕ) → ((d : ClientState) → Answered s d k) → Asks c → Answered s c (suc k)
answer_one s c k rest (n, r, e) =
    let f : ℕ × Reply = (n, answer s r) in
    let a = rest (heard_frame c (told_reply f.0 f.1)) in
    record { replies = f ∷ a.replies; answers = ((r, e, refl), a.answers); ends = more_ends s c k f a a.ends }

answer_by : (s : ServerState) (c : ClientState) (k : ℕ) (b : Bool) → is_one_asking c ≡ b → ((d : ClientState) → Answered s d k) → Answered s c (suc k)
answer_by s c k true e rest = answer_one s c k rest (asks_by c c.common.mode refl e)
answer_by s c k false e rest = record { replies = []; answers = tt; ends = inl e }

answer_all : (s : ServerState) (k : ℕ) (c : ClientState) → Answered s c k
answer_all s zero c = record { replies = []; answers = tt; ends = inr refl }
answer_all s (suc k) c = answer_by s c k (is_one_asking c) refl (answer_all s k)

-- ---- they are honest

each_honest : (h : List Doing) (c : ClientState) (fs : List (ℕ × Reply)) → AnswersEach (past_of h (length h)).server c fs → Honest h c (length h) (told_replies fs)
each_honest h c [] a = tt
each_honest h c (f ∷ fs) a =
    let s : ServerState = (past_of h (length h)).server in
    (length h, omega arith, omega arith, λ q asks. a.0.2 ∙ ap (answer s) (same_Some a.0.0 q (sym a.0.1 ∙ asks)), each_honest h (heard_frame c (told_reply f.0 f.1)) fs a.1)

done_by : (h : List Doing) (c : ClientState) (fs : List (ℕ × Reply)) → length fs ≤ most_frames (past_of h (length h)) c → (is_one_asking (heard_all (begun c) (told_replies fs)) ≡ false) ⊎ (length fs ≡ suc (most_frames (past_of h (length h)) c))
    → is_one_asking (heard_all (begun c) (told_replies fs)) ≡ false
done_by h c fs few (inl e) = e
done_by h c fs few (inr e) = absurd (omega (arith, few, e))

pub sessions_end : SessionsEnd
sessions_end h c a calm =
    let s : Past = past_of h (length h) in
    let t = answer_all s.server (suc (most_frames s c)) (begun c) in
    let few = frames_are_bounded changed_overlays h (length h) c t.replies a calm t.answers in
    record { replies = t.replies; answers = t.answers; honest = each_honest h (begun c) t.replies t.answers; done = done_by h c t.replies few t.ends; few = few }
