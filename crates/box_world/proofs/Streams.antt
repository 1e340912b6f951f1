-- Honest streams keep a client in agreement.
use Rattle.std.proofs.Common.{◌≡◌, ℕ, zero, suc, ◌≤◌, ℤ, pos, List, [], ◌∷◌, length, max, Bool, true, false, cond, is_some, Option, Some, None, refl, sym, ap, ◌∙◌, subst, arith}
use Rattle.std.specs.Prelude.{slice_get}
use Rattle.std.specs.FinMap as map
use Rattle.std.proofs.lemmas.Option.{none-some, same_Some}
use Rattle.box_events.specs.declared.positions.Receipt.{Receipt}
use Rattle.box_events.specs.declared.requests.Post.{Post}
use Rattle.box_events.specs.declared.requests.Request.{Request}
use Rattle.box_events.specs.declared.requests.Request.TheVariants.{Channel}
use Rattle.box_events.specs.declared.replies.Reply.{Reply}
use Rattle.box_events.specs.declared.updates.Push.{Push}
use Rattle.box_events.specs.SettingLists.{Dated}
use Rattle.channel_box.specs.States.{ChannelState, first}
use Rattle.channel_box.specs.Steps.{is_asking, asks_number}
use Rattle.box_server.specs.declared.fault.PostFault.{PostFault}
use Rattle.box_server.specs.Servers.{ServerState, channel_in}
use Rattle.box_server.specs.Posting.{push_of}
use Rattle.box_server.specs.Refusing.{post_cause}
use Rattle.box_server.specs.Answers.{answer, channel_difference}
use Rattle.box_server.specs.Answers as server
use Rattle.box_client.specs.States.{ClientState}
use Rattle.box_client.specs.Pushes.{pushed}
use Rattle.box_client.specs.Replies.{ignored, group_replied, channel_replied, replied}
use Rattle.box_client.specs.Asking.{difference_of, wakes}
use Rattle.box_world.specs.Worlds.{after_reply}
use Rattle.box_world.specs.Agreeing.{Boxes, Agrees, ChannelAgrees, Reaches}
use Rattle.box_world.specs.Growing.{Continues, IsLedger}
use Rattle.box_world.specs.Requesting.{GroupFits}
use Rattle.box_world.specs.Pushing.{PushLies}
use Rattle.box_world.specs.Streams.{Doing, posts, dates, Past, posted_by, done, done_all, first_past, past_of, Frame, told_push, told_reply, heard_frame, begun, IsHonestPush, of_post, too_long, channel_too_long, channel_request, IsHonestFrame, Honest, IsTaken, AgreesThrough, HonestStreamsAgree}
use Rattle.box_world.proofs.Alls.{all_weaker}
use Rattle.box_world.proofs.ChannelReplying.{first_has, told_channel}
use Rattle.box_world.proofs.Continuing.{continues_same, continues_then, later_none, more_none, push_more}
use Rattle.box_world.proofs.GoingOn.{agree_ticks, agree_wakes}
use Rattle.box_world.proofs.Growing.{agree_as_servers_grow}
use Rattle.box_world.proofs.Posting.{ledger_posted, continues_posted, push_posted}
use Rattle.box_world.proofs.Pushing.{goes_pushed}
use Rattle.box_world.proofs.Replying.{Carries, Told, stale, told_as, told_group}
use Rattle.box_world.proofs.Reaching.{never_refused}
use Rattle.box_world.proofs.Stepping.{goes_told, ledger_start}
use Rattle.box_world.proofs.Telling.{answer_is, channel_answer_is}
use Rattle.box_world.proofs.Ticking.{stands_at}

-- ---- a server goes through its history

abbrev Goes : Past → Past → Type 0
Goes p q = Continues p.server q.server p.boxes q.boxes

abbrev IsOrdered : Past → Type 0
IsOrdered p = IsLedger p.server p.boxes

goes_none : (p : Past) → Goes p p
goes_none p = continues_same p.server p.boxes p.boxes (λ id. refl)

goes_then : (p q r : Past) → Goes p q → Goes q r → Goes p r
goes_then p q r = continues_then p.server q.server r.server p.boxes q.boxes r.boxes

goes_dated : (p : Past) (date : ℕ) → Goes p (done p (dates date))
goes_dated p date = record {
  common = more_none p.server.common p.server.common refl;
  secret = more_none p.server.secret p.server.secret refl;
  channels = λ id. more_none (p.boxes id) (p.boxes id) refl;
  settings = later_none p.server.date p.server.settings p.server.settings refl;
  date = omega arith;
}

ordered_dated : (p : Past) (date : ℕ) → IsOrdered p → IsOrdered (done p (dates date))
ordered_dated p date k = record {
  common = k.common;
  secret = k.secret;
  messages = k.messages;
  channels = k.channels;
  kept = k.kept;
  dates = all_weaker (λ (e : Dated). e.date ≤ p.server.date) (λ (e : Dated). e.date ≤ max p.server.date date) (λ e h. omega (arith, h)) p.server.settings k.dates;
  rise = k.rise;
}

goes_posted : (p : Past) (random_id : ℤ) (ps : List Post) (r : Option Receipt) (cause : Option PostFault) → Goes p (posted_by p random_id ps r cause)
goes_posted p random_id ps (Some r) cause = goes_none p
goes_posted p random_id ps None (Some cause) = goes_none p
goes_posted p random_id ps None None = continues_posted p.server p.boxes random_id ps

ordered_posted : (p : Past) (random_id : ℤ) (ps : List Post) (r : Option Receipt) (cause : Option PostFault) → post_cause p.server ps ≡ cause → IsOrdered p → IsOrdered (posted_by p random_id ps r cause)
ordered_posted p random_id ps (Some r) cause e k = k
ordered_posted p random_id ps None (Some cause) e k = k
ordered_posted p random_id ps None None e k = ledger_posted p.server p.boxes random_id ps e k

goes_done : (p : Past) (x : Doing) → Goes p (done p x)
goes_done p (posts random_id ps) = goes_posted p random_id ps (map.get p.server.receipts random_id) (post_cause p.server ps)
goes_done p (dates date) = goes_dated p date

ordered_done : (p : Past) (x : Doing) → IsOrdered p → IsOrdered (done p x)
ordered_done p (posts random_id ps) k = ordered_posted p random_id ps (map.get p.server.receipts random_id) (post_cause p.server ps) refl k
ordered_done p (dates date) k = ordered_dated p date k

ordered_all : (p : Past) (h : List Doing) (m : ℕ) → IsOrdered p → IsOrdered (done_all p h m)
ordered_all p h zero k = k
ordered_all p [] (suc m) k = k
ordered_all p (x ∷ h) (suc m) k = ordered_all (done p x) h m (ordered_done p x k)

goes_all : (p : Past) (h : List Doing) (m : ℕ) → Goes p (done_all p h m)
goes_all p h zero = goes_none p
goes_all p [] (suc m) = goes_none p
goes_all p (x ∷ h) (suc m) = goes_then p (done p x) (done_all (done p x) h m) (goes_done p x) (goes_all (done p x) h m)

pub goes_later : (p : Past) (h : List Doing) (j k : ℕ) → j ≤ k → Goes (done_all p h j) (done_all p h k)
goes_later p h zero k le = goes_all p h k
goes_later p h (suc j) zero le = absurd (omega (arith, le))
goes_later p [] (suc j) (suc k) le = goes_none p
goes_later p (x ∷ h) (suc j) (suc k) le = goes_later (done p x) h j k (omega (arith, le))

-- entry i is done to the server after the first i
pub next_is : (p : Past) (h : List Doing) (i : ℕ) (x : Doing) → slice_get h i ≡ Some x → done_all p h (suc i) ≡ done (done_all p h i) x
next_is p [] i x is = absurd (none-some x is)
next_is p (y ∷ h) zero x is = ap (done p) (same_Some y x is)
next_is p (y ∷ h) (suc i) x is = next_is (done p y) h i x is

pub ordered : (h : List Doing) (m : ℕ) → IsOrdered (past_of h m)
ordered h m = ordered_all first_past h m ledger_start

-- ---- pushes

pub new_post : (p : Past) (random_id : ℤ) (ps : List Post) → map.get p.server.receipts random_id ≡ None → post_cause p.server ps ≡ None → done p (posts random_id ps) ≡ posted_by p random_id ps None None
new_post p random_id ps new none = ap (λ (r : Option Receipt). posted_by p random_id ps r (post_cause p.server ps)) new ∙ ap (posted_by p random_id ps None) none

abbrev Lies : Push → Past → Type 0
Lies q p = PushLies p.server p.boxes q

pub honest_lies : (h : List Doing) (k : ℕ) (q : Push) → IsHonestPush h k q → PushLies (past_of h k).server (past_of h k).boxes q
honest_lies h k q (of_post i random_id ps lt at new none is) =
    let p : Past = past_of h i in
    let after : Past = past_of h (suc i) in
    let step : after ≡ posted_by p random_id ps None None = next_is first_past h i (posts random_id ps) at ∙ new_post p random_id ps new none in
    let here : Lies (push_of p.server ps) after = subst (Lies (push_of p.server ps)) (sym step) (push_posted p.server p.boxes random_id ps (ordered h i)) in
    subst (λ (x : Push). Lies x (past_of h k)) (sym is) (push_more after.server (past_of h k).server after.boxes (past_of h k).boxes (push_of p.server ps) (goes_later first_past h (suc i) k (omega (arith, lt))) here)
honest_lies h k q (too_long is) = subst (λ (x : Push). Lies x (past_of h k)) (sym is) tt
honest_lies h k q (channel_too_long id date is) = subst (λ (x : Push). Lies x (past_of h k)) (sym is) (tt, λ lt. absurd (omega (arith, lt)))

-- ---- replies

told_asked : (carries : Carries) (s : ServerState) (boxes : Boxes) (c : ClientState) (n : ℕ) (v : Reply) (d : ChannelState) → IsLedger s boxes → Agrees s boxes c → first (asks_number n) c.channels ≡ Some d → v ≡ answer s (Channel d.id (pos d.lane.at))
    → Told s boxes c (Reaches s v) (channel_replied c n v)
told_asked carries s boxes c n v d k a f is =
    let here = (first_has (λ x. ChannelAgrees (boxes x.id) x) (asks_number n) c.channels d a.channels f).0 in
    let w : Reply = channel_difference (channel_in s.channels d.id) (pos d.lane.at) in
    let same : v ≡ w = is ∙ channel_answer_is s d.id (pos d.lane.at) in
    told_as s boxes c (Reaches s w) (Reaches s v) (channel_replied c n w) (channel_replied c n v) (ap (channel_replied c n) same) (λ e h. subst (λ (x : Reply). Reaches s x e) (sym same) h)
    (told_channel s s boxes boxes c n d k k (continues_same s boxes boxes (λ id. refl)) a f (stands_at (boxes d.id) d.lane here.lane))

told_free : (carries : Carries) (s : ServerState) (boxes : Boxes) (c : ClientState) (n : ℕ) (v : Reply) (o : Option ChannelState) → first (asks_number n) c.channels ≡ o → IsLedger s boxes → Agrees s boxes c
    → ((r : Request) → channel_request o ≡ Some r → v ≡ answer s r) → Told s boxes c (Reaches s v) (cond (is_some o) (channel_replied c n v) ignored)
told_free carries s boxes c n v None f k a h = stale refl
told_free carries s boxes c n v (Some d) f k a h = told_asked carries s boxes c n v d k a f (h (Channel d.id (pos d.lane.at)) refl)

pub told_whom : (carries : Carries) (s : ServerState) (boxes : Boxes) (c : ClientState) (n : ℕ) (v : Reply) (b : Bool) → IsLedger s boxes → Agrees s boxes c
    → ((r : Request) → cond b (Some (difference_of c).request) (channel_request (first (asks_number n) c.channels)) ≡ Some r → v ≡ answer s r)
    → Told s boxes c (Reaches s v) (cond b (group_replied c v) (cond (is_some (first (asks_number n) c.channels)) (channel_replied c n v) ignored))
told_whom carries s boxes c n v true k a h =
    let w : Reply = server.difference_of s (pos c.common.at) (pos c.secret.at) c.settings.date in
    let same : v ≡ w = h (difference_of c).request refl ∙ answer_is s c in
    let fits : GroupFits s c.common.at c.secret.at c.settings.at = record { common = stands_at s.common c.common a.common; secret = stands_at s.secret c.secret a.secret; settings = a.settings.inside } in
    told_as s boxes c (Reaches s w) (Reaches s v) (group_replied c w) (group_replied c v) (ap (group_replied c) same) (λ e g. subst (λ (x : Reply). Reaches s x e) (sym same) g)
    (told_group carries s s boxes boxes c k k (continues_same s boxes boxes (λ id. refl)) a fits)
told_whom carries s boxes c n v false k a h = told_free carries s boxes c n v (first (asks_number n) c.channels) refl k a h

-- ---- frames

pub record Hears (p : Past) (c : ClientState) (f : Frame) : Type 0 where
  pub agrees : Agrees p.server p.boxes (heard_frame c f)
  pub taken : IsTaken c f

pub hears : (carries : Carries) (h : List Doing) (c : ClientState) (k : ℕ) (f : Frame) → Agrees (past_of h k).server (past_of h k).boxes c → IsHonestFrame h c k f → Hears (past_of h k) c f
hears carries h c k (told_push q) a honest =
    let p : Past = past_of h k in
    record { agrees = agree_ticks p.server p.boxes (pushed c q) (goes_pushed p.server p.boxes c q (ordered h k) (honest_lies h k q honest) a).agrees; taken = tt }
hears carries h c k (told_reply n v) a honest =
    let p : Past = past_of h k in
    let t = told_whom carries p.server p.boxes c n v (is_asking n c.common.mode) (ordered h k) a honest in
    record {
      agrees = agree_ticks p.server p.boxes (after_reply c (replied c n v)) (goes_told p.server p.boxes c (Reaches p.server v) (replied c n v) a t).agrees;
      taken = λ cause. never_refused p.server p.boxes c (Reaches p.server v) (replied c n v) cause t;
    }

-- agreement is carried to the end of the history
to_end : (h : List Doing) (c : ClientState) (m : ℕ) → m ≤ length h → Agrees (past_of h m).server (past_of h m).boxes c → Agrees (past_of h (length h)).server (past_of h (length h)).boxes c
to_end h c m le a = agree_as_servers_grow (past_of h m).server (past_of h (length h)).server (past_of h m).boxes (past_of h (length h)).boxes c (goes_later first_past h m (length h) le) a

through : (carries : Carries) (h : List Doing) (c : ClientState) (m : ℕ) (fs : List Frame) → m ≤ length h → Agrees (past_of h m).server (past_of h m).boxes c → Honest h c m fs → AgreesThrough (past_of h (length h)) c fs
through carries h c m [] le a honest = to_end h c m le a
through carries h c m (f ∷ fs) le a (k, up, inside, honest, rest) =
    let now = agree_as_servers_grow (past_of h m).server (past_of h k).server (past_of h m).boxes (past_of h k).boxes c (goes_later first_past h m k up) a in
    let one = hears carries h c k f now honest in
    (to_end h c m le a, one.taken, through carries h (heard_frame c f) k fs inside one.agrees rest)

pub honest_streams_agree : Carries → HonestStreamsAgree
honest_streams_agree carries h c m fs le a honest =
    let p : Past = past_of h m in
    through carries h (begun c) m fs le (agree_ticks p.server p.boxes (wakes c) (agree_wakes p.server p.boxes c a)) honest
