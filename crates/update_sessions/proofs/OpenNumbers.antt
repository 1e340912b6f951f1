-- How often a client asks a number, and what each of its steps does to that.
use Rattle.std.proofs.Common.{◌≡◌, ℕ, ◌+◌, ◌-◌, ◌≤◌, List, [], ◌∷◌, ◌++◌, Bool, true, false, ◌&&◌, ◌||◌, cond, eqb, ltb, is_some, Option, Some, None, Result, Ok, Err, refl, ap, ◌∙◌, arith}
use Rattle.std.proofs.lemmas.Bool.Decides.{nat_tests}
use Rattle.std.proofs.lemmas.Option.{none-some}
use Rattle.std.specs.FinMap.{len}
use Rattle.box_events.specs.Events.{EventView, count_of}
use Rattle.box_events.specs.declared.replies.ChannelReply.{ChannelReply}
use Rattle.box_events.specs.declared.replies.ChannelReply.TheVariants as part
use Rattle.box_events.specs.declared.replies.Reply.{Reply}
use Rattle.box_events.specs.declared.replies.Reply.TheVariants as reply
use Rattle.box_events.specs.declared.requests.Numbered.{Numbered}
use Rattle.box_events.specs.declared.requests.Request.{Request}
use Rattle.box_events.specs.declared.settings.Setting.{Setting}
use Rattle.box_events.specs.declared.updates.Push.{Push}
use Rattle.box_events.specs.declared.updates.Push.TheVariants.{TooLong, Container}
use Rattle.box_events.specs.declared.updates.Update.{Update}
use Rattle.box_events.specs.declared.updates.Update.TheVariants.{Common, Secret, Channel, ChannelTooLong, Setting as SettingUpdate}
use Rattle.box_events.specs.Weaves.{woven_of}
use Rattle.box_events.specs.declared.difference_fault.WeaveFault.{WeaveFault}
use Rattle.pts_machine.specs.declared.mode.Mode.{Mode}
use Rattle.pts_machine.specs.declared.mode.Mode.TheVariants.{Live, Asking, Again}
use Rattle.pts_machine.specs.States.{LaneState}
use Rattle.pts_machine.specs.Steps.{extend, hear, restart_at}
use Rattle.pts_machine.proofs.Moves.{hear_mode}
use Rattle.channel_box.specs.Looks.{any_asks, is_waiting}
use Rattle.channel_box.specs.States.{ChannelState, first, has_id}
use Rattle.channel_box.specs.Steps as channel
use Rattle.channel_box.specs.Steps.{asks_number, at_first, channel_is_due, flagged, grown, heard_by, is_asking, is_due, taken_by, ticked, woken}
use Rattle.box_client.specs.Asking as asking
use Rattle.box_client.specs.Asking.{difference_of, group_is_due, group_ticked, is_one_asking, ticks}
use Rattle.box_client.specs.Pushes.{all_updated, pack_heard, pushed, settings_in, updated}
use Rattle.box_client.specs.Replies.{Outcome, becomes, by_channels, channel_replied, group_done, group_replied, group_taken, group_woven, ignored, nothing_new, refuses, replied}
use Rattle.box_client.specs.States.{ClientState}
use Rattle.box_client.specs.declared.received.Received.{Received}
use Rattle.box_world.specs.Streams.{asked_by, channel_request}
use Rattle.box_world.specs.Worlds.{after_reply}
use Rattle.box_world.proofs.ChannelReplying.{is_asked}
use Rattle.box_world.proofs.Posting.{none_either}
use Rattle.box_world.proofs.Replying.{extend_again, extend_live}

abbrev pub one : Bool → ℕ
one true = 1
one false = 0

-- how often the channels ask a number, and the client
abbrev pub asks_in : ℕ → List ChannelState → ℕ
asks_in n [] = 0
asks_in n (d ∷ ds) = one (is_asking n d.lane.mode) + asks_in n ds

abbrev pub asks_of : ℕ → ClientState → ℕ
asks_of n c = one (is_asking n c.common.mode) + asks_in n c.channels

-- how often a number is among calls
abbrev pub among : ℕ → List Numbered → ℕ
among n [] = 0
among n (q ∷ qs) = one (eqb q.number n) + among n qs

pub among_both : (n : ℕ) (xs ys : List Numbered) → among n (xs ++ ys) ≡ among n xs + among n ys
among_both n [] ys = omega arith
among_both n (x ∷ xs) ys = let rest = among_both n xs ys in omega (arith, rest)

pub same : (n : ℕ) → eqb n n ≡ true
same n = grind (arith, nat_tests)

-- ---- who waits for nothing asks no number

pub free_mode : (n : ℕ) (m : Mode) → is_waiting m ≡ false → one (is_asking n m) ≡ 0
free_mode n Live e = refl
free_mode n Again e = refl
free_mode n (Asking k) e = absurd (let no : true ≡ false = e in cc)

pub free_channels : (n : ℕ) (ds : List ChannelState) → any_asks ds ≡ false → asks_in n ds ≡ 0
free_channels n [] e = refl
free_channels n (d ∷ ds) e =
    let two = none_either (is_waiting d.lane.mode) (any_asks ds) e in
    let here = free_mode n d.lane.mode two.0 in
    let rest = free_channels n ds two.1 in
    omega (arith, here, rest)

pub free_client : (n : ℕ) (c : ClientState) → is_one_asking c ≡ false → asks_of n c ≡ 0
free_client n c e =
    let two = none_either (is_waiting c.common.mode) (any_asks c.channels) e in
    let here = free_mode n c.common.mode two.0 in
    let rest = free_channels n c.channels two.1 in
    omega (arith, here, rest)

pub woken_counts : (n : ℕ) (ds : List ChannelState) → asks_in n (woken ds) ≡ asks_in n ds
woken_counts n [] = refl
woken_counts n (d ∷ ds) = ap (λ (k : ℕ). one (is_asking n d.lane.mode) + k) (woken_counts n ds)

-- who waits asks a number
mode_number : (m : Mode) → is_waiting m ≡ true → (n : ℕ) × (is_asking n m ≡ true)
mode_number Live e = absurd (let no : false ≡ true = e in cc)
mode_number Again e = absurd (let no : false ≡ true = e in cc)
mode_number (Asking k) e = (k, same k)

or_other : (a b : Bool) → (a || b) ≡ true → a ≡ false → b ≡ true
or_other true b e f = absurd (let no : true ≡ false = f in cc)
or_other false b e f = e

channels_by : (d : ChannelState) (ds : List ChannelState) (b : Bool) → is_waiting d.lane.mode ≡ b → (is_waiting d.lane.mode ≡ false → any_asks ds ≡ true) → (any_asks ds ≡ true → (n : ℕ) × (1 ≤ asks_in n ds)) → (n : ℕ) × (1 ≤ asks_in n (d ∷ ds))
channels_by d ds true e f rest = let k = mode_number d.lane.mode e in let here = ap one k.1 in (k.0, omega (arith, here))
channels_by d ds false e f rest = let k = rest (f e) in (k.0, omega (arith, k.1))

channels_number : (ds : List ChannelState) → any_asks ds ≡ true → (n : ℕ) × (1 ≤ asks_in n ds)
channels_number [] e = absurd (let no : false ≡ true = e in cc)
channels_number (d ∷ ds) e = channels_by d ds (is_waiting d.lane.mode) refl (λ no. or_other (is_waiting d.lane.mode) (any_asks ds) e no) (channels_number ds)

waits_by : (c : ClientState) (b : Bool) → is_waiting c.common.mode ≡ b → is_one_asking c ≡ true → (n : ℕ) × (1 ≤ asks_of n c)
waits_by c true is e = let k = mode_number c.common.mode is in let here = ap one k.1 in (k.0, omega (arith, here))
waits_by c false is e = let k = channels_number c.channels (or_other (is_waiting c.common.mode) (any_asks c.channels) e is) in (k.0, omega (arith, k.1))

pub waits_number : (c : ClientState) → is_one_asking c ≡ true → (n : ℕ) × (1 ≤ asks_of n c)
waits_number c e = waits_by c (is_waiting c.common.mode) refl e

-- ---- a tick

pub due_mode : (n : ℕ) (flag : Bool) (held : ℕ) (m : Mode) → is_due flag held m ≡ true → one (is_asking n m) ≡ 0
due_mode n flag held Live e = refl
due_mode n flag held Again e = refl
due_mode n flag held (Asking k) e = absurd (let no : false ≡ true = e in cc)

pub ticked_by : (n m : ℕ) (d : ChannelState) (ds : List ChannelState) (b : Bool) → channel_is_due d ≡ b → ((k : ℕ) → asks_in n (ticked k ds).channels ≡ asks_in n ds + among n (ticked k ds).asks)
    → asks_in n (ticked m (d ∷ ds)).channels ≡ asks_in n (d ∷ ds) + among n (ticked m (d ∷ ds)).asks
ticked_by n m d ds true e rest =
    let free = due_mode n d.flag (len d.lane.held) d.lane.mode e in
    let more = rest (m + 1) in
    rw e (omega (arith, free, more))
ticked_by n m d ds false e rest = let more = rest m in rw e (omega (arith, more))

pub ticked_counts : (n : ℕ) (ds : List ChannelState) (m : ℕ) → asks_in n (ticked m ds).channels ≡ asks_in n ds + among n (ticked m ds).asks
ticked_counts n [] m = refl
ticked_counts n (d ∷ ds) m = ticked_by n m d ds (channel_is_due d) refl (ticked_counts n ds)

pub group_counts : (n : ℕ) (c : ClientState) (b : Bool) → group_is_due c ≡ b → asks_of n (group_ticked c).client ≡ asks_of n c + among n (group_ticked c).asks
group_counts n c true e = let free = due_mode n c.flag (len c.common.held + len c.secret.held + len c.settings.held) c.common.mode e in rw e (omega (arith, free))
group_counts n c false e = rw e (omega arith)

pub ticks_counts : (n : ℕ) (c : ClientState) → asks_of n (ticks c).client ≡ asks_of n c + among n (ticks c).asks
ticks_counts n c =
    let g : asking.Asked = group_ticked c in
    let lead = group_counts n c (group_is_due c) refl in
    let more = ticked_counts n g.client.channels g.client.next in
    let both = among_both n g.asks (ticked g.client.next g.client.channels).asks in
    omega (arith, lead, more, both)

-- ---- a push

at_first_by : (n : ℕ) (p : ChannelState → Bool) (f : ChannelState → ChannelState) → ((d : ChannelState) → (f d).lane.mode ≡ d.lane.mode) → (d : ChannelState) (ds : List ChannelState) (b : Bool) → asks_in n (at_first p f ds) ≡ asks_in n ds
    → asks_in n (cond b (f d ∷ ds) (d ∷ at_first p f ds)) ≡ asks_in n (d ∷ ds)
at_first_by n p f mode d ds true rest = ap (λ (m : Mode). one (is_asking n m) + asks_in n ds) (mode d)
at_first_by n p f mode d ds false rest = ap (λ (k : ℕ). one (is_asking n d.lane.mode) + k) rest

at_first_counts : (n : ℕ) (p : ChannelState → Bool) (f : ChannelState → ChannelState) → ((d : ChannelState) → (f d).lane.mode ≡ d.lane.mode) → (ds : List ChannelState) → asks_in n (at_first p f ds) ≡ asks_in n ds
at_first_counts n p f mode [] = refl
at_first_counts n p f mode (d ∷ ds) = at_first_by n p f mode d ds (p d) (at_first_counts n p f mode ds)

updated_counts : (n : ℕ) (c : ClientState) (u : Update) → asks_of n (updated c u) ≡ asks_of n c
updated_counts n c (Common event pts) = ap (λ (m : Mode). one (is_asking n m) + asks_in n c.channels) (hear_mode c.common (pts - count_of event) pts event)
updated_counts n c (Secret body qts) = refl
updated_counts n c (Channel id event pts) =
    ap (λ (k : ℕ). one (is_asking n c.common.mode) + k)
    (at_first_counts n (has_id id) (λ d. heard_by d (hear d.lane (pts - count_of event) pts event)) (λ d. hear_mode d.lane (pts - count_of event) pts event) c.channels)
updated_counts n c (ChannelTooLong id) = ap (λ (k : ℕ). one (is_asking n c.common.mode) + k) (at_first_counts n (has_id id) flagged (λ d. refl) c.channels)
updated_counts n c (SettingUpdate x) = refl

all_updated_counts : (n : ℕ) (c : ClientState) (us : List Update) → asks_of n (all_updated c us) ≡ asks_of n c
all_updated_counts n c [] = refl
all_updated_counts n c (u ∷ us) = all_updated_counts n (updated c u) us ∙ updated_counts n c u

pack_counts : (n : ℕ) (b : Bool) (c : ClientState) (seq_start seq date : ℕ) (xs : List Setting) → asks_of n (pack_heard b c seq_start seq date xs) ≡ asks_of n c
pack_counts n true c seq_start seq date xs = refl
pack_counts n false c seq_start seq date xs = refl

pub pushed_counts : (n : ℕ) (c : ClientState) (p : Push) → asks_of n (pushed c p) ≡ asks_of n c
pushed_counts n c TooLong = refl
pushed_counts n c (Container us date seq_start seq) = pack_counts n (ltb 0 seq) (all_updated c us) seq_start seq date (settings_in us) ∙ all_updated_counts n c us

-- ---- an answer

-- who asks m asks n where these are one
pub asks_one : (n m : ℕ) (mode : Mode) → is_asking m mode ≡ true → is_asking n mode ≡ eqb m n
asks_one n m mode e = ap (is_asking n) (is_asked m mode e)

-- the first channel that asks m takes its answer
first_counts : (m n : ℕ) (x y d : ChannelState) (ds : List ChannelState) (b : Bool) → one (is_asking n y.lane.mode) ≡ 0 → asks_number m d ≡ b → cond b (Some d) (first (asks_number m) ds) ≡ Some x
    → (first (asks_number m) ds ≡ Some x → asks_in n (at_first (asks_number m) (λ _. y) ds) + one (eqb m n) ≡ asks_in n ds)
    → asks_in n (cond b (y ∷ ds) (d ∷ at_first (asks_number m) (λ _. y) ds)) + one (eqb m n) ≡ one (is_asking n d.lane.mode) + asks_in n ds
first_counts m n x y d ds true free e is rest = let here = ap one (asks_one n m d.lane.mode e) in omega (arith, free, here)
first_counts m n x y d ds false free e is rest = let more = rest is in omega (arith, more)

taken_counts : (m n : ℕ) (x y : ChannelState) (ds : List ChannelState) → one (is_asking n y.lane.mode) ≡ 0 → first (asks_number m) ds ≡ Some x → asks_in n (at_first (asks_number m) (λ _. y) ds) + one (eqb m n) ≡ asks_in n ds
taken_counts m n x y [] free is = absurd (none-some x is)
taken_counts m n x y (d ∷ ds) free is = first_counts m n x y d ds (asks_number m d) free refl is (λ at. taken_counts m n x y ds free at)

pub none_by : (n : ℕ) (d : ChannelState) (ds : List ChannelState) (b : Bool) → asks_number n d ≡ b → cond b (Some d) (first (asks_number n) ds) ≡ None → (first (asks_number n) ds ≡ None → asks_in n ds ≡ 0) → one (is_asking n d.lane.mode) + asks_in n ds ≡ 0
none_by n d ds true e is rest = absurd cc
none_by n d ds false e is rest = let here = ap one e in let more = rest is in omega (arith, here, more)

pub none_counts : (n : ℕ) (ds : List ChannelState) → first (asks_number n) ds ≡ None → asks_in n ds ≡ 0
none_counts n [] is = refl
none_counts n (d ∷ ds) is = none_by n d ds (asks_number n d) refl is (none_counts n ds)

-- a number that is asked is counted
some_counts : (c : ClientState) (n : ℕ) (r : Request) (o : Option ChannelState) → first (asks_number n) c.channels ≡ o → channel_request o ≡ Some r → 1 ≤ asks_in n c.channels
some_counts c n r None f is = absurd (none-some r is)
some_counts c n r (Some d) f is =
    let all = taken_counts n n d (record d { lane = record d.lane { mode = Live } }) c.channels refl f in
    let own = ap one (same n) in
    omega (arith, all, own)

counts_by : (c : ClientState) (n : ℕ) (r : Request) (b : Bool) → is_asking n c.common.mode ≡ b → cond b (Some (difference_of c).request) (channel_request (first (asks_number n) c.channels)) ≡ Some r → 1 ≤ asks_of n c
counts_by c n r true e is = let here = ap one e in omega (arith, here)
counts_by c n r false e is = let more = some_counts c n r (first (asks_number n) c.channels) refl is in omega (arith, more)

pub asked_counts : (c : ClientState) (n : ℕ) (r : Request) → asked_by c n ≡ Some r → 1 ≤ asks_of n c
asked_counts c n r is = counts_by c n r (is_asking n c.common.mode) refl is

extend_asks : (n : ℕ) (t : LaneState EventView) (xs : List EventView) (last : Bool) → one (is_asking n (extend count_of t xs last).mode) ≡ 0
extend_asks n t xs true = ap (λ (m : Mode). one (is_asking n m)) (extend_live t xs)
extend_asks n t xs false = ap (λ (m : Mode). one (is_asking n m)) (extend_again t xs)

-- ---- the group takes it

-- an answer that isn't refused frees the group of its number, and leaves the channels
record Frees (n : ℕ) (c d : ClientState) : Type 0 where
  free : one (is_asking n d.common.mode) ≡ 0
  channels : d.channels ≡ c.channels

-- what an outcome makes, where it is one that is taken
abbrev GroupFrees : ℕ → ClientState → Outcome → Type 0
GroupFrees n c ignored = ⊥
GroupFrees n c (refuses cause) = Unit {0}
GroupFrees n c (becomes d) = Frees n c d

done_frees : (n : ℕ) (last : Bool) (c : ClientState) (b : Received) (xs ys : List EventView) → Frees n c (group_done last c b xs ys)
done_frees n true c b xs ys = record { free = extend_asks n c.common xs true; channels = refl }
done_frees n false c b xs ys = record { free = extend_asks n c.common xs false; channels = refl }

taken_frees : (n : ℕ) (back : Bool) (c : ClientState) (b : Received) (xs ys : List EventView) → GroupFrees n c (group_taken back c b xs ys)
taken_frees n true c b xs ys = tt
taken_frees n false c b xs ys = done_frees n b.last c b xs ys

woven_frees : (n : ℕ) (c : ClientState) (b : Received) (o p : Result (List EventView) WeaveFault) → GroupFrees n c (group_woven c b o p)
woven_frees n c b (Err cause) p = tt
woven_frees n c b (Ok xs) (Err cause) = tt
woven_frees n c b (Ok xs) (Ok ys) = taken_frees n (b.last && ltb b.state.seq c.settings.at) c b xs ys

group_frees : (n : ℕ) (c : ClientState) (r : Reply) → GroupFrees n c (group_replied c r)
group_frees n c (reply.State state) = tt
group_frees n c (reply.Empty date seq) = let b : Received = nothing_new c date seq in woven_frees n c b (woven_of c.common.at b.state.pts b.news b.others) (woven_of c.secret.at b.state.qts b.secrets [])
group_frees n c (reply.Difference news secrets others settings state last) =
    let b : Received = record { news = news; secrets = secrets; others = others; settings = settings; state = state; last = last } in
    woven_frees n c b (woven_of c.common.at b.state.pts b.news b.others) (woven_of c.secret.at b.state.qts b.secrets [])
group_frees n c (reply.Channel r) = tt
group_frees n c (reply.Receipt r) = tt
group_frees n c (reply.Error code text) = tt

-- ---- how often a number is asked after an answer to m that isn't refused

abbrev Drops : ℕ → ℕ → ClientState → Outcome → Type 0
Drops m n c ignored = asks_of m c ≡ 0
Drops m n c (refuses cause) = Unit {0}
Drops m n c (becomes d) = asks_of n d + one (eqb m n) ≡ asks_of n c

group_drops : (m n : ℕ) (c : ClientState) → is_asking m c.common.mode ≡ true → (o : Outcome) → GroupFrees n c o → Drops m n c o
group_drops m n c e ignored h = absurd h
group_drops m n c e (refuses cause) h = tt
group_drops m n c e (becomes d) h =
    let here = ap one (asks_one n m c.common.mode e) in
    let stay : asks_in n d.channels ≡ asks_in n c.channels = ap (asks_in n) h.channels in
    omega (arith, h.free, stay, here)

restart_asks : (n : ℕ) (t : LaneState EventView) (p : ℕ) → one (is_asking n (restart_at count_of t p).mode) ≡ 0
unfolding restart_at
restart_asks n t p = extend_asks n (record t { restart = p; events = []; at = p }) [] true

-- the channel that takes an answer asks no number then
abbrev ChannelFrees : ℕ → Result ChannelState WeaveFault → Type 0
ChannelFrees n (Ok d) = one (is_asking n d.lane.mode) ≡ 0
ChannelFrees n (Err cause) = Unit {0}

grown_frees : (n : ℕ) (d : ChannelState) (last : Bool) (o : Result (List EventView) WeaveFault) → ChannelFrees n (grown d last o)
grown_frees n d last (Ok xs) = extend_asks n d.lane xs last
grown_frees n d last (Err cause) = tt

channel_frees : (n : ℕ) (d : ChannelState) (r : ChannelReply) → ChannelFrees n (channel.replied d r)
channel_frees n d (part.Empty pts last) = grown_frees n d last (woven_of d.lane.at pts [] [])
channel_frees n d (part.Part pts news others last) = grown_frees n d last (woven_of d.lane.at pts news others)
channel_frees n d (part.TooLong pts recent last) = restart_asks n d.lane pts

module _ (m n : ℕ) (c : ClientState) (free : is_asking m c.common.mode ≡ false) (other : one (is_asking m c.common.mode) ≡ 0) where
  answer_drops : (d : ChannelState) → first (asks_number m) c.channels ≡ Some d → (o : Result ChannelState WeaveFault) → ChannelFrees n o → Drops m n c (by_channels c (taken_by c.channels m o))
  answer_drops d f (Ok e) h = let took = taken_counts m n d e c.channels h f in omega (arith, took)
  answer_drops d f (Err cause) h = tt

  channel_drops : (d : ChannelState) → first (asks_number m) c.channels ≡ Some d → (r : Reply) → Drops m n c (channel_replied c m r)
  channel_drops d f (reply.State state) = tt
  channel_drops d f (reply.Empty date seq) = tt
  channel_drops d f (reply.Difference news secrets others settings state last) = tt
  channel_drops d f (reply.Channel r) = rw f (answer_drops d f (channel.replied d r) (channel_frees n d r))
  channel_drops d f (reply.Receipt r) = tt
  channel_drops d f (reply.Error code text) = tt

  nobody_drops : (r : Reply) (o : Option ChannelState) → first (asks_number m) c.channels ≡ o → Drops m n c (cond (is_some o) (channel_replied c m r) ignored)
  nobody_drops r None f = let none = none_counts m c.channels f in omega (arith, other, none)
  nobody_drops r (Some d) f = channel_drops d f r

whom_drops : (m n : ℕ) (c : ClientState) (r : Reply) (b : Bool) → is_asking m c.common.mode ≡ b → Drops m n c (cond b (group_replied c r) (cond (is_some (first (asks_number m) c.channels)) (channel_replied c m r) ignored))
whom_drops m n c r true e = group_drops m n c e (group_replied c r) (group_frees n c r)
whom_drops m n c r false e = nobody_drops m n c e (ap one e) r (first (asks_number m) c.channels) refl

pub reply_drops : (m n : ℕ) (c : ClientState) (r : Reply) → Drops m n c (replied c m r)
reply_drops m n c r = whom_drops m n c r (is_asking m c.common.mode) refl

-- likewise, of the client after it
same_number : (m n k : ℕ) (c : ClientState) (b : Bool) → eqb m n ≡ b → asks_of m c ≡ 0 → asks_of n c ≤ one b + k → asks_of n c ≤ k
same_number m n k c true e none le = let is : m ≡ n = grind (arith, nat_tests) in let zero = ap (λ (j : ℕ). asks_of j c) is in omega (arith, zero, none)
same_number m n k c false e none le = omega (arith, le)

abbrev pub IsRefused : Outcome → Type 0
IsRefused ignored = ⊥
IsRefused (refuses cause) = Unit {0}
IsRefused (becomes d) = ⊥

drops_by : (m n k : ℕ) (c : ClientState) (o : Outcome) → Drops m n c o → (IsRefused o → ⊥) → asks_of n c ≤ one (eqb m n) + k → asks_of n (after_reply c o) ≤ k
drops_by m n k c ignored h taken le = same_number m n k c (eqb m n) refl h le
drops_by m n k c (refuses cause) h taken le = absurd (taken tt)
drops_by m n k c (becomes d) h taken le = omega (arith, h, le)

-- an answer to m that is taken drops one that asks it
pub replied_counts : (m n k : ℕ) (c : ClientState) (r : Reply) → (IsRefused (replied c m r) → ⊥) → asks_of n c ≤ one (eqb m n) + k → asks_of n (after_reply c (replied c m r)) ≤ k
replied_counts m n k c r taken le = drops_by m n k c (replied c m r) (reply_drops m n c r) taken le
