-- A client's numbers follow from the numbers.
use Rattle.std.proofs.Common.{◌≡◌, ℕ, ◌+◌, ◌-◌, ℤ, List, [], ◌∷◌, ◌++◌, map, Bool, true, false, cond, ltb, ◌&&◌, ◌||◌, is_some, Option, Some, None, Result, Ok, Err, sum_by, refl, sym, ap, ap₂, ◌∙◌, subst, arith}
use Rattle.std.specs.FinMap as map_of
use Rattle.std.proofs.lemmas.List.{map-append}
use Rattle.pts_machine.specs.Holding.{Items}
use Rattle.box_events.specs.Events.{EventView, added, count_of}
use Rattle.box_events.specs.declared.settings.Setting.{Setting}
use Rattle.box_events.specs.declared.updates.Placed.{Placed}
use Rattle.box_events.specs.declared.updates.Update.{Update}
use Rattle.box_events.specs.declared.updates.Update.TheVariants.{Common, Secret, Channel, ChannelTooLong, Setting as SettingUpdate}
use Rattle.box_events.specs.declared.updates.Push.{Push}
use Rattle.box_events.specs.declared.updates.Push.TheVariants.{TooLong, Container}
use Rattle.box_events.specs.declared.replies.Reply.{Reply}
use Rattle.box_events.specs.declared.replies.Reply.TheVariants.{State, Empty, Difference, Channel as ChannelAnswer, Receipt, Error}
use Rattle.box_events.specs.declared.replies.ChannelReply.{ChannelReply}
use Rattle.box_events.specs.declared.replies.ChannelReply.TheVariants.{Empty as EmptyPart, Part, TooLong as ChannelTooFar}
use Rattle.pts_machine.specs.declared.mode.Mode.TheVariants.{Live, Again}
use Rattle.pts_machine.specs.States.{LaneState}
use Rattle.pts_machine.specs.Steps.{Heard, hear, settle, extend, restart_at, new_lane}
use Rattle.pts_machine.specs.Packs.{Pack, pack_of, last_date, puts}
use Rattle.pts_machine.specs.SeqStates.{SettingsState, lane_of, applied, hear_pack, overlaid, forgotten as settings_forgotten}
use Rattle.box_events.specs.Weaves.{woven_of}
use Rattle.box_events.specs.declared.difference_fault.WeaveFault.{WeaveFault}
use Rattle.box_events.proofs.Made.{reaches}
use Rattle.channel_box.specs.States.{ChannelState, first, has_id}
use Rattle.channel_box.specs.Steps.{at_first, watched, watched_if, may_watch, channel_of, is_dropped, is_asking, is_due, heard_by, flagged, woken, forgotten, asks_number, Answered, taken_by, answered_by, grown, replied as channel_replied_by, Ticked, ticked, and_asks, and_waits, channel_is_due}
use Rattle.channel_box.proofs.Brought.{ending_sums}
use Rattle.box_client.specs.declared.received.Received.{Received}
use Rattle.box_client.specs.States.{ClientState, new_client}
use Rattle.box_client.specs.Pushes.{updated, all_updated, settings_in, pack_heard, pushed}
use Rattle.box_client.specs.Replies.{Outcome, ignored, becomes, nothing_new, group_done, group_taken, group_woven, brings, group_replied, by_channels, channel_replied, replied}
use Rattle.box_client.specs.Laws.{HasNumbers}
use Rattle.box_client.specs.Asking.{group_is_due, group_asks, difference_of, Asked, group_ticked, ticks, wakes, restarted}
use Rattle.box_client.specs.Numbers.{mapped, lane_by, LaneNumbers, lane_numbers, n_extended, SettingsNumbers, settings_numbers, last_number, n_applied, NumbersHeard, n_hear_pack, n_overlaid, ChannelNumbers, channel_numbers, ClientNumbers, client_numbers, n_first, n_at_first, n_has_id, n_asks_number, n_channel_heard, n_flagged, n_updated, n_all_updated, n_pack_heard, n_pushed, n_group_done, n_group_replied, n_channel_answered, n_channel_replied, n_replied, n_group_is_due, n_group_asks, n_group_ticked, n_channel_asks, NumbersTicked, n_ticked, n_ticks, n_wakes, n_channel_restarted, n_client_restarted, n_watched_if, n_new_client}
use Rattle.box_client.proofs.Mapped.{mapped_empty, len_mapped}
use Rattle.box_client.proofs.Counted.{settle_by, hear_by, lane_heard, lane_extended, lane_restarted, lane_forgot}

-- settings

dates_last : (d : ℕ) (ps : List Pack) → last_date d ps ≡ last_number d (map (λ p. p.date) ps)
dates_last d [] = refl
dates_last d (p ∷ ps) = dates_last p.date ps

applied_numbers : (b : SettingsState) (t : LaneState Pack) → settings_numbers (applied b t) ≡ n_applied (settings_numbers b) (lane_by (λ p. p.date) t)
applied_numbers b t = ap (λ (d : ℕ). record { at = t.at; date = d; held = mapped (λ p. p.date) t.held; mode = t.mode }) (dates_last b.date t.events)

pub pack_numbers : (b : SettingsState) (start end : ℕ) (p : Pack) → record { state = settings_numbers (hear_pack b start end p).state; dropped = is_dropped (hear_pack b start end p).seen } ≡ n_hear_pack (settings_numbers b) start end p.date
unfolding hear_pack
pack_numbers b start end p =
    ap (λ (s : SettingsNumbers). record { state = s; dropped = is_dropped (hear (lane_of b) start end p).seen }) (applied_numbers b (hear (lane_of b) start end p).state)
    ∙ ap (λ (h : Heard ℕ). record { state = n_applied (settings_numbers b) h.state; dropped = is_dropped h.seen }) (hear_by (λ q. q.date) (lane_of b) start end p)

pub overlaid_numbers : (b : SettingsState) (settings : List Setting) (seq date : ℕ) → settings_numbers (overlaid b settings seq date) ≡ n_overlaid (settings_numbers b) seq date
unfolding overlaid
overlaid_numbers b settings seq date =
    let put : SettingsState = record b { at = seq; date = date; table = puts b.table settings; mode = Live } in
    applied_numbers put (settle (lane_of put)) ∙ ap (λ (t : LaneState ℕ). n_applied (settings_numbers put) t) (settle_by (λ q. q.date) (lane_of put))

pub forgot_settings : (b : SettingsState) → settings_numbers (settings_forgotten b) ≡ record (settings_numbers b) { held = map_of.empty; mode = Live }
forgot_settings b = ap (λ (h : Items ℕ). record { at = b.at; date = b.date; held = h; mode = Live }) (mapped_empty (λ p. p.date))

-- channels

abbrev all_numbers : List ChannelState → List ChannelNumbers
all_numbers cs = map channel_numbers cs

cond_numbers : (b : Bool) (xs ys : List ChannelState) → all_numbers (cond b xs ys) ≡ cond b (all_numbers xs) (all_numbers ys)
cond_numbers true xs ys = refl
cond_numbers false xs ys = refl

first_numbers : (p : ChannelState → Bool) (q : ChannelNumbers → Bool) (f : ChannelState → ChannelState) (g : ChannelNumbers → ChannelNumbers) → ((c : ChannelState) → p c ≡ q (channel_numbers c)) → ((c : ChannelState) → channel_numbers (f c) ≡ g (channel_numbers c))
    → (cs : List ChannelState) → all_numbers (at_first p f cs) ≡ n_at_first q g (all_numbers cs)
first_numbers p q f g same step [] = refl
first_numbers p q f g same step (c ∷ cs) =
    cond_numbers (p c) (f c ∷ cs) (c ∷ at_first p f cs)
    ∙ ap₂ (λ (x : ChannelNumbers) (xs : List ChannelNumbers). cond (p c) (x ∷ all_numbers cs) (channel_numbers c ∷ xs)) (step c) (first_numbers p q f g same step cs)
    ∙ ap (λ (b : Bool). cond b (g (channel_numbers c) ∷ all_numbers cs) (channel_numbers c ∷ n_at_first q g (all_numbers cs))) (same c)

map_numbers : (f : ChannelState → ChannelState) (g : ChannelNumbers → ChannelNumbers) → ((c : ChannelState) → channel_numbers (f c) ≡ g (channel_numbers c)) → (cs : List ChannelState) → all_numbers (map f cs) ≡ map g (all_numbers cs)
map_numbers f g step [] = refl
map_numbers f g step (c ∷ cs) = ap₂ (λ (x : ChannelNumbers) (xs : List ChannelNumbers). x ∷ xs) (step c) (map_numbers f g step cs)

channel_heard : (c : ChannelState) (start end : ℕ) (event : EventView) → channel_numbers (heard_by c (hear c.lane start end event)) ≡ n_channel_heard start end (channel_numbers c)
channel_heard c start end event = ap (λ (h : Heard (Unit {0})). record { id = c.id; lane = h.state; flag = c.flag || is_dropped h.seen }) (lane_heard c.lane start end event)

-- pushes

updated_numbers : (c : ClientState) (u : Update) → client_numbers (updated c u) ≡ n_updated (client_numbers c) u
updated_numbers c (Common event pts) = ap (λ (h : Heard (Unit {0})). record (client_numbers c) { common = h.state; flag = c.flag || is_dropped h.seen }) (lane_heard c.common (pts - count_of event) pts event)
updated_numbers c (Secret body qts) = ap (λ (h : Heard (Unit {0})). record (client_numbers c) { secret = h.state; flag = c.flag || is_dropped h.seen }) (lane_heard c.secret (qts - 1) qts (added body))
updated_numbers c (Channel id event pts) = ap (λ (l : List ChannelNumbers). record (client_numbers c) { channels = l })
    (first_numbers (has_id id) (n_has_id id) (λ d. heard_by d (hear d.lane (pts - count_of event) pts event)) (n_channel_heard (pts - count_of event) pts) (λ _. refl) (λ d. channel_heard d (pts - count_of event) pts event) c.channels)
updated_numbers c (ChannelTooLong id) = ap (λ (l : List ChannelNumbers). record (client_numbers c) { channels = l }) (first_numbers (has_id id) (n_has_id id) flagged n_flagged (λ _. refl) (λ _. refl) c.channels)
updated_numbers c (SettingUpdate setting) = refl

all_updated_numbers : (c : ClientState) (us : List Update) → client_numbers (all_updated c us) ≡ n_all_updated (client_numbers c) us
all_updated_numbers c [] = refl
all_updated_numbers c (u ∷ us) = all_updated_numbers (updated c u) us ∙ ap (λ (d : ClientNumbers). n_all_updated d us) (updated_numbers c u)

pack_heard_numbers : (b : Bool) (c : ClientState) (seq_start seq date : ℕ) (settings : List Setting) → client_numbers (pack_heard b c seq_start seq date settings) ≡ n_pack_heard b (client_numbers c) seq_start seq date
pack_heard_numbers true c seq_start seq date settings = ap (λ (h : NumbersHeard). record (client_numbers c) { settings = h.state; flag = c.flag || h.dropped }) (pack_numbers c.settings (seq_start - 1) seq (pack_of date settings))
pack_heard_numbers false c seq_start seq date settings = refl

pub pushed_numbers : (c : ClientState) (p : Push) → client_numbers (pushed c p) ≡ n_pushed (client_numbers c) p
pushed_numbers c TooLong = refl
pushed_numbers c (Container updates date seq_start seq) =
    pack_heard_numbers (ltb 0 seq) (all_updated c updates) seq_start seq date (settings_in updates) ∙ ap (λ (d : ClientNumbers). n_pack_heard (ltb 0 seq) d seq_start seq date) (all_updated_numbers c updates)

-- answers

woven_reaches : (from to : ℕ) (news : List (List ℕ)) (others : List Placed) (xs : List EventView) → woven_of from to news others ≡ Ok xs → from + sum_by count_of xs ≡ to
woven_reaches from to news others xs is = omega (arith, ending_sums xs, reaches from to news others xs is)

done_numbers : (last : Bool) (c : ClientState) (b : Received) (xs ys : List EventView) → c.common.at + sum_by count_of xs ≡ b.state.pts → c.secret.at + sum_by count_of ys ≡ b.state.qts
    → client_numbers (group_done last c b xs ys) ≡ n_group_done last (client_numbers c) b.state.pts b.state.qts b.state.seq b.state.date
done_numbers true c b xs ys p q =
    λ i. record (client_numbers c) { common = lane_extended count_of c.common xs true b.state.pts p i; secret = lane_extended count_of c.secret ys true b.state.qts q i; settings = overlaid_numbers c.settings b.settings b.state.seq b.state.date i }
done_numbers false c b xs ys p q =
    λ i. record (client_numbers c) { common = lane_extended count_of c.common xs false b.state.pts p i; secret = lane_extended count_of c.secret ys false b.state.qts q i; settings = record (settings_numbers c.settings) { mode = Again } }

taken_numbers : (back : Bool) (c : ClientState) (b : Received) (xs ys : List EventView) → c.common.at + sum_by count_of xs ≡ b.state.pts → c.secret.at + sum_by count_of ys ≡ b.state.qts
    → HasNumbers c (group_taken back c b xs ys) (n_group_done b.last (client_numbers c) b.state.pts b.state.qts b.state.seq b.state.date)
taken_numbers true c b xs ys p q = tt
taken_numbers false c b xs ys p q = done_numbers b.last c b xs ys p q

woven_numbers : (c : ClientState) (b : Received) (o s : Result (List EventView) WeaveFault) → woven_of c.common.at b.state.pts b.news b.others ≡ o → woven_of c.secret.at b.state.qts b.secrets [] ≡ s
    → HasNumbers c (group_woven c b o s) (n_group_done b.last (client_numbers c) b.state.pts b.state.qts b.state.seq b.state.date)
woven_numbers c b (Err cause) s e f = tt
woven_numbers c b (Ok xs) (Err cause) e f = tt
woven_numbers c b (Ok xs) (Ok ys) e f = taken_numbers (b.last && ltb b.state.seq c.settings.at) c b xs ys (woven_reaches c.common.at b.state.pts b.news b.others xs e) (woven_reaches c.secret.at b.state.qts b.secrets [] ys f)

brings_numbers : (c : ClientState) (b : Received) → HasNumbers c (brings c b) (n_group_done b.last (client_numbers c) b.state.pts b.state.qts b.state.seq b.state.date)
brings_numbers c b = woven_numbers c b (woven_of c.common.at b.state.pts b.news b.others) (woven_of c.secret.at b.state.qts b.secrets []) refl refl

group_numbers : (c : ClientState) (r : Reply) → HasNumbers c (group_replied c r) (n_group_replied (client_numbers c) r)
group_numbers c (State state) = tt
group_numbers c (Empty date seq) = brings_numbers c (nothing_new c date seq)
group_numbers c (Difference news secrets others settings state last) = brings_numbers c (record { news = news; secrets = secrets; others = others; settings = settings; state = state; last = last })
group_numbers c (ChannelAnswer reply) = tt
group_numbers c (Receipt receipt) = tt
group_numbers c (Error code text) = tt

grown_numbers : (c d : ChannelState) (last : Bool) (to : ℕ) (o : Result (List EventView) WeaveFault) → ((xs : List EventView) → o ≡ Ok xs → c.lane.at + sum_by count_of xs ≡ to) → grown c last o ≡ Ok d → channel_numbers d ≡ record (channel_numbers c) { lane = n_extended (lane_numbers c.lane) to last }
grown_numbers c d last to (Ok xs) reach is =
    let one : record c { lane = extend count_of c.lane xs last } ≡ d = cc in
    ap channel_numbers (sym one) ∙ ap (λ (l : LaneNumbers). record (channel_numbers c) { lane = l }) (lane_extended count_of c.lane xs last to (reach xs refl))
grown_numbers c d last to (Err cause) reach is = absurd cc

channel_taken : (c d : ChannelState) (r : ChannelReply) → channel_replied_by c r ≡ Ok d → channel_numbers d ≡ n_channel_answered r (channel_numbers c)
channel_taken c d (EmptyPart pts last) is = grown_numbers c d last pts (woven_of c.lane.at pts [] []) (woven_reaches c.lane.at pts [] []) is
channel_taken c d (Part pts news others last) is = grown_numbers c d last pts (woven_of c.lane.at pts news others) (woven_reaches c.lane.at pts news others) is
channel_taken c d (ChannelTooFar pts recent last) is =
    let one : record c { lane = restart_at count_of c.lane pts; recent = recent } ≡ d = cc in
    ap channel_numbers (sym one) ∙ ap (λ (l : LaneNumbers). record (channel_numbers c) { lane = l }) (lane_restarted count_of c.lane pts)

put_over : (b : Bool) (c d e : ChannelState) (rest : List ChannelState) (n : ℕ) (g : ChannelNumbers → ChannelNumbers) (o : Option ChannelState) → cond b (Some c) o ≡ Some e → channel_numbers d ≡ g (channel_numbers e)
    → (o ≡ Some e → all_numbers (at_first (asks_number n) (λ _. d) rest) ≡ n_at_first (n_asks_number n) g (all_numbers rest))
    → all_numbers (cond b (d ∷ rest) (c ∷ at_first (asks_number n) (λ _. d) rest)) ≡ cond b (g (channel_numbers c) ∷ all_numbers rest) (channel_numbers c ∷ n_at_first (n_asks_number n) g (all_numbers rest))
put_over true c d e rest n g o is step below = let one : c ≡ e = cc in ap (λ (x : ChannelNumbers). x ∷ all_numbers rest) (step ∙ ap (λ (z : ChannelState). g (channel_numbers z)) (sym one))
put_over false c d e rest n g o is step below = ap (λ (xs : List ChannelNumbers). channel_numbers c ∷ xs) (below is)

put_numbers : (cs : List ChannelState) (d e : ChannelState) (n : ℕ) (g : ChannelNumbers → ChannelNumbers) → first (asks_number n) cs ≡ Some e → channel_numbers d ≡ g (channel_numbers e)
    → all_numbers (at_first (asks_number n) (λ _. d) cs) ≡ n_at_first (n_asks_number n) g (all_numbers cs)
put_numbers [] d e n g is step = refl
put_numbers (c ∷ cs) d e n g is step = put_over (asks_number n c) c d e cs n g (first (asks_number n) cs) is step (λ f. put_numbers cs d e n g f step)

abbrev AreOf : ClientState → Answered → ClientNumbers → Type 0
AreOf c a n = HasNumbers c (by_channels c a) n

taken_by_numbers : (c : ClientState) (e : ChannelState) (n : ℕ) (r : ChannelReply) (o : Result ChannelState WeaveFault) → channel_replied_by e r ≡ o → first (asks_number n) c.channels ≡ Some e
    → AreOf c (taken_by c.channels n o) (record (client_numbers c) { channels = n_at_first (n_asks_number n) (n_channel_answered r) (all_numbers c.channels) })
taken_by_numbers c e n r (Ok d) is at = ap (λ (l : List ChannelNumbers). record (client_numbers c) { channels = l }) (put_numbers c.channels d e n (n_channel_answered r) at (channel_taken e d r is))
taken_by_numbers c e n r (Err cause) is at = tt

none_over : (b : Bool) (c : ChannelState) (o : Option ChannelState) (x : ChannelNumbers) (xs ys : List ChannelNumbers) → cond b (Some c) o ≡ None → (o ≡ None → all_numbers (c ∷ []) ++ xs ≡ channel_numbers c ∷ ys) → channel_numbers c ∷ xs ≡ cond b (x ∷ xs) (channel_numbers c ∷ ys)
none_over true c o x xs ys none same = absurd cc
none_over false c o x xs ys none same = same none

none_put : (cs : List ChannelState) (n : ℕ) (g : ChannelNumbers → ChannelNumbers) → first (asks_number n) cs ≡ None → all_numbers cs ≡ n_at_first (n_asks_number n) g (all_numbers cs)
none_put [] n g none = refl
none_put (c ∷ cs) n g none =
    none_over (asks_number n c) c (first (asks_number n) cs) (g (channel_numbers c)) (all_numbers cs) (n_at_first (n_asks_number n) g (all_numbers cs)) none
    (λ f. ap (λ (xs : List ChannelNumbers). channel_numbers c ∷ xs) (none_put cs n g f))

answered_numbers : (c : ClientState) (n : ℕ) (r : ChannelReply) (o : Option ChannelState) → first (asks_number n) c.channels ≡ o
    → AreOf c (answered_by c.channels n r o) (record (client_numbers c) { channels = n_at_first (n_asks_number n) (n_channel_answered r) (all_numbers c.channels) })
answered_numbers c n r None at = ap (λ (l : List ChannelNumbers). record (client_numbers c) { channels = l }) (none_put c.channels n (n_channel_answered r) at)
answered_numbers c n r (Some e) at = taken_by_numbers c e n r (channel_replied_by e r) refl at

channels_numbers : (c : ClientState) (n : ℕ) (r : Reply) → HasNumbers c (channel_replied c n r) (n_channel_replied (client_numbers c) n r)
channels_numbers c n (State state) = tt
channels_numbers c n (Empty date seq) = tt
channels_numbers c n (Difference news secrets others settings state last) = tt
channels_numbers c n (ChannelAnswer reply) = answered_numbers c n reply (first (asks_number n) c.channels) refl
channels_numbers c n (Receipt receipt) = tt
channels_numbers c n (Error code text) = tt

some_cond : (b : Bool) (x : ChannelState) (y : ChannelNumbers) (o : Option ChannelState) (q : Option ChannelNumbers) → is_some o ≡ is_some q → is_some (cond b (Some x) o) ≡ is_some (cond b (Some y) q)
some_cond true x y o q is = refl
some_cond false x y o q is = is

asker_numbers : (cs : List ChannelState) (n : ℕ) → is_some (first (asks_number n) cs) ≡ is_some (n_first (n_asks_number n) (all_numbers cs))
asker_numbers [] n = refl
asker_numbers (c ∷ cs) n = some_cond (asks_number n c) c (channel_numbers c) (first (asks_number n) cs) (n_first (n_asks_number n) (all_numbers cs)) (asker_numbers cs n)

either : (c : ClientState) (b : Bool) (o p : Outcome) (x y : ClientNumbers) → HasNumbers c o x → HasNumbers c p y → HasNumbers c (cond b o p) (cond b x y)
either c true o p x y a d = a
either c false o p x y a d = d

pub replied_numbers : (c : ClientState) (n : ℕ) (r : Reply) → HasNumbers c (replied c n r) (n_replied (client_numbers c) n r)
replied_numbers c n r =
    subst (λ (b : Bool). HasNumbers c (replied c n r) (cond (is_asking n c.common.mode) (n_group_replied (client_numbers c) r) (cond b (n_channel_replied (client_numbers c) n r) (client_numbers c)))) (asker_numbers c.channels n)
    (either c (is_asking n c.common.mode) (group_replied c r) (cond (is_some (first (asks_number n) c.channels)) (channel_replied c n r) ignored) (n_group_replied (client_numbers c) r) (cond (is_some (first (asks_number n) c.channels)) (n_channel_replied (client_numbers c) n r) (client_numbers c))
    (group_numbers c r)
    (either c (is_some (first (asks_number n) c.channels)) (channel_replied c n r) ignored (n_channel_replied (client_numbers c) n r) (client_numbers c) (channels_numbers c n r) refl))

pub becomes_numbers : (c d : ClientState) (n : ℕ) (r : Reply) → replied c n r ≡ becomes d → client_numbers d ≡ n_replied (client_numbers c) n r
becomes_numbers c d n r is = subst (λ (o : Outcome). HasNumbers c o (n_replied (client_numbers c) n r)) is (replied_numbers c n r)

-- asking

abbrev pub to_none : EventView → Unit {0}
to_none e = tt

asks_over : (b : Bool) (c : ClientState) → client_numbers (cond {A = Asked} b (record { client = group_asks c; asks = difference_of c ∷ [] }) (record { client = c; asks = [] })).client ≡ cond b (n_group_asks (client_numbers c)) (client_numbers c)
asks_over true c = refl
asks_over false c = refl

pub due_numbers : (c : ClientState) → group_is_due c ≡ n_group_is_due (client_numbers c)
due_numbers c = sym (ap (λ (n : ℕ). is_due c.flag n c.common.mode) (omega (arith, len_mapped to_none c.common.held, len_mapped to_none c.secret.held, len_mapped (λ p. p.date) c.settings.held)))

group_ticked_numbers : (c : ClientState) → client_numbers (group_ticked c).client ≡ n_group_ticked (client_numbers c)
group_ticked_numbers c = asks_over (group_is_due c) c ∙ ap (λ (b : Bool). cond b (n_group_asks (client_numbers c)) (client_numbers c)) (due_numbers c)

abbrev of_ticked : Ticked → NumbersTicked
of_ticked t = record { next = t.next; channels = all_numbers t.channels }

ticked_over : (b : Bool) (n : ℕ) (c : ChannelState) (t u : Ticked) → of_ticked (cond b (and_asks n c t) (and_waits c u)) ≡ cond b (record { next = t.next; channels = n_channel_asks (channel_numbers c) n ∷ all_numbers t.channels }) (record { next = u.next; channels = channel_numbers c ∷ all_numbers u.channels })
ticked_over true n c t u = refl
ticked_over false n c t u = refl

ticked_numbers : (n : ℕ) (cs : List ChannelState) → of_ticked (ticked n cs) ≡ n_ticked n (all_numbers cs)
ticked_numbers n [] = refl
ticked_numbers n (c ∷ cs) =
    ticked_over (channel_is_due c) n c (ticked (n + 1) cs) (ticked n cs)
    ∙ ap₂ (λ (t u : NumbersTicked). cond (channel_is_due c) (record { next = t.next; channels = n_channel_asks (channel_numbers c) n ∷ t.channels }) (record { next = u.next; channels = channel_numbers c ∷ u.channels })) (ticked_numbers (n + 1) cs) (ticked_numbers n cs)
    ∙ ap (λ (k : ℕ). cond (is_due c.flag k c.lane.mode) (record { next = (n_ticked (n + 1) (all_numbers cs)).next; channels = n_channel_asks (channel_numbers c) n ∷ (n_ticked (n + 1) (all_numbers cs)).channels }) (record { next = (n_ticked n (all_numbers cs)).next; channels = channel_numbers c ∷ (n_ticked n (all_numbers cs)).channels })) (sym (len_mapped to_none c.lane.held))

abbrev with_ticked : ClientNumbers → NumbersTicked → ClientNumbers
with_ticked g t = record g { next = t.next; channels = t.channels }

pub ticks_numbers : (c : ClientState) → client_numbers (ticks c).client ≡ n_ticks (client_numbers c)
ticks_numbers c =
    let a : Asked = group_ticked c in
    ap (λ (t : NumbersTicked). with_ticked (client_numbers a.client) t) (ticked_numbers a.client.next a.client.channels)
    ∙ ap (λ (g : ClientNumbers). with_ticked g (n_ticked g.next g.channels)) (group_ticked_numbers c)

pub wakes_numbers : (c : ClientState) → client_numbers (wakes c) ≡ n_wakes (client_numbers c)
wakes_numbers c = ap (λ (l : List ChannelNumbers). record (client_numbers c) { flag = true; channels = l }) (map_numbers flagged n_flagged (λ _. refl) c.channels)

channels_restarted : (cs : List ChannelState) → all_numbers (woken (forgotten cs)) ≡ map n_channel_restarted (all_numbers cs)
channels_restarted [] = refl
channels_restarted (c ∷ cs) = ap₂ (λ (l : LaneNumbers) (xs : List ChannelNumbers). record { id = c.id; lane = l; flag = true } ∷ xs) (lane_forgot c.lane) (channels_restarted cs)

pub restarted_numbers : (c : ClientState) → client_numbers (restarted c) ≡ n_client_restarted (client_numbers c)
restarted_numbers c = λ i. record {
  next = c.next;
  common = lane_forgot c.common i;
  secret = lane_forgot c.secret i;
  settings = forgot_settings c.settings i;
  flag = true;
  channels = channels_restarted c.channels i;
}

watched_over : (b : Bool) (c : ClientState) (id : ℤ) → client_numbers (record c { channels = watched_if b c.channels (channel_of id new_lane []) }) ≡ n_watched_if b (client_numbers c) id
watched_over true c id =
    ap (λ (l : List ChannelNumbers). record (client_numbers c) { channels = l }) (map-append channel_numbers c.channels (channel_of id new_lane [] ∷ []))
    ∙ ap (λ (h : Items (Unit {0})). record (client_numbers c) { channels = all_numbers c.channels ++ record { id = id; lane = record { restart = 0; events = []; at = 0; held = h; mode = Live }; flag = false } ∷ [] }) (mapped_empty to_none)
watched_over false c id = refl

pub watched_numbers : (c : ClientState) (id : ℤ) → client_numbers (record c { channels = watched c.channels id }) ≡ n_watched_if (may_watch c.channels id) (client_numbers c) id
watched_numbers c id = watched_over (may_watch c.channels id) c id

new_lane_numbers : lane_numbers {E = EventView} new_lane ≡ new_lane
new_lane_numbers = ap (λ (h : Items (Unit {0})). record { restart = 0; events = []; at = 0; held = h; mode = Live }) (mapped_empty to_none)

pub new_numbers : client_numbers new_client ≡ n_new_client
new_numbers = λ i. record {
  next = 1;
  common = new_lane_numbers i;
  secret = new_lane_numbers i;
  settings = record { at = 0; date = 0; held = mapped_empty (λ (p : Pack). p.date) i; mode = Live };
  flag = false;
  channels = [];
}
