-- A client's numbers and lists stay within limits as it goes on.
use Rattle.std.specs.Prelude.{ltb, is_some, ◌&&◌, zero, suc}
use Rattle.std.proofs.Common.{◌≡◌, ◌⊎◌, inl, inr, ℕ, ◌+◌, ◌-◌, ◌<◌, ◌≤◌, List, [], ◌∷◌, ◌++◌, length, map as each, cond, Bool, true, false, Option, Some, None, Result, Ok, Err, refl, sym, ap, subst, arith}
use Rattle.std.specs.List.{All, sum_by}
use Rattle.std.specs.FinMap.{len}
use Rattle.std.proofs.lemmas.Bool.Decides.{nat_tests}
use Rattle.std.proofs.lemmas.List.{length-append, length-map}
use Rattle.std.proofs.lemmas.List.Sums.{sum_by-cons}
use Rattle.std.proofs.lemmas.List.Elements.{All-nil, All-cons, All-head, All-tail, All-push}
use Rattle.pts_machine.specs.Holding.{Items}
use Rattle.box_events.specs.Events.{EventView, added, count_of}
use Rattle.box_events.specs.Boxes.{AreCounted}
use Rattle.box_events.specs.SettingLists.{Values}
use Rattle.box_events.specs.declared.limits.TheConstants.{MAX_CHANNELS, MAX_END}
use Rattle.box_events.specs.declared.settings.Setting.{Setting}
use Rattle.box_events.specs.declared.updates.Placed.{Placed}
use Rattle.box_events.specs.declared.updates.Update.{Update}
use Rattle.box_events.specs.declared.updates.Update.TheVariants as update
use Rattle.box_events.specs.declared.updates.Push.{Push}
use Rattle.box_events.specs.declared.updates.Push.TheVariants as push
use Rattle.box_events.specs.declared.replies.ChannelReply.{ChannelReply}
use Rattle.box_events.specs.declared.replies.ChannelReply.TheVariants as channel
use Rattle.box_events.specs.declared.replies.Reply.{Reply}
use Rattle.box_events.specs.declared.replies.Reply.TheVariants as reply
use Rattle.pts_machine.specs.Chains.{chain, reach}
use Rattle.pts_machine.specs.States.{AreSized, IsSound, LaneState}
use Rattle.pts_machine.specs.Steps.{asked, extend, hear, new_lane, restart_at, settle, Hears}
use Rattle.pts_machine.specs.declared.mode.Mode.TheVariants.{Live}
use Rattle.pts_machine.specs.declared.seen.Seen.{Seen}
use Rattle.pts_machine.specs.declared.seen.Seen.TheVariants.{Applied, Already, Held, Dropped}
use Rattle.pts_machine.proofs.Ends.{look, none_at, some_at, reach_limit, reach_sum}
use Rattle.pts_machine.proofs.Kept.{hears, sound_asked, sound_extend, sound_hear, sound_new, sound_restart}
use Rattle.pts_machine.specs.Packs.{Pack, pack_of, puts, puts_all, size}
use Rattle.pts_machine.specs.SeqStates.{IsSoundState, SettingsState, applied, hear_pack, lane_of, overlaid}
use Rattle.pts_machine.proofs.StateSteps as soundness
use Rattle.pts_machine.proofs.Stores.{len_puts}
use Rattle.box_events.specs.DifferenceLaws.{AreCountedOthers}
use Rattle.box_events.specs.Refusal.{AreOthers}
use Rattle.box_events.specs.Weaves.{woven_of}
use Rattle.box_events.specs.declared.difference_fault.WeaveFault.{WeaveFault}
use Rattle.box_events.proofs.Made.{is_woven_of_others, keeps_counts, reaches}
use Rattle.channel_box.specs.States.{ChannelState, first, has_id}
use Rattle.channel_box.specs.Steps as boxes
use Rattle.channel_box.proofs.Brought.{ending_sums, few_counted}
use Rattle.box_client.specs.declared.received.Received.{Received}
use Rattle.box_client.specs.Ranges.{AreUpdatesInRange, IsPushInRange, IsReplyInRange, IsSeqInRange, IsUpdateInRange}
use Rattle.box_client.specs.States.{ClientState}
use Rattle.box_client.specs.Pushes.{updated, all_updated, settings_in, pack_heard, pushed}
use Rattle.box_client.specs.Replies.{ignored, becomes, nothing_new, group_done, group_taken, group_woven, brings, group_replied, by_channels, channel_replied, replied}
use Rattle.box_client.specs.Asking.{group_is_due, group_asks, difference_of, channels_ticked, ticks, wakes}
use Rattle.wire_values.specs.CarriedFrames.{FitsReply, IsPush, IsUpdate, IsWord}
use Rattle.box_world.specs.Spelled.{HoldsAll}
use Rattle.box_world.proofs.FittingClients.{asked_all, extend_all, hear_all, new_all, restart_all}

-- ---- lanes

abbrev pub Counts : EventView → Type 0
Counts e = 1 ≤ count_of e

-- its numbers are in limits, and each of its events counts
pub record LowLane (t : LaneState EventView) : Type 0 where
  pub sound : IsSound count_of t
  pub counts : HoldsAll Counts t

pub all_counts : (xs : List EventView) → AreCounted xs → All Counts xs
all_counts [] h = All-nil Counts
all_counts (x ∷ xs) h = All-cons Counts x xs h.0 (all_counts xs h.1)

counted_all : (xs : List EventView) → All Counts xs → AreCounted xs
counted_all [] h = tt
counted_all (x ∷ xs) h = (All-head Counts x xs h, counted_all xs (All-tail Counts x xs h))

-- it has fewer events than numbers
pub few_events : (t : LaneState EventView) → LowLane t → t.restart + length t.events ≤ t.at
few_events t h =
    let few = few_counted t.events (counted_all t.events h.counts.events) in
    let all = ending_sums t.events in
    let is = h.sound.position in
    omega (arith, few, all, is)

pub lane_new : LowLane new_lane
lane_new = record { sound = sound_new count_of; counts = new_all Counts }

lane_asked : (t : LaneState EventView) (n : ℕ) → LowLane t → LowLane (asked t n)
lane_asked t n h = record { sound = sound_asked count_of t n h.sound; counts = asked_all Counts t n h.counts }

lane_heard : (t : LaneState EventView) (end : ℕ) (e : EventView) → Counts e → count_of e ≤ end → end ≤ MAX_END → LowLane t → LowLane (hear t (end - count_of e) end e).state
lane_heard t end e counts low limit h =
    record { sound = sound_hear count_of t (end - count_of e) end e h.sound (omega (arith, counts, low)) (omega (arith, low)) (omega (arith, limit)); counts = hear_all Counts t (end - count_of e) end e counts h.counts }

lane_woven : (t : LaneState EventView) (to : ℕ) (news : List (List ℕ)) (others : List Placed) (last : Bool) (xs : List EventView) → woven_of t.at to news others ≡ Ok xs → to ≤ MAX_END → AreOthers others → AreCountedOthers others → LowLane t
    → LowLane (extend count_of t xs last)
lane_woven t to news others last xs is limit are counted h =
    let all = all_counts xs (keeps_counts t.at to news others xs counted (is_woven_of_others t.at to news others xs are is)) in
    let sum = ending_sums xs in
    let far = reaches t.at to news others xs is in
    record { sound = sound_extend count_of t xs last h.sound (omega (arith, sum, far, limit)); counts = extend_all Counts count_of t xs last h.counts all }

lane_restarted : (t : LaneState EventView) (p : ℕ) → p ≤ MAX_END → LowLane t → LowLane (restart_at count_of t p)
lane_restarted t p limit h = record { sound = sound_restart count_of t p h.sound (omega (arith, limit)); counts = restart_all Counts count_of t p h.counts }

-- ---- settings

-- there are no more keys than numbers, and than so many beside them
pub record LowSettings (d : ℕ) (b : SettingsState) : Type 0 where
  pub sound : IsSoundState b
  pub at : IsWord b.at
  pub low : len b.table ≤ b.at + d
  pub few : len b.table ≤ 1000000 + d

len_all : (m : Values) (ps : List Pack) → len (puts_all m ps) ≤ len m + sum_by size ps
len_all m [] = omega arith
len_all m (p ∷ ps) =
    let one = len_puts m p.settings in
    let more = len_all (puts m p.settings) ps in
    let sum = sum_by-cons size p ps in
    omega (arith, one, more, sum)

-- a chain ends where it starts, or below the limit
reach_either : (n p : ℕ) (m : Items Pack) → AreSized size m → (reach n p m ≡ p) ⊎ (reach n p m ≤ 1000000)
unfolding reach
reach_either zero p m sized = inl refl
reach_either (suc n) p m sized = elim (look m p) [
  | none_at e ↦ inl (rw e refl)
  | some_at x e ↦ inr (rw e (reach_limit size n x.0 m sized (sized p x e).2))
]

-- what is settled of packs up to p
settled : (d p : ℕ) (b : SettingsState) (table : Values) → AreSized size b.held → IsWord p → len table ≤ p + d → len table ≤ 1000000 + d → IsSoundState (applied (record b { at = p; table = table; mode = Live }) (settle (lane_of (record b { at = p; table = table; mode = Live }))))
    → LowSettings d (applied (record b { at = p; table = table; mode = Live }) (settle (lane_of (record b { at = p; table = table; mode = Live }))))
unfolding settle
settled d p b table sized word low few sound =
    let more = len_all table (chain (len b.held) p b.held) in
    let sum = reach_sum size (len b.held) p b.held sized in
    elim (reach_either (len b.held) p b.held sized) [
      | inl is ↦ record { sound = sound; at = omega (arith, is, word); low = omega (arith, more, sum, is, low); few = omega (arith, more, sum, is, few) }
      | inr le ↦ record { sound = sound; at = omega (arith, le); low = omega (arith, more, sum, low); few = omega (arith, more, sum, le, low) }
    ]

overlaid_low : (d : ℕ) (b : SettingsState) (xs : List Setting) (seq date : ℕ) → LowSettings d b → b.at ≤ seq → IsWord seq → LowSettings (d + length xs) (overlaid b xs seq date)
unfolding overlaid
overlaid_low d b xs seq date h le word =
    let put = len_puts b.table xs in
    let low = h.low in
    let few = h.few in
    settled (d + length xs) seq (record b { date = date }) (puts b.table xs) h.sound.sized word (omega (arith, put, low, le)) (omega (arith, put, few)) (soundness.sound_overlaid b xs seq date h.sound)

-- of a pack that is heard
pack_by : (d : ℕ) (b : SettingsState) (start end : ℕ) (p : Pack) (r : Seen) (u : LaneState Pack) → LowSettings d b → end ≡ start + size p → end ≤ 1000000 → IsSoundState (applied b u) → Hears (lane_of b) start end p r u → LowSettings d (applied b u)
unfolding settle
pack_by d b start end p Already u h is le sound told = subst (λ (v : LaneState Pack). LowSettings d (applied b v)) (sym told.1) (record { sound = record { sized = h.sound.sized; ahead = h.sound.ahead }; at = h.at; low = h.low; few = h.few })
pack_by d b start end p Dropped u h is le sound told = subst (λ (v : LaneState Pack). LowSettings d (applied b v)) (sym told.3) (record { sound = record { sized = h.sound.sized; ahead = h.sound.ahead }; at = h.at; low = h.low; few = h.few })
pack_by d b start end p Held u h is le sound told =
    record { sound = sound; at = subst (λ (v : LaneState Pack). IsWord v.at) (sym told.3) h.at; low = subst (λ (v : LaneState Pack). len (puts_all b.table v.events) ≤ v.at + d) (sym told.3) h.low; few = subst (λ (v : LaneState Pack). len (puts_all b.table v.events) ≤ 1000000 + d) (sym told.3) h.few }
pack_by d b start end p (Applied to) u h is le sound told =
    let here : start ≡ b.at = told.1.1 in
    let one = len_puts b.table p.settings in
    let more = len_all (puts b.table p.settings) (chain (len b.held) end b.held) in
    let sum = reach_sum size (len b.held) end b.held h.sound.sized in
    let far = reach_limit size (len b.held) end b.held h.sound.sized le in
    let low = h.low in
    let at_end : u.at ≡ reach (len b.held) end b.held = ap (λ (v : LaneState Pack). v.at) told.2 in
    let events : u.events ≡ p ∷ chain (len b.held) end b.held = ap (λ (v : LaneState Pack). v.events) told.2 in
    let table : len (puts_all b.table u.events) ≡ len (puts_all b.table (p ∷ chain (len b.held) end b.held)) = ap (λ (l : List Pack). len (puts_all b.table l)) events in
    record { sound = sound; at = omega (arith, at_end, far); low = omega (arith, here, one, more, sum, low, at_end, table, is); few = omega (arith, here, one, more, sum, low, at_end, table, far, is) }

pack_low : (d : ℕ) (b : SettingsState) (start end : ℕ) (p : Pack) → LowSettings d b → start < end → end ≡ start + size p → end ≤ 1000000 → LowSettings d (hear_pack b start end p).state
unfolding hear_pack
pack_low d b start end p h lt is le = pack_by d b start end p _ _ h is le (soundness.sound_hear b start end p h.sound lt is le) (hears (lane_of b) start end p)

more_low : (d e : ℕ) (b : SettingsState) → d ≤ e → LowSettings d b → LowSettings e b
more_low d e b le h =
    let low = h.low in
    let few = h.few in
    record { sound = h.sound; at = h.at; low = omega (arith, le, low); few = omega (arith, le, few) }

-- ---- channels

abbrev pub LowChannel : ChannelState → Type 0
LowChannel c = LowLane c.lane

first_by : (b : Bool) (c d : ChannelState) (cs ds : List ChannelState) → LowChannel d → All LowChannel (c ∷ cs) → All LowChannel ds → All LowChannel (cond b (d ∷ cs) (c ∷ ds))
first_by true c d cs ds is all more = All-cons LowChannel d cs is (All-tail LowChannel c cs all)
first_by false c d cs ds is all more = All-cons LowChannel c ds (All-head LowChannel c cs all) more

first_low : (p : ChannelState → Bool) (f : ChannelState → ChannelState) (cs : List ChannelState) → ((c : ChannelState) → LowChannel c → LowChannel (f c)) → All LowChannel cs → All LowChannel (boxes.at_first p f cs)
first_low p f [] law all = all
first_low p f (c ∷ cs) law all = first_by (p c) c (f c) cs (boxes.at_first p f cs) (law c (All-head LowChannel c cs all)) all (first_low p f cs law (All-tail LowChannel c cs all))

long_by : (b : Bool) (c d : ChannelState) (cs ds : List ChannelState) → length ds ≡ length cs → length (cond b (d ∷ cs) (c ∷ ds)) ≡ length (c ∷ cs)
long_by true c d cs ds is = refl
long_by false c d cs ds is = ap (λ (n : ℕ). suc n) is

first_long : (p : ChannelState → Bool) (f : ChannelState → ChannelState) (cs : List ChannelState) → length (boxes.at_first p f cs) ≡ length cs
first_long p f [] = refl
first_long p f (c ∷ cs) = long_by (p c) c (f c) cs (boxes.at_first p f cs) (first_long p f cs)

flagged_low : (cs : List ChannelState) → All LowChannel cs → All LowChannel (each boxes.flagged cs)
flagged_low [] all = all
flagged_low (c ∷ cs) all = All-cons LowChannel (boxes.flagged c) (each boxes.flagged cs) (All-head LowChannel c cs all) (flagged_low cs (All-tail LowChannel c cs all))

-- a tick of channels
record TicksLow (cs : List ChannelState) (t : boxes.Ticked) : Type 0 where
  low : All LowChannel t.channels
  long : length t.channels ≡ length cs
  few : length t.asks ≤ length cs

ticked_by : (b : Bool) (n : ℕ) (c : ChannelState) (cs : List ChannelState) (t u : boxes.Ticked) → LowChannel c → TicksLow cs t → TicksLow cs u → TicksLow (c ∷ cs) (cond b (boxes.and_asks n c t) (boxes.and_waits c u))
ticked_by true n c cs t u is x y =
    let few = x.few in
    record { low = All-cons LowChannel (boxes.channel_asks c n) t.channels (lane_asked c.lane n is) x.low; long = ap (λ (k : ℕ). suc k) x.long; few = omega (arith, few) }
ticked_by false n c cs t u is x y =
    let few = y.few in
    record { low = All-cons LowChannel c u.channels is y.low; long = ap (λ (k : ℕ). suc k) y.long; few = omega (arith, few) }

ticked_low : (n : ℕ) (cs : List ChannelState) → All LowChannel cs → TicksLow cs (boxes.ticked n cs)
ticked_low n [] all = record { low = all; long = refl; few = omega arith }
ticked_low n (c ∷ cs) all =
    let rest = All-tail LowChannel c cs all in
    ticked_by (boxes.channel_is_due c) n c cs (boxes.ticked (n + 1) cs) (boxes.ticked n cs) (All-head LowChannel c cs all) (ticked_low (n + 1) cs rest) (ticked_low n cs rest)

-- the first of which something holds is one of them
found_by : (b : Bool) (c d : ChannelState) (o : Option ChannelState) → cond b (Some c) o ≡ Some d → LowChannel c → (o ≡ Some d → LowChannel d) → LowChannel d
found_by true c d o is h law = subst LowChannel (some_is c d is) h
  where
    some_is : (x y : ChannelState) → Some x ≡ Some y → x ≡ y
    some_is x y e = cc
found_by false c d o is h law = law is

found_low : (p : ChannelState → Bool) (cs : List ChannelState) (d : ChannelState) → first p cs ≡ Some d → All LowChannel cs → LowChannel d
found_low p [] d is all = absurd cc
found_low p (c ∷ cs) d is all = found_by (p c) c d (first p cs) is (All-head LowChannel c cs all) (λ found. found_low p cs d found (All-tail LowChannel c cs all))

-- ---- clients

-- a client whose lanes and settings are in limits
pub record LowClient (d : ℕ) (c : ClientState) : Type 0 where
  pub common : LowLane c.common
  pub secret : LowLane c.secret
  pub settings : LowSettings d c.settings
  pub lanes : All LowChannel c.channels
  pub few : length c.channels ≤ MAX_CHANNELS

long_few : (cs ds : List ChannelState) → length ds ≡ length cs → length cs ≤ MAX_CHANNELS → length ds ≤ MAX_CHANNELS
long_few cs ds is le = omega (arith, is, le)

-- ---- pushes

update_low : (d : ℕ) (c : ClientState) (u : Update) → IsUpdate u → IsUpdateInRange u → LowClient d c → LowClient d (updated c u)
update_low d c (update.Common event pts) is range h = record { common = lane_heard c.common pts event is.0 range.0 range.1 h.common; secret = h.secret; settings = h.settings; lanes = h.lanes; few = h.few }
update_low d c (update.Secret body qts) is range h = record { common = h.common; secret = lane_heard c.secret qts (added body) (omega arith) range.0 range.1 h.secret; settings = h.settings; lanes = h.lanes; few = h.few }
update_low d c (update.Channel id event pts) is range h = record {
  common = h.common;
  secret = h.secret;
  settings = h.settings;
  lanes = first_low (has_id id) _ c.channels (λ e g. lane_heard e.lane pts event is.0 range.0 range.1 g) h.lanes;
  few = long_few c.channels _ (first_long (has_id id) _ c.channels) h.few;
}
update_low d c (update.ChannelTooLong id) is range h = record {
  common = h.common;
  secret = h.secret;
  settings = h.settings;
  lanes = first_low (has_id id) boxes.flagged c.channels (λ e g. g) h.lanes;
  few = long_few c.channels _ (first_long (has_id id) boxes.flagged c.channels) h.few;
}
update_low d c (update.Setting x) is range h = h

updates_low : (d : ℕ) (c : ClientState) (us : List Update) → All IsUpdate us → AreUpdatesInRange us → LowClient d c → LowClient d (all_updated c us)
updates_low d c [] all range h = h
updates_low d c (u ∷ us) all range h = updates_low d (updated c u) us (All-tail IsUpdate u us all) range.1 (update_low d c u (All-head IsUpdate u us all) range.0 h)

above_none : (n : ℕ) → ltb 0 n ≡ true → 0 < n
above_none n is = grind (arith, nat_tests)

pack_so : (d : ℕ) (b : Bool) (c : ClientState) (start seq date : ℕ) (xs : List Setting) → (b ≡ true → IsSeqInRange start seq (length xs)) → LowClient d c → LowClient d (pack_heard b c start seq date xs)
pack_so d true c start seq date xs range h =
    let r = range refl in
    let low = r.low in
    let order = r.order in
    let limit = r.limit in
    let number = r.number in
    record {
      common = h.common;
      secret = h.secret;
      settings = pack_low d c.settings (start - 1) seq (pack_of date xs) h.settings (omega (arith, low, order)) (omega (arith, low, order, number)) (omega (arith, limit));
      lanes = h.lanes;
      few = h.few;
    }
pack_so d false c start seq date xs range h = h

pub push_low : (d : ℕ) (c : ClientState) (p : Push) → IsPush p → IsPushInRange p → LowClient d c → LowClient d (pushed c p)
push_low d c push.TooLong is range h = record { common = h.common; secret = h.secret; settings = h.settings; lanes = h.lanes; few = h.few }
push_low d c (push.Container us date start seq) is range h =
    pack_so d (ltb 0 seq) (all_updated c us) start seq date (settings_in us) (λ some. range.1 (above_none seq some)) (updates_low d c us is.0 range.0 h)

-- ---- replies

-- how many settings a reply brings
abbrev pub settings_of : Reply → ℕ
settings_of (reply.Difference news secrets others settings state last) = length settings
settings_of r = 0

becomes_is : (c d : ClientState) → becomes c ≡ becomes d → c ≡ d
becomes_is c d e = cc

ok_is : {A B : Type 0} (x y : A) → ◌≡◌ {A = Result A B} (Ok x) (Ok y) → x ≡ y
ok_is x y e = cc

done_low : (d : ℕ) (last : Bool) (c : ClientState) (b : Received) (xs ys : List EventView) → (last ≡ true → c.settings.at ≤ b.state.seq) → IsWord b.state.seq → LowClient d c → LowLane (extend count_of c.common xs last) → LowLane (extend count_of c.secret ys last)
    → LowClient (d + length b.settings) (group_done last c b xs ys)
done_low d true c b xs ys up word h x y = record { common = x; secret = y; settings = overlaid_low d c.settings b.settings b.state.seq b.state.date h.settings (up refl) word; lanes = h.lanes; few = h.few }
done_low d false c b xs ys up word h x y = record {
  common = x;
  secret = y;
  settings = record { sound = soundness.sound_again c.settings h.settings.sound; at = h.settings.at; low = (let low = h.settings.low in omega (arith, low)); few = (let few = h.settings.few in omega (arith, few)) };
  lanes = h.lanes;
  few = h.few;
}

not_back : (last : Bool) (n m : ℕ) → (last && ltb n m) ≡ false → last ≡ true → m ≤ n
not_back true n m is e = grind (arith, nat_tests)
not_back false n m is e = absurd cc

taken_low : (d : ℕ) (back : Bool) (c : ClientState) (b : Received) (xs ys : List EventView) (e : ClientState) → group_taken back c b xs ys ≡ becomes e → (back ≡ false → b.last ≡ true → c.settings.at ≤ b.state.seq) → IsWord b.state.seq → LowClient d c
    → LowLane (extend count_of c.common xs b.last) → LowLane (extend count_of c.secret ys b.last) → LowClient (d + length b.settings) e
taken_low d true c b xs ys e is up word h x y = absurd cc
taken_low d false c b xs ys e is up word h x y = subst (LowClient (d + length b.settings)) (becomes_is (group_done b.last c b xs ys) e is) (done_low d b.last c b xs ys (up refl) word h x y)

woven_low : (d : ℕ) (c : ClientState) (b : Received) (o p : Result (List EventView) WeaveFault) (e : ClientState) → group_woven c b o p ≡ becomes e → IsWord b.state.seq → LowClient d c → ((xs : List EventView) → o ≡ Ok xs → LowLane (extend count_of c.common xs b.last))
    → ((ys : List EventView) → p ≡ Ok ys → LowLane (extend count_of c.secret ys b.last)) → LowClient (d + length b.settings) e
woven_low d c b (Err cause) p e is word h x y = absurd cc
woven_low d c b (Ok xs) (Err cause) e is word h x y = absurd cc
woven_low d c b (Ok xs) (Ok ys) e is word h x y = taken_low d (b.last && ltb b.state.seq c.settings.at) c b xs ys e is (λ back last. not_back b.last b.state.seq c.settings.at back last) word h (x xs refl) (y ys refl)

record IsReceived (b : Received) : Type 0 where
  common : b.state.pts ≤ MAX_END
  secret : b.state.qts ≤ MAX_END
  seq : IsWord b.state.seq
  are : AreOthers b.others
  counted : AreCountedOthers b.others

brings_low : (d : ℕ) (c : ClientState) (b : Received) (e : ClientState) → brings c b ≡ becomes e → LowClient d c → IsReceived b → LowClient (d + length b.settings) e
brings_low d c b e is h f =
    woven_low d c b (woven_of c.common.at b.state.pts b.news b.others) (woven_of c.secret.at b.state.qts b.secrets []) e is f.seq h
    (λ xs same. lane_woven c.common b.state.pts b.news b.others b.last xs same f.common f.are f.counted h.common) (λ ys same. lane_woven c.secret b.state.qts b.secrets [] b.last ys same f.secret tt tt h.secret)

lane_limit : (t : LaneState EventView) → LowLane t → t.at ≤ MAX_END
lane_limit t h = let limit = h.sound.limit in omega (arith, limit)

group_low : (d : ℕ) (c : ClientState) (r : Reply) (e : ClientState) → group_replied c r ≡ becomes e → LowClient d c → FitsReply r → IsReplyInRange r → LowClient (d + settings_of r) e
group_low d c (reply.State state) e is h f range = absurd cc
group_low d c (reply.Empty date seq) e is h f range = brings_low d c (nothing_new c date seq) e is h (record { common = lane_limit c.common h.common; secret = lane_limit c.secret h.secret; seq = f.1; are = tt; counted = tt })
group_low d c (reply.Difference news secrets others settings state last) e is h f range =
    brings_low d c _ e is h (record { common = range.0; secret = range.1; seq = f.5.3; are = range.4; counted = range.5 })
group_low d c (reply.Channel r) e is h f range = absurd cc
group_low d c (reply.Receipt receipt) e is h f range = absurd cc
group_low d c (reply.Error code text) e is h f range = absurd cc

grown_low : (c : ChannelState) (last : Bool) (o : Result (List EventView) WeaveFault) (e : ChannelState) → boxes.grown c last o ≡ Ok e → ((xs : List EventView) → o ≡ Ok xs → LowLane (extend count_of c.lane xs last)) → LowChannel e
grown_low c last (Err cause) e is x = absurd cc
grown_low c last (Ok xs) e is x = subst LowChannel (ok_is _ e is) (x xs refl)

channel_low : (c : ChannelState) (r : ChannelReply) (e : ChannelState) → boxes.replied c r ≡ Ok e → LowChannel c → IsReplyInRange (reply.Channel r) → LowChannel e
channel_low c (channel.Empty pts last) e is h range = grown_low c last (woven_of c.lane.at pts [] []) e is (λ xs same. lane_woven c.lane pts [] [] last xs same range tt tt h)
channel_low c (channel.Part pts news others last) e is h range = grown_low c last (woven_of c.lane.at pts news others) e is (λ xs same. lane_woven c.lane pts news others last xs same range.0 range.2 range.3 h)
channel_low c (channel.TooLong pts recent last) e is h range = subst LowChannel (ok_is _ e is) (lane_restarted c.lane pts range h)

by_channel : (d : ℕ) (c : ClientState) (n : ℕ) (o : Result ChannelState WeaveFault) (e : ClientState) → by_channels c (boxes.taken_by c.channels n o) ≡ becomes e → LowClient d c → ((x : ChannelState) → o ≡ Ok x → LowChannel x) → LowClient d e
by_channel d c n (Err cause) e is h law = absurd cc
by_channel d c n (Ok x) e is h law = subst (LowClient d) (becomes_is _ e is) (record {
  common = h.common;
  secret = h.secret;
  settings = h.settings;
  lanes = first_low (boxes.asks_number n) (λ y. x) c.channels (λ y g. law x refl) h.lanes;
  few = long_few c.channels _ (first_long (boxes.asks_number n) (λ y. x) c.channels) h.few;
})

answered_low : (d : ℕ) (c : ClientState) (n : ℕ) (r : ChannelReply) (o : Option ChannelState) (e : ClientState) → first (boxes.asks_number n) c.channels ≡ o → by_channels c (boxes.answered_by c.channels n r o) ≡ becomes e → LowClient d c → IsReplyInRange (reply.Channel r)
    → LowClient d e
answered_low d c n r None e at is h range = absurd cc
answered_low d c n r (Some x) e at is h range = by_channel d c n (boxes.replied x r) e is h (λ y found. channel_low x r y found (found_low (boxes.asks_number n) c.channels x at h.lanes) range)

more_client : (d e : ℕ) (c : ClientState) → d ≤ e → LowClient d c → LowClient e c
more_client d e c le h = record { common = h.common; secret = h.secret; settings = more_low d e c.settings le h.settings; lanes = h.lanes; few = h.few }

channel_goes : (d : ℕ) (c : ClientState) (n : ℕ) (r : Reply) (e : ClientState) → channel_replied c n r ≡ becomes e → LowClient d c → IsReplyInRange r → LowClient (d + settings_of r) e
channel_goes d c n (reply.State state) e is h range = absurd cc
channel_goes d c n (reply.Empty date seq) e is h range = absurd cc
channel_goes d c n (reply.Difference news secrets others settings state last) e is h range = absurd cc
channel_goes d c n (reply.Channel r) e is h range = more_client d (d + 0) e (omega arith) (answered_low d c n r (first (boxes.asks_number n) c.channels) e refl is h range)
channel_goes d c n (reply.Receipt receipt) e is h range = absurd cc
channel_goes d c n (reply.Error code text) e is h range = absurd cc

reply_by : (d : ℕ) (asks waits : Bool) (c : ClientState) (n : ℕ) (r : Reply) (e : ClientState) → cond asks (group_replied c r) (cond waits (channel_replied c n r) ignored) ≡ becomes e → LowClient d c → FitsReply r → IsReplyInRange r → LowClient (d + settings_of r) e
reply_by d true waits c n r e is h f range = group_low d c r e is h f range
reply_by d false true c n r e is h f range = channel_goes d c n r e is h range
reply_by d false false c n r e is h f range = absurd cc

pub reply_low : (d : ℕ) (c : ClientState) (n : ℕ) (r : Reply) (e : ClientState) → replied c n r ≡ becomes e → LowClient d c → FitsReply r → IsReplyInRange r → LowClient (d + settings_of r) e
reply_low d c n r e is h f range = reply_by d (boxes.is_asking n c.common.mode) (is_some (first (boxes.asks_number n) c.channels)) c n r e is h f range

-- ---- by itself

-- a tick asks for all of 1 + MAX_CHANNELS at most
pub record TicksClient (d : ℕ) (c : ClientState) : Type 0 where
  pub low : LowClient d (ticks c).client
  pub few : length (ticks c).asks ≤ 1 + MAX_CHANNELS

group_ticks : (d : ℕ) (b : Bool) (c : ClientState) → LowClient d c → let t = channels_ticked (cond b (record { client = group_asks c; asks = difference_of c ∷ [] }) (record { client = c; asks = [] })) in LowClient d t.client × (length t.asks ≤ 1 + MAX_CHANNELS)
group_ticks d true c h =
    let t = ticked_low (c.next + 1) c.channels h.lanes in
    let few = t.few in
    let most = h.few in (
      record {
        common = lane_asked c.common c.next h.common;
        secret = lane_asked c.secret c.next h.secret;
        settings = record { sound = soundness.sound_asked c.settings c.next h.settings.sound; at = h.settings.at; low = h.settings.low; few = h.settings.few };
        lanes = t.low;
        few = long_few c.channels _ t.long h.few;
      },
      omega (arith, few, most),
    )
group_ticks d false c h =
    let t = ticked_low c.next c.channels h.lanes in
    let few = t.few in
    let most = h.few in
    (record { common = h.common; secret = h.secret; settings = h.settings; lanes = t.low; few = long_few c.channels _ t.long h.few }, omega (arith, few, most))

pub tick_low : (d : ℕ) (c : ClientState) → LowClient d c → TicksClient d c
tick_low d c h = let t = group_ticks d (group_is_due c) c h in record { low = t.0; few = t.1 }

pub wake_low : (d : ℕ) (c : ClientState) → LowClient d c → LowClient d (wakes c)
wake_low d c h = record { common = h.common; secret = h.secret; settings = h.settings; lanes = flagged_low c.channels h.lanes; few = long_few c.channels _ (length-map c.channels boxes.flagged) h.few }

pub add_low : (d : ℕ) (c : ClientState) (x : ChannelState) → LowChannel x → length c.channels < MAX_CHANNELS → LowClient d c → LowClient d (record c { channels = c.channels ++ x ∷ [] })
add_low d c x is less h =
    let long = length-append c.channels (x ∷ []) in
    record { common = h.common; secret = h.secret; settings = h.settings; lanes = All-push LowChannel c.channels x h.lanes is; few = omega (arith, long, less) }
