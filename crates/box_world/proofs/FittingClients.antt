-- Parts of a client keep their spelling as it goes on.
use Rattle.std.specs.Prelude.{zero, ltb, is_some, ◌&&◌, eqb}
use Rattle.std.proofs.Common.{◌≡◌, inl, inr, ℕ, suc, ◌+◌, ℤ, List, [], ◌∷◌, ◌++◌, map as each, take, drop, cond, Bool, true, false, Option, Some, None, Result, Ok, Err, refl, sym, ◌∙◌, subst, arith}
use Rattle.std.specs.List.{All, sum_by}
use Rattle.std.specs.Ordering.{nat_cmp}
use Rattle.std.specs.FinMap.{get, len, insert, empty, get-empty, entries}
use Rattle.std.proofs.lemmas.Option.{none-some}
use Rattle.std.proofs.lemmas.List.Elements.{All-nil, All-cons, All-head, All-tail, All-push, All-append, All-take, All-drop}
use Rattle.pts_machine.specs.Holding.{Items, from}
use Rattle.pts_machine.proofs.Maps.{from_some, insert_some}
use Rattle.box_events.specs.Events.{EventView, added, count_of}
use Rattle.box_events.specs.SettingLists.{Values}
use Rattle.box_events.specs.declared.settings.Setting.{Setting}
use Rattle.box_events.specs.declared.updates.Placed.{Placed}
use Rattle.box_events.specs.declared.updates.Update.{Update}
use Rattle.box_events.specs.declared.updates.Update.TheVariants as update
use Rattle.box_events.specs.declared.updates.Push.{Push}
use Rattle.box_events.specs.declared.updates.Push.TheVariants as push
use Rattle.box_events.specs.declared.replies.ChannelReply.{ChannelReply}
use Rattle.box_events.specs.declared.replies.ChannelReply.TheVariants as channel
use Rattle.box_events.specs.declared.replies.Reply.{Reply}
use Rattle.box_events.specs.declared.replies.Reply.TheVariants as reply
use Rattle.pts_machine.specs.declared.mode.Mode.TheVariants.{Live}
use Rattle.pts_machine.specs.declared.seen.Seen.{Seen}
use Rattle.pts_machine.specs.declared.seen.Seen.TheVariants.{Applied, Already, Held, Dropped}
use Rattle.pts_machine.specs.States.{LaneState}
use Rattle.pts_machine.specs.Chains.{chain}
use Rattle.pts_machine.specs.Steps.{settle, hear, extend, restart_at, resumed, forget, asked, new_lane, Hears}
use Rattle.pts_machine.proofs.Ends.{look, none_at, some_at}
use Rattle.pts_machine.proofs.Kept.{hears}
use Rattle.box_events.specs.Weaves.{free, merged, woven_of, woven_when}
use Rattle.box_events.specs.declared.difference_fault.WeaveFault.{WeaveFault}
use Rattle.box_events.specs.Refusal.{overlap, covered}
use Rattle.pts_machine.specs.Packs.{Pack, pack_of, puts, puts_all}
use Rattle.pts_machine.specs.SeqStates.{SettingsState, hear_pack, overlaid, lane_of}
use Rattle.channel_box.specs.States.{ChannelState, first, has_id}
use Rattle.channel_box.specs.Steps as boxes
use Rattle.box_client.specs.declared.received.Received.{Received}
use Rattle.box_client.specs.States.{ClientState}
use Rattle.box_client.specs.Pushes.{updated, all_updated, settings_in, pack_heard, pushed}
use Rattle.box_client.specs.Replies.{ignored, becomes, nothing_new, group_done, group_taken, group_woven, brings, group_replied, by_channels, channel_replied, replied}
use Rattle.box_client.specs.Asking.{group_is_due, group_asks, difference_of, channels_ticked, ticks, wakes, restarted}
use Rattle.wire_forms.specs.IsOf.{IsLong, IsText}
use Rattle.wire_values.specs.CarriedFrames.{FitsEvent, FitsPlaced, FitsPush, FitsReply, FitsSetting, FitsUpdate}
use Rattle.box_world.specs.Spelled.{HoldsAll, FitsChannel, FitsSettings, FitsClient}
use Rattle.box_world.specs.FrameLaws.{ClientsKeepSpellings}
use Rattle.box_world.proofs.MapEntries.{all_insert, all_none}

-- ---- lanes

module _ {E : Type 0} (P : E → Type 0) where
  chain_all : (n p : ℕ) (m : Items E) → ((start : ℕ) (x : ℕ × E) → get m start ≡ Some x → P x.1) → All P (chain n p m)
  unfolding chain
  chain_all zero p m h = All-nil P
  chain_all (suc n) p m h = elim (look m p) [
    | none_at e ↦ rw e (All-nil P)
    | some_at x e ↦ rw e (All-cons P x.1 (chain n x.0 m) (h p x e) (chain_all n x.0 m h))
  ]

  held_from : (p : ℕ) (m : Items E) → ((start : ℕ) (x : ℕ × E) → get m start ≡ Some x → P x.1) → (start : ℕ) (x : ℕ × E) → get (from p m) start ≡ Some x → P x.1
  held_from p m h start x e = h start x (from_some p m start x e).1

  held_insert : (m : Items E) (k : ℕ) (v : ℕ × E) → ((start : ℕ) (x : ℕ × E) → get m start ≡ Some x → P x.1) → P v.1 → (start : ℕ) (x : ℕ × E) → get (insert m k v) start ≡ Some x → P x.1
  held_insert m k v h is start x e = elim (insert_some m k v start x e) [
    | inl s ↦ subst (λ (y : ℕ × E). P y.1) s.1 is
    | inr s ↦ h start x s
  ]

  pub held_empty : (start : ℕ) (x : ℕ × E) → get (empty {X = ℕ × E} {R = nat_cmp}) start ≡ Some x → P x.1
  held_empty start x e = absurd (none-some x (sym (get-empty nat_cmp start) ∙ e))

  pub settle_all : (t : LaneState E) → HoldsAll P t → HoldsAll P (settle t)
  unfolding settle
  settle_all t h = record {
    events = All-append P t.events (chain (len t.held) t.at t.held) h.events (chain_all (len t.held) t.at t.held h.held);
    held = held_from _ t.held h.held;
  }

  hear_by : (t : LaneState E) (start end : ℕ) (item : E) (r : Seen) (u : LaneState E) → P item → HoldsAll P t → Hears t start end item r u → HoldsAll P u
  hear_by t start end item Already u new h told = subst (HoldsAll P) (sym told.1) h
  hear_by t start end item (Applied to) u new h told =
      subst (HoldsAll P) (sym told.2) (settle_all (record t { events = t.events ++ item ∷ []; at = end }) (record { events = All-push P t.events item h.events new; held = h.held }))
  hear_by t start end item Held u new h told = subst (HoldsAll P) (sym told.3) (record { events = h.events; held = held_insert t.held start (end, item) h.held new })
  hear_by t start end item Dropped u new h told = subst (HoldsAll P) (sym told.3) h

  pub hear_all : (t : LaneState E) (start end : ℕ) (item : E) → P item → HoldsAll P t → HoldsAll P (hear t start end item).state
  hear_all t start end item new h = hear_by t start end item _ _ new h (hears t start end item)

  resumed_all : (t : LaneState E) (last : Bool) → HoldsAll P t → HoldsAll P (resumed t last)
  resumed_all t true h = settle_all (record t { mode = Live }) (record { events = h.events; held = h.held })
  resumed_all t false h = record { events = h.events; held = h.held }

  pub extend_all : (count : E → ℕ) (t : LaneState E) (events : List E) (last : Bool) → HoldsAll P t → All P events → HoldsAll P (extend count t events last)
  unfolding extend
  extend_all count t events last h new = resumed_all (record t { events = t.events ++ events; at = t.at + sum_by count events; held = from (t.at + sum_by count events) t.held }) last (record {
    events = All-append P t.events events h.events new;
    held = held_from _ t.held h.held;
  })

  pub restart_all : (count : E → ℕ) (t : LaneState E) (p : ℕ) → HoldsAll P t → HoldsAll P (restart_at count t p)
  unfolding restart_at
  restart_all count t p h = extend_all count (record t { restart = p; events = []; at = p }) [] true (record { events = All-nil P; held = h.held }) (All-nil P)

  pub forget_all : (t : LaneState E) → HoldsAll P t → HoldsAll P (forget t)
  unfolding forget
  forget_all t h = record { events = h.events; held = held_empty }

  pub asked_all : (t : LaneState E) (n : ℕ) → HoldsAll P t → HoldsAll P (asked t n)
  asked_all t n h = record { events = h.events; held = h.held }

  pub new_all : HoldsAll P new_lane
  new_all = record { events = All-nil P; held = held_empty }

-- ---- woven events

added_all : (news : List (List ℕ)) → All IsText news → All FitsEvent (each added news)
added_all [] all = All-nil FitsEvent
added_all (body ∷ news) all = All-cons FitsEvent (added body) (each added news) (All-head IsText body news all) (added_all news (All-tail IsText body news all))

merged_all : (at : ℕ) (news : List (List ℕ)) (others : List Placed) → All IsText news → All FitsPlaced others → All FitsEvent (merged at news others)
merged_all at news [] all rest = added_all news all
merged_all at news (o ∷ os) all rest =
    let one : FitsPlaced o = All-head FitsPlaced o os rest in
    let n : ℕ = free at o in
    All-append FitsEvent (each added (take n news)) (o.event ∷ merged o.pts (drop n news) os) (added_all (take n news) (All-take IsText n news all))
    (All-cons FitsEvent o.event (merged o.pts (drop n news) os) one.0 (merged_all o.pts (drop n news) os (All-drop IsText n news all) (All-tail FitsPlaced o os rest)))

ok_is : {A B : Type 0} (x y : A) → ◌≡◌ {A = Result A B} (Ok x) (Ok y) → x ≡ y
ok_is x y e = cc

woven_by : (o : Option ℕ) (b : Bool) (from to : ℕ) (news : List (List ℕ)) (others : List Placed) (events : List EventView) → woven_when o b from to news others ≡ Ok events → All IsText news → All FitsPlaced others → All FitsEvent events
woven_by (Some pts) b from to news others events e all rest = absurd cc
woven_by None false from to news others events e all rest = absurd cc
woven_by None true from to news others events e all rest = subst (All FitsEvent) (ok_is (merged from news others) events e) (merged_all from news others all rest)

woven_all : (from to : ℕ) (news : List (List ℕ)) (others : List Placed) (events : List EventView) → woven_of from to news others ≡ Ok events → All IsText news → All FitsPlaced others → All FitsEvent events
unfolding woven_of
woven_all from to news others events e all rest = woven_by (overlap from to others) (eqb (from + covered news others) to) from to news others events e all rest

-- ---- settings

abbrev pub FitsEntry : List ℕ × List ℕ → Type 0
FitsEntry e = IsText e.0 × IsText e.1

puts_fit : (m : Values) (xs : List Setting) → All FitsSetting xs → All FitsEntry (entries m) → All FitsEntry (entries (puts m xs))
puts_fit m [] all h = h
puts_fit m (x ∷ xs) all h =
    puts_fit (insert m x.key x.value) xs (All-tail FitsSetting x xs all) (all_insert FitsEntry (λ x y p q. (p.0, q.1)) m x.key x.value (All-head FitsSetting x xs all) h)

abbrev FitsPack : Pack → Type 0
FitsPack p = All FitsSetting p.settings

puts_all_fit : (m : Values) (ps : List Pack) → All FitsPack ps → All FitsEntry (entries m) → All FitsEntry (entries (puts_all m ps))
puts_all_fit m [] all h = h
puts_all_fit m (p ∷ ps) all h = puts_all_fit (puts m p.settings) ps (All-tail FitsPack p ps all) (puts_fit m p.settings (All-head FitsPack p ps all) h)

lane_all : (b : SettingsState) → FitsSettings b → HoldsAll FitsPack (lane_of b)
lane_all b h = record { events = All-nil FitsPack; held = h.held }

pack_fits : (b : SettingsState) (start end : ℕ) (p : Pack) → FitsPack p → FitsSettings b → FitsSettings (hear_pack b start end p).state
unfolding hear_pack
pack_fits b start end p new h =
    let lane = hear_all FitsPack (lane_of b) start end p new (lane_all b h) in
    record { table = puts_all_fit b.table (hear (lane_of b) start end p).state.events lane.events h.table; held = lane.held }

overlaid_fits : (b : SettingsState) (xs : List Setting) (seq date : ℕ) → All FitsSetting xs → FitsSettings b → FitsSettings (overlaid b xs seq date)
unfolding overlaid
overlaid_fits b xs seq date all h =
    let put : SettingsState = record b { at = seq; date = date; table = puts b.table xs; mode = Live } in
    let lane = settle_all FitsPack (lane_of put) (record { events = All-nil FitsPack; held = h.held }) in
    record { table = puts_all_fit (puts b.table xs) (settle (lane_of put)).events lane.events (puts_fit b.table xs all h.table); held = lane.held }

-- ---- channels

first_by : (b : Bool) (c d : ChannelState) (cs ds : List ChannelState) → FitsChannel d → All FitsChannel (c ∷ cs) → All FitsChannel ds → All FitsChannel (cond b (d ∷ cs) (c ∷ ds))
first_by true c d cs ds is all more = All-cons FitsChannel d cs is (All-tail FitsChannel c cs all)
first_by false c d cs ds is all more = All-cons FitsChannel c ds (All-head FitsChannel c cs all) more

at_first_fits : (p : ChannelState → Bool) (f : ChannelState → ChannelState) (cs : List ChannelState) → ((c : ChannelState) → FitsChannel c → FitsChannel (f c)) → All FitsChannel cs → All FitsChannel (boxes.at_first p f cs)
at_first_fits p f [] law all = all
at_first_fits p f (c ∷ cs) law all = first_by (p c) c (f c) cs (boxes.at_first p f cs) (law c (All-head FitsChannel c cs all)) all (at_first_fits p f cs law (All-tail FitsChannel c cs all))

each_fits : (f : ChannelState → ChannelState) (cs : List ChannelState) → ((c : ChannelState) → FitsChannel c → FitsChannel (f c)) → All FitsChannel cs → All FitsChannel (each f cs)
each_fits f [] law all = all
each_fits f (c ∷ cs) law all = All-cons FitsChannel (f c) (each f cs) (law c (All-head FitsChannel c cs all)) (each_fits f cs law (All-tail FitsChannel c cs all))

flagged_fits : (c : ChannelState) → FitsChannel c → FitsChannel (boxes.flagged c)
flagged_fits c h = record { id = h.id; lane = h.lane; recent = h.recent }

forgot_fits : (c : ChannelState) → FitsChannel c → FitsChannel (boxes.forgot c)
forgot_fits c h = record { id = h.id; lane = forget_all FitsEvent c.lane h.lane; recent = h.recent }

ticked_by : (b : Bool) (n : ℕ) (c : ChannelState) (t u : boxes.Ticked) → FitsChannel c → All FitsChannel t.channels → All FitsChannel u.channels → All FitsChannel (cond b (boxes.and_asks n c t) (boxes.and_waits c u)).channels
ticked_by true n c t u is x y = All-cons FitsChannel (boxes.channel_asks c n) t.channels (record { id = is.id; lane = asked_all FitsEvent c.lane n is.lane; recent = is.recent }) x
ticked_by false n c t u is x y = All-cons FitsChannel c u.channels is y

ticked_fits : (n : ℕ) (cs : List ChannelState) → All FitsChannel cs → All FitsChannel (boxes.ticked n cs).channels
ticked_fits n [] all = all
ticked_fits n (c ∷ cs) all =
    let rest = All-tail FitsChannel c cs all in
    ticked_by (boxes.channel_is_due c) n c (boxes.ticked (n + 1) cs) (boxes.ticked n cs) (All-head FitsChannel c cs all) (ticked_fits (n + 1) cs rest) (ticked_fits n cs rest)

watched_by : (b : Bool) (cs : List ChannelState) (c : ChannelState) → FitsChannel c → All FitsChannel cs → All FitsChannel (boxes.watched_if b cs c)
watched_by true cs c is all = All-push FitsChannel cs c all is
watched_by false cs c is all = all

-- the first of which something holds is one of them
found_by : (b : Bool) (c d : ChannelState) (o : Option ChannelState) → cond b (Some c) o ≡ Some d → FitsChannel c → (o ≡ Some d → FitsChannel d) → FitsChannel d
found_by true c d o is h law = subst FitsChannel (some_is c d is) h
  where
    some_is : (x y : ChannelState) → Some x ≡ Some y → x ≡ y
    some_is x y e = cc
found_by false c d o is h law = law is

first_fits : (p : ChannelState → Bool) (cs : List ChannelState) (d : ChannelState) → first p cs ≡ Some d → All FitsChannel cs → FitsChannel d
first_fits p [] d is all = absurd cc
first_fits p (c ∷ cs) d is all = found_by (p c) c d (first p cs) is (All-head FitsChannel c cs all) (λ found. first_fits p cs d found (All-tail FitsChannel c cs all))

-- ---- pushes

update_goes : (c : ClientState) (u : Update) → FitsUpdate u → FitsClient c → FitsClient (updated c u)
update_goes c (update.Common event pts) f h = record { common = hear_all FitsEvent c.common _ pts event f.0 h.common; secret = h.secret; settings = h.settings; channels = h.channels }
update_goes c (update.Secret body qts) f h = record { common = h.common; secret = hear_all FitsEvent c.secret _ qts (added body) f.0 h.secret; settings = h.settings; channels = h.channels }
update_goes c (update.Channel id event pts) f h = record {
  common = h.common;
  secret = h.secret;
  settings = h.settings;
  channels = at_first_fits (has_id id) _ c.channels (λ d g. record { id = g.id; lane = hear_all FitsEvent d.lane _ pts event f.1 g.lane; recent = g.recent }) h.channels;
}
update_goes c (update.ChannelTooLong id) f h = record { common = h.common; secret = h.secret; settings = h.settings; channels = at_first_fits (has_id id) boxes.flagged c.channels flagged_fits h.channels }
update_goes c (update.Setting x) f h = h

updates_go : (c : ClientState) (us : List Update) → All FitsUpdate us → FitsClient c → FitsClient (all_updated c us)
updates_go c [] all h = h
updates_go c (u ∷ us) all h = updates_go (updated c u) us (All-tail FitsUpdate u us all) (update_goes c u (All-head FitsUpdate u us all) h)

settings_fit : (us : List Update) → All FitsUpdate us → All FitsSetting (settings_in us)
settings_fit [] all = All-nil FitsSetting
settings_fit (update.Common event pts ∷ us) all = settings_fit us (All-tail FitsUpdate (update.Common event pts) us all)
settings_fit (update.Secret body qts ∷ us) all = settings_fit us (All-tail FitsUpdate (update.Secret body qts) us all)
settings_fit (update.Channel id event pts ∷ us) all = settings_fit us (All-tail FitsUpdate (update.Channel id event pts) us all)
settings_fit (update.ChannelTooLong id ∷ us) all = settings_fit us (All-tail FitsUpdate (update.ChannelTooLong id) us all)
settings_fit (update.Setting x ∷ us) all = All-cons FitsSetting x (settings_in us) (All-head FitsUpdate (update.Setting x) us all) (settings_fit us (All-tail FitsUpdate (update.Setting x) us all))

pack_goes : (b : Bool) (c : ClientState) (start seq date : ℕ) (xs : List Setting) → All FitsSetting xs → FitsClient c → FitsClient (pack_heard b c start seq date xs)
pack_goes true c start seq date xs all h = record { common = h.common; secret = h.secret; settings = pack_fits c.settings _ seq (pack_of date xs) all h.settings; channels = h.channels }
pack_goes false c start seq date xs all h = h

pub push_goes : (c : ClientState) (p : Push) → FitsClient c → FitsPush p → FitsClient (pushed c p)
push_goes c push.TooLong h f = record { common = h.common; secret = h.secret; settings = h.settings; channels = h.channels }
push_goes c (push.Container us date start seq) h f = pack_goes (ltb 0 seq) (all_updated c us) start seq date (settings_in us) (settings_fit us f.0.1) (updates_go c us f.0.1 h)

-- ---- replies

becomes_is : (c d : ClientState) → becomes c ≡ becomes d → c ≡ d
becomes_is c d e = cc

record FitsReceived (b : Received) : Type 0 where
  news : All IsText b.news
  secrets : All IsText b.secrets
  others : All FitsPlaced b.others
  settings : All FitsSetting b.settings

done_goes : (last : Bool) (c : ClientState) (b : Received) (xs ys : List EventView) → FitsClient c → All FitsSetting b.settings → All FitsEvent xs → All FitsEvent ys → FitsClient (group_done last c b xs ys)
done_goes true c b xs ys h all x y = record {
  common = extend_all FitsEvent count_of c.common xs true h.common x;
  secret = extend_all FitsEvent count_of c.secret ys true h.secret y;
  settings = overlaid_fits c.settings b.settings b.state.seq b.state.date all h.settings;
  channels = h.channels;
}
done_goes false c b xs ys h all x y = record {
  common = extend_all FitsEvent count_of c.common xs false h.common x;
  secret = extend_all FitsEvent count_of c.secret ys false h.secret y;
  settings = record { table = h.settings.table; held = h.settings.held };
  channels = h.channels;
}

taken_goes : (back : Bool) (c : ClientState) (b : Received) (xs ys : List EventView) (d : ClientState) → group_taken back c b xs ys ≡ becomes d → FitsClient c → All FitsSetting b.settings → All FitsEvent xs → All FitsEvent ys → FitsClient d
taken_goes true c b xs ys d is h all x y = absurd cc
taken_goes false c b xs ys d is h all x y = subst FitsClient (becomes_is (group_done b.last c b xs ys) d is) (done_goes b.last c b xs ys h all x y)

woven_goes : (c : ClientState) (b : Received) (o p : Result (List EventView) WeaveFault) (d : ClientState) → group_woven c b o p ≡ becomes d → FitsClient c → FitsReceived b → ((xs : List EventView) → o ≡ Ok xs → All FitsEvent xs) → ((ys : List EventView) → p ≡ Ok ys → All FitsEvent ys) → FitsClient d
woven_goes c b (Err cause) p d is h f x y = absurd cc
woven_goes c b (Ok xs) (Err cause) d is h f x y = absurd cc
woven_goes c b (Ok xs) (Ok ys) d is h f x y = taken_goes (b.last && ltb b.state.seq c.settings.at) c b xs ys d is h f.settings (x xs refl) (y ys refl)

brings_goes : (c : ClientState) (b : Received) (d : ClientState) → brings c b ≡ becomes d → FitsClient c → FitsReceived b → FitsClient d
brings_goes c b d is h f =
    woven_goes c b (woven_of c.common.at b.state.pts b.news b.others) (woven_of c.secret.at b.state.qts b.secrets []) d is h f (λ xs e. woven_all c.common.at b.state.pts b.news b.others xs e f.news f.others)
    (λ ys e. woven_all c.secret.at b.state.qts b.secrets [] ys e f.secrets (All-nil FitsPlaced))

group_goes : (c : ClientState) (r : Reply) (d : ClientState) → group_replied c r ≡ becomes d → FitsClient c → FitsReply r → FitsClient d
group_goes c (reply.State state) d is h f = absurd cc
group_goes c (reply.Empty date seq) d is h f = brings_goes c (nothing_new c date seq) d is h (record { news = All-nil IsText; secrets = All-nil IsText; others = All-nil FitsPlaced; settings = All-nil FitsSetting })
group_goes c (reply.Difference news secrets others settings state last) d is h f = brings_goes c _ d is h (record { news = f.0.1; secrets = f.1.1; others = f.2; settings = f.3 })
group_goes c (reply.Channel r) d is h f = absurd cc
group_goes c (reply.Receipt receipt) d is h f = absurd cc
group_goes c (reply.Error code text) d is h f = absurd cc

-- a channel after an answer
grown_fits : (c : ChannelState) (last : Bool) (o : Result (List EventView) WeaveFault) (d : ChannelState) → boxes.grown c last o ≡ Ok d → FitsChannel c → ((xs : List EventView) → o ≡ Ok xs → All FitsEvent xs) → FitsChannel d
grown_fits c last (Err cause) d is h x = absurd cc
grown_fits c last (Ok xs) d is h x = subst FitsChannel (ok_is _ d is) (record { id = h.id; lane = extend_all FitsEvent count_of c.lane xs last h.lane (x xs refl); recent = h.recent })

channel_fits : (c : ChannelState) (r : ChannelReply) (d : ChannelState) → boxes.replied c r ≡ Ok d → FitsChannel c → FitsReply (reply.Channel r) → FitsChannel d
channel_fits c (channel.Empty pts last) d is h f = grown_fits c last (woven_of c.lane.at pts [] []) d is h (λ xs e. woven_all c.lane.at pts [] [] xs e (All-nil IsText) (All-nil FitsPlaced))
channel_fits c (channel.Part pts news others last) d is h f = grown_fits c last (woven_of c.lane.at pts news others) d is h (λ xs e. woven_all c.lane.at pts news others xs e f.1.1 f.2.1)
channel_fits c (channel.TooLong pts recent last) d is h f = subst FitsChannel (ok_is _ d is) (record { id = h.id; lane = restart_all FitsEvent count_of c.lane pts h.lane; recent = f.1 })

by_channel : (c : ClientState) (n : ℕ) (o : Result ChannelState WeaveFault) (d : ClientState) → by_channels c (boxes.taken_by c.channels n o) ≡ becomes d → FitsClient c → ((e : ChannelState) → o ≡ Ok e → FitsChannel e) → FitsClient d
by_channel c n (Err cause) d is h law = absurd cc
by_channel c n (Ok e) d is h law =
    subst FitsClient (becomes_is _ d is) (record { common = h.common; secret = h.secret; settings = h.settings; channels = at_first_fits (boxes.asks_number n) (λ x. e) c.channels (λ x g. law e refl) h.channels })

answered_goes : (c : ClientState) (n : ℕ) (r : ChannelReply) (o : Option ChannelState) (d : ClientState) → first (boxes.asks_number n) c.channels ≡ o → by_channels c (boxes.answered_by c.channels n r o) ≡ becomes d → FitsClient c → FitsReply (reply.Channel r) → FitsClient d
answered_goes c n r None d at is h f = absurd cc
answered_goes c n r (Some x) d at is h f = by_channel c n (boxes.replied x r) d is h (λ e found. channel_fits x r e found (first_fits (boxes.asks_number n) c.channels x at h.channels) f)

channel_goes : (c : ClientState) (n : ℕ) (r : Reply) (d : ClientState) → channel_replied c n r ≡ becomes d → FitsClient c → FitsReply r → FitsClient d
channel_goes c n (reply.State state) d is h f = absurd cc
channel_goes c n (reply.Empty date seq) d is h f = absurd cc
channel_goes c n (reply.Difference news secrets others settings state last) d is h f = absurd cc
channel_goes c n (reply.Channel r) d is h f = answered_goes c n r (first (boxes.asks_number n) c.channels) d refl is h f
channel_goes c n (reply.Receipt receipt) d is h f = absurd cc
channel_goes c n (reply.Error code text) d is h f = absurd cc

reply_by : (asks waits : Bool) (c : ClientState) (n : ℕ) (r : Reply) (d : ClientState) → cond asks (group_replied c r) (cond waits (channel_replied c n r) ignored) ≡ becomes d → FitsClient c → FitsReply r → FitsClient d
reply_by true waits c n r d is h f = group_goes c r d is h f
reply_by false true c n r d is h f = channel_goes c n r d is h f
reply_by false false c n r d is h f = absurd cc

pub reply_goes : (c : ClientState) (n : ℕ) (r : Reply) (d : ClientState) → FitsClient c → FitsReply r → replied c n r ≡ becomes d → FitsClient d
reply_goes c n r d h f is = reply_by (boxes.is_asking n c.common.mode) (is_some (first (boxes.asks_number n) c.channels)) c n r d is h f

-- ---- by itself

group_ticks : (b : Bool) (c : ClientState) → FitsClient c → FitsClient (channels_ticked (cond b (record { client = group_asks c; asks = difference_of c ∷ [] }) (record { client = c; asks = [] }))).client
group_ticks true c h = record {
  common = asked_all FitsEvent c.common c.next h.common;
  secret = asked_all FitsEvent c.secret c.next h.secret;
  settings = record { table = h.settings.table; held = h.settings.held };
  channels = ticked_fits (c.next + 1) c.channels h.channels;
}
group_ticks false c h = record { common = h.common; secret = h.secret; settings = h.settings; channels = ticked_fits c.next c.channels h.channels }

pub tick_goes : (c : ClientState) → FitsClient c → FitsClient (ticks c).client
tick_goes c h = group_ticks (group_is_due c) c h

pub wake_goes : (c : ClientState) → FitsClient c → FitsClient (wakes c)
wake_goes c h = record { common = h.common; secret = h.secret; settings = h.settings; channels = each_fits boxes.flagged c.channels flagged_fits h.channels }

pub none_held : (start : ℕ) (x : ℕ × Pack) → get (empty {X = ℕ × Pack} {R = nat_cmp}) start ≡ Some x → All FitsSetting x.1.settings
none_held start x e = absurd (none-some x (sym (get-empty nat_cmp start) ∙ e))

pub restart_goes : (c : ClientState) → FitsClient c → FitsClient (restarted c)
restart_goes c h = record {
  common = forget_all FitsEvent c.common h.common;
  secret = forget_all FitsEvent c.secret h.secret;
  settings = record { table = h.settings.table; held = none_held };
  channels = each_fits boxes.flagged (boxes.forgotten c.channels) flagged_fits (each_fits boxes.forgot c.channels forgot_fits h.channels);
}

pub watch_goes : (c : ClientState) (id : ℤ) → FitsClient c → IsLong id → FitsClient (record c { channels = boxes.watched c.channels id })
watch_goes c id h long = record {
  common = h.common;
  secret = h.secret;
  settings = h.settings;
  channels = watched_by (boxes.may_watch c.channels id) c.channels (boxes.channel_of id new_lane []) (record { id = long; lane = new_all FitsEvent; recent = (omega arith, All-nil IsText) }) h.channels;
}

pub clients_keep : ClientsKeepSpellings
clients_keep = record {
  new = record { common = new_all FitsEvent; secret = new_all FitsEvent; settings = record { table = all_none FitsEntry (λ x y p q. (p.0, q.1)); held = none_held }; channels = All-nil FitsChannel };
  push = push_goes;
  reply = reply_goes;
  tick = tick_goes;
  wake = wake_goes;
  restart = restart_goes;
  watch = watch_goes;
}
