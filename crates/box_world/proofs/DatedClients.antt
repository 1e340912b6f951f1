-- A client's dates stay below 2^31 over what it hears and does.
use Rattle.std.specs.Prelude.{ltb, is_some, ◌&&◌}
use Rattle.std.proofs.Common.{◌≡◌, ℕ, ◌<◌, ◌^◌, List, [], ◌∷◌, cond, Bool, true, false, Result, Ok, Err, refl, sym, ◌∙◌, subst, arith}
use Rattle.std.specs.List.{All}
use Rattle.std.proofs.lemmas.List.Elements.{All-nil, All-head, All-tail}
use Rattle.box_events.specs.Events.{EventView}
use Rattle.box_events.specs.declared.settings.Setting.{Setting}
use Rattle.box_events.specs.declared.updates.Update.{Update}
use Rattle.box_events.specs.declared.updates.Update.TheVariants as update
use Rattle.box_events.specs.declared.updates.Push.{Push}
use Rattle.box_events.specs.declared.updates.Push.TheVariants as push
use Rattle.box_events.specs.declared.replies.Reply.{Reply}
use Rattle.box_events.specs.declared.replies.Reply.TheVariants as reply
use Rattle.pts_machine.specs.declared.mode.Mode.TheVariants.{Live}
use Rattle.pts_machine.specs.Steps.{settle, hear}
use Rattle.box_events.specs.Weaves.{woven_of}
use Rattle.box_events.specs.declared.difference_fault.WeaveFault.{WeaveFault}
use Rattle.pts_machine.specs.Packs.{Pack, last_date, pack_of, puts}
use Rattle.pts_machine.specs.SeqStates.{SettingsState, hear_pack, overlaid, lane_of}
use Rattle.channel_box.specs.States.{first}
use Rattle.channel_box.specs.Steps as boxes
use Rattle.box_client.specs.declared.received.Received.{Received}
use Rattle.box_client.specs.States.{ClientState}
use Rattle.box_client.specs.Pushes.{updated, all_updated, settings_in, pack_heard, pushed}
use Rattle.box_client.specs.Replies.{ignored, becomes, nothing_new, group_done, group_taken, group_woven, group_replied, by_channels, channel_replied}
use Rattle.box_client.specs.Asking.{group_is_due, group_asks, difference_of, channels_ticked}
use Rattle.box_world.specs.Spelled.{HoldsAll}
use Rattle.box_world.specs.Dated.{IsDatedClient, IsDatedPush, IsDatedReply}
use Rattle.box_world.specs.FrameLaws.{ClientsStayDated}
use Rattle.box_world.proofs.FittingClients.{hear_all, held_empty, settle_all}

abbrev IsDated : Pack → Type 0
IsDated p = p.date < 2 ^ 31

-- settings with such dates
record Dated (b : SettingsState) : Type 0 where
  date : b.date < 2 ^ 31
  lane : HoldsAll IsDated (lane_of b)

last_low : (d : ℕ) (ps : List Pack) → d < 2 ^ 31 → All IsDated ps → last_date d ps < 2 ^ 31
last_low d [] low all = low
last_low d (p ∷ ps) low all = last_low p.date ps (All-head IsDated p ps all) (All-tail IsDated p ps all)

pack_dated : (b : SettingsState) (start end : ℕ) (p : Pack) → IsDated p → Dated b → Dated (hear_pack b start end p).state
unfolding hear_pack
pack_dated b start end p low h =
    let lane = hear_all IsDated (lane_of b) start end p low h.lane in
    record { date = last_low b.date (hear (lane_of b) start end p).state.events h.date lane.events; lane = record { events = All-nil IsDated; held = lane.held } }

overlaid_dated : (b : SettingsState) (xs : List Setting) (seq date : ℕ) → date < 2 ^ 31 → Dated b → Dated (overlaid b xs seq date)
unfolding overlaid
overlaid_dated b xs seq date low h =
    let put : SettingsState = record b { at = seq; date = date; table = puts b.table xs; mode = Live } in
    let lane = settle_all IsDated (lane_of put) (record { events = All-nil IsDated; held = h.lane.held }) in
    record { date = last_low date (settle (lane_of put)).events low lane.events; lane = record { events = All-nil IsDated; held = lane.held } }

of_client : (c : ClientState) → IsDatedClient c → Dated c.settings
of_client c h = record { date = h.date; lane = record { events = All-nil IsDated; held = h.held } }

to_client : (c : ClientState) → Dated c.settings → IsDatedClient c
to_client c h = record { date = h.date; held = h.lane.held }

-- a client with the settings of another
same : (c d : ClientState) → d.settings ≡ c.settings → IsDatedClient c → IsDatedClient d
same c d e h = to_client d (subst Dated (sym e) (of_client c h))

-- ---- pushes

one_same : (c : ClientState) (u : Update) → (updated c u).settings ≡ c.settings
one_same c (update.Common event pts) = refl
one_same c (update.Secret body qts) = refl
one_same c (update.Channel id event pts) = refl
one_same c (update.ChannelTooLong id) = refl
one_same c (update.Setting x) = refl

all_same : (c : ClientState) (us : List Update) → (all_updated c us).settings ≡ c.settings
all_same c [] = refl
all_same c (u ∷ us) = all_same (updated c u) us ∙ one_same c u

pack_goes : (b : Bool) (c : ClientState) (start seq date : ℕ) (xs : List Setting) → date < 2 ^ 31 → IsDatedClient c → IsDatedClient (pack_heard b c start seq date xs)
pack_goes true c start seq date xs low h = let d = pack_dated c.settings _ seq (pack_of date xs) low (of_client c h) in record { date = d.date; held = d.lane.held }
pack_goes false c start seq date xs low h = h

push_goes : (c : ClientState) (p : Push) → IsDatedClient c → IsDatedPush p → IsDatedClient (pushed c p)
push_goes c push.TooLong h low = record { date = h.date; held = h.held }
push_goes c (push.Container us date start seq) h low = pack_goes (ltb 0 seq) (all_updated c us) start seq date (settings_in us) low (same c (all_updated c us) (all_same c us) h)

-- ---- replies

becomes_is : (c d : ClientState) → becomes c ≡ becomes d → c ≡ d
becomes_is c d e = cc

done_goes : (last : Bool) (c : ClientState) (b : Received) (xs ys : List EventView) → b.state.date < 2 ^ 31 → IsDatedClient c → IsDatedClient (group_done last c b xs ys)
done_goes true c b xs ys low h = let d = overlaid_dated c.settings b.settings b.state.seq b.state.date low (of_client c h) in record { date = d.date; held = d.lane.held }
done_goes false c b xs ys low h = record { date = h.date; held = h.held }

taken_goes : (back : Bool) (c : ClientState) (b : Received) (xs ys : List EventView) (d : ClientState) → group_taken back c b xs ys ≡ becomes d → b.state.date < 2 ^ 31 → IsDatedClient c → IsDatedClient d
taken_goes true c b xs ys d is low h = absurd cc
taken_goes false c b xs ys d is low h = subst IsDatedClient (becomes_is (group_done b.last c b xs ys) d is) (done_goes b.last c b xs ys low h)

woven_goes : (c : ClientState) (b : Received) (o p : Result (List EventView) WeaveFault) (d : ClientState) → group_woven c b o p ≡ becomes d → b.state.date < 2 ^ 31 → IsDatedClient c → IsDatedClient d
woven_goes c b (Err cause) p d is low h = absurd cc
woven_goes c b (Ok xs) (Err cause) d is low h = absurd cc
woven_goes c b (Ok xs) (Ok ys) d is low h = taken_goes (b.last && ltb b.state.seq c.settings.at) c b xs ys d is low h

group_goes : (c : ClientState) (r : Reply) (d : ClientState) → group_replied c r ≡ becomes d → IsDatedReply r → IsDatedClient c → IsDatedClient d
group_goes c (reply.State state) d is low h = absurd cc
group_goes c (reply.Empty date seq) d is low h = woven_goes c (nothing_new c date seq) (woven_of c.common.at c.common.at [] []) (woven_of c.secret.at c.secret.at [] []) d is low h
group_goes c (reply.Difference news secrets others settings state last) d is low h =
    let b : Received = record { news = news; secrets = secrets; others = others; settings = settings; state = state; last = last } in
    woven_goes c b (woven_of c.common.at state.pts news others) (woven_of c.secret.at state.qts secrets []) d is low h
group_goes c (reply.Channel r) d is low h = absurd cc
group_goes c (reply.Receipt receipt) d is low h = absurd cc
group_goes c (reply.Error code text) d is low h = absurd cc

by_channel : (c : ClientState) (a : boxes.Answered) (d : ClientState) → by_channels c a ≡ becomes d → IsDatedClient c → IsDatedClient d
by_channel c boxes.stale d is h = absurd cc
by_channel c (boxes.refused cause) d is h = absurd cc
by_channel c (boxes.taken channels) d is h = subst IsDatedClient (becomes_is (record c { channels = channels }) d is) (record { date = h.date; held = h.held })

channel_goes : (c : ClientState) (n : ℕ) (r : Reply) (d : ClientState) → channel_replied c n r ≡ becomes d → IsDatedClient c → IsDatedClient d
channel_goes c n (reply.State state) d is h = absurd cc
channel_goes c n (reply.Empty date seq) d is h = absurd cc
channel_goes c n (reply.Difference news secrets others settings state last) d is h = absurd cc
channel_goes c n (reply.Channel r) d is h = by_channel c (boxes.answered c.channels n r) d is h
channel_goes c n (reply.Receipt receipt) d is h = absurd cc
channel_goes c n (reply.Error code text) d is h = absurd cc

reply_by : (asks waits : Bool) (c : ClientState) (n : ℕ) (r : Reply) (d : ClientState) → cond asks (group_replied c r) (cond waits (channel_replied c n r) ignored) ≡ becomes d → IsDatedClient c → IsDatedReply r → IsDatedClient d
reply_by true waits c n r d is h low = group_goes c r d is low h
reply_by false true c n r d is h low = channel_goes c n r d is h
reply_by false false c n r d is h low = absurd cc

-- ---- by itself

group_ticks : (b : Bool) (c : ClientState) → IsDatedClient c → IsDatedClient (channels_ticked (cond b (record { client = group_asks c; asks = difference_of c ∷ [] }) (record { client = c; asks = [] }))).client
group_ticks true c h = record { date = h.date; held = h.held }
group_ticks false c h = record { date = h.date; held = h.held }

pub clients_stay_dated : ClientsStayDated
clients_stay_dated = record {
  new = record { date = omega arith; held = held_empty IsDated };
  push = push_goes;
  reply = λ c n r d h low is. reply_by (boxes.is_asking n c.common.mode) (is_some (first (boxes.asks_number n) c.channels)) c n r d is h low;
  tick = λ c h. group_ticks (group_is_due c) c h;
  wake = λ c h. record { date = h.date; held = h.held };
  restart = λ c h. record { date = h.date; held = held_empty IsDated };
  watch = λ c id h. record { date = h.date; held = h.held };
  loaded = λ s low. record { date = low; held = held_empty IsDated };
}
