-- A client as numbers alone: events, values and recent messages are left out. This project's own.
use Rattle.std.specs.Prelude.{ℕ, ◌+◌, ◌-◌, ℤ, List, [], ◌∷◌, ◌++◌, map, Bool, true, false, ◌||◌, ltb, cond, is_some, Option, Some, None}
use Rattle.std.specs.Ordering.{int_eq}
use Rattle.std.specs.FinMap as map_of
use Rattle.pts_machine.specs.Holding.{Items, from}
use Rattle.box_events.specs.Events.{count_of}
use Rattle.box_events.specs.declared.updates.Update.{Update}
use Rattle.box_events.specs.declared.updates.Update.TheVariants.{Common, Secret, Channel, ChannelTooLong, Setting}
use Rattle.box_events.specs.declared.updates.Push.{Push}
use Rattle.box_events.specs.declared.updates.Push.TheVariants.{TooLong, Container}
use Rattle.box_events.specs.declared.replies.Reply.{Reply}
use Rattle.box_events.specs.declared.replies.Reply.TheVariants.{State, Empty, Difference, Channel as ChannelAnswer, Receipt, Error}
use Rattle.box_events.specs.declared.replies.ChannelReply.{ChannelReply}
use Rattle.box_events.specs.declared.replies.ChannelReply.TheVariants.{Empty as EmptyPart, Part, TooLong as ChannelTooFar}
use Rattle.pts_machine.specs.declared.mode.Mode.{Mode}
use Rattle.pts_machine.specs.declared.mode.Mode.TheVariants.{Live, Asking, Again}
use Rattle.pts_machine.specs.States.{LaneState}
use Rattle.pts_machine.specs.Steps.{Heard, hear, settle, resumed, asked, forget, new_lane}
use Rattle.pts_machine.specs.SeqStates.{SettingsState}
use Rattle.channel_box.specs.States.{ChannelState}
use Rattle.channel_box.specs.Steps.{is_dropped, is_asking, is_due}
use Rattle.box_client.specs.States.{ClientState}

-- held items with something else in place of each
unfoldable pub mapped : {X Y : Type 0} → (X → Y) → Items X → Items Y
mapped f m = map_of.from_sorted (map (λ x. (x.0, (x.1.0, f x.1.1))) (map_of.entries m))

-- a lane with something else in place of each event
abbrev pub lane_by : {X Y : Type 0} → (X → Y) → LaneState X → LaneState Y
lane_by f t = record { restart = t.restart; events = map f t.events; at = t.at; held = mapped f t.held; mode = t.mode }

-- a lane without the events that it applied
abbrev pub without_events : {X : Type 0} → LaneState X → LaneState X
without_events t = record t { events = [] }

-- a lane of which numbers alone are known: nothing stands in place of each held event, and the applied ones are left out
abbrev pub LaneNumbers : Type 0
LaneNumbers = LaneState (Unit {0})

abbrev pub lane_numbers : {E : Type 0} → LaneState E → LaneNumbers
lane_numbers t = without_events (lane_by (λ _. tt) t)

abbrev pub n_heard : LaneNumbers → ℕ → ℕ → Heard (Unit {0})
n_heard l start end = let h = hear l start end tt in record { state = without_events h.state; seen = h.seen }

-- events up to a number come, the last of an answer or not
abbrev pub n_extended : LaneNumbers → ℕ → Bool → LaneNumbers
n_extended l to last = without_events (resumed (record l { at = to; held = from to l.held }) last)

abbrev pub n_restarted : LaneNumbers → ℕ → LaneNumbers
n_restarted l p = n_extended (record l { restart = p; at = p }) p true

-- settings: the seq, the date, the end and the date of each held pack, and the mode
pub record SettingsNumbers : Type 0 where
  pub at : ℕ
  pub date : ℕ
  pub held : Items ℕ
  pub mode : Mode

abbrev pub settings_numbers : SettingsState → SettingsNumbers
settings_numbers b = record { at = b.at; date = b.date; held = mapped (λ p. p.date) b.held; mode = b.mode }

abbrev pub last_number : ℕ → List ℕ → ℕ
last_number d [] = d
last_number d (n ∷ ns) = last_number n ns

-- as a lane of dates, and what it applied
abbrev pub dates_of : SettingsNumbers → LaneState ℕ
dates_of b = record { restart = b.at; events = []; at = b.at; held = b.held; mode = b.mode }

abbrev pub n_applied : SettingsNumbers → LaneState ℕ → SettingsNumbers
n_applied b t = record { at = t.at; date = last_number b.date t.events; held = t.held; mode = t.mode }

pub record NumbersHeard : Type 0 where
  pub state : SettingsNumbers
  pub dropped : Bool

abbrev pub n_hear_pack : SettingsNumbers → ℕ → ℕ → ℕ → NumbersHeard
n_hear_pack b start end date = let h = hear (dates_of b) start end date in record { state = n_applied b h.state; dropped = is_dropped h.seen }

abbrev pub n_overlaid : SettingsNumbers → ℕ → ℕ → SettingsNumbers
n_overlaid b seq date = let put : SettingsNumbers = record { at = seq; date = date; held = b.held; mode = Live } in n_applied put (settle (dates_of put))

-- a channel, and a client
pub record ChannelNumbers : Type 0 where
  pub id : ℤ
  pub lane : LaneNumbers
  pub flag : Bool

abbrev pub channel_numbers : ChannelState → ChannelNumbers
channel_numbers c = record { id = c.id; lane = lane_numbers c.lane; flag = c.flag }

pub record ClientNumbers : Type 0 where
  pub next : ℕ
  pub common : LaneNumbers
  pub secret : LaneNumbers
  pub settings : SettingsNumbers
  pub flag : Bool
  pub channels : List ChannelNumbers

abbrev pub client_numbers : ClientState → ClientNumbers
client_numbers c = record {
  next = c.next;
  common = lane_numbers c.common;
  secret = lane_numbers c.secret;
  settings = settings_numbers c.settings;
  flag = c.flag;
  channels = map channel_numbers c.channels;
}

abbrev pub n_first : (ChannelNumbers → Bool) → List ChannelNumbers → Option ChannelNumbers
n_first p [] = None
n_first p (c ∷ cs) = cond (p c) (Some c) (n_first p cs)

abbrev pub n_at_first : (ChannelNumbers → Bool) → (ChannelNumbers → ChannelNumbers) → List ChannelNumbers → List ChannelNumbers
n_at_first p f [] = []
n_at_first p f (c ∷ cs) = cond (p c) (f c ∷ cs) (c ∷ n_at_first p f cs)

abbrev pub n_has_id : ℤ → ChannelNumbers → Bool
n_has_id id c = int_eq c.id id

abbrev pub n_asks_number : ℕ → ChannelNumbers → Bool
n_asks_number n c = is_asking n c.lane.mode

-- pushes

abbrev pub n_channel_heard : ℕ → ℕ → ChannelNumbers → ChannelNumbers
n_channel_heard start end c = let h = n_heard c.lane start end in record { id = c.id; lane = h.state; flag = c.flag || is_dropped h.seen }

abbrev pub n_flagged : ChannelNumbers → ChannelNumbers
n_flagged c = record c { flag = true }

abbrev pub n_updated : ClientNumbers → Update → ClientNumbers
n_updated c (Common event pts) = let h = n_heard c.common (pts - count_of event) pts in record c { common = h.state; flag = c.flag || is_dropped h.seen }
n_updated c (Secret body qts) = let h = n_heard c.secret (qts - 1) qts in record c { secret = h.state; flag = c.flag || is_dropped h.seen }
n_updated c (Channel id event pts) = record c { channels = n_at_first (n_has_id id) (n_channel_heard (pts - count_of event) pts) c.channels }
n_updated c (ChannelTooLong id) = record c { channels = n_at_first (n_has_id id) n_flagged c.channels }
n_updated c (Setting setting) = c

abbrev pub n_all_updated : ClientNumbers → List Update → ClientNumbers
n_all_updated c [] = c
n_all_updated c (u ∷ us) = n_all_updated (n_updated c u) us

abbrev pub n_pack_heard : Bool → ClientNumbers → ℕ → ℕ → ℕ → ClientNumbers
n_pack_heard true c seq_start seq date = let h = n_hear_pack c.settings (seq_start - 1) seq date in record c { settings = h.state; flag = c.flag || h.dropped }
n_pack_heard false c seq_start seq date = c

abbrev pub n_pushed : ClientNumbers → Push → ClientNumbers
n_pushed c TooLong = record c { flag = true }
n_pushed c (Container updates date seq_start seq) = n_pack_heard (ltb 0 seq) (n_all_updated c updates) seq_start seq date

-- answers that are taken

abbrev pub n_group_done : Bool → ClientNumbers → ℕ → ℕ → ℕ → ℕ → ClientNumbers
n_group_done true c pts qts seq date = record c { common = n_extended c.common pts true; secret = n_extended c.secret qts true; settings = n_overlaid c.settings seq date }
n_group_done false c pts qts seq date = record c { common = n_extended c.common pts false; secret = n_extended c.secret qts false; settings = record c.settings { mode = Again } }

abbrev pub n_group_replied : ClientNumbers → Reply → ClientNumbers
n_group_replied c (State state) = c
n_group_replied c (Empty date seq) = n_group_done true c c.common.at c.secret.at seq date
n_group_replied c (Difference news secrets others settings state last) = n_group_done last c state.pts state.qts state.seq state.date
n_group_replied c (ChannelAnswer reply) = c
n_group_replied c (Receipt receipt) = c
n_group_replied c (Error code text) = c

abbrev pub n_channel_answered : ChannelReply → ChannelNumbers → ChannelNumbers
n_channel_answered (EmptyPart pts last) c = record c { lane = n_extended c.lane pts last }
n_channel_answered (Part pts news others last) c = record c { lane = n_extended c.lane pts last }
n_channel_answered (ChannelTooFar pts recent last) c = record c { lane = n_restarted c.lane pts }

abbrev pub n_channel_replied : ClientNumbers → ℕ → Reply → ClientNumbers
n_channel_replied c n (State state) = c
n_channel_replied c n (Empty date seq) = c
n_channel_replied c n (Difference news secrets others settings state last) = c
n_channel_replied c n (ChannelAnswer reply) = record c { channels = n_at_first (n_asks_number n) (n_channel_answered reply) c.channels }
n_channel_replied c n (Receipt receipt) = c
n_channel_replied c n (Error code text) = c

-- the numbers after an answer that is taken, or is stale
abbrev pub n_replied : ClientNumbers → ℕ → Reply → ClientNumbers
n_replied c n r = cond (is_asking n c.common.mode) (n_group_replied c r) (cond (is_some (n_first (n_asks_number n) c.channels)) (n_channel_replied c n r) c)

-- asking, waking, restarting and watching

abbrev pub n_group_is_due : ClientNumbers → Bool
n_group_is_due c = is_due c.flag (map_of.len c.common.held + map_of.len c.secret.held + map_of.len c.settings.held) c.common.mode

abbrev pub n_group_asks : ClientNumbers → ClientNumbers
n_group_asks c = record {
  next = c.next + 1;
  common = asked c.common c.next;
  secret = asked c.secret c.next;
  settings = record c.settings { mode = Asking c.next };
  flag = false;
  channels = c.channels;
}

abbrev pub n_group_ticked : ClientNumbers → ClientNumbers
n_group_ticked c = cond (n_group_is_due c) (n_group_asks c) c

abbrev pub n_channel_asks : ChannelNumbers → ℕ → ChannelNumbers
n_channel_asks c n = record { id = c.id; lane = asked c.lane n; flag = false }

pub record NumbersTicked : Type 0 where
  pub next : ℕ
  pub channels : List ChannelNumbers

abbrev pub n_ticked : ℕ → List ChannelNumbers → NumbersTicked
n_ticked n [] = record { next = n; channels = [] }
n_ticked n (c ∷ cs) = cond (is_due c.flag (map_of.len c.lane.held) c.lane.mode)
    (let t = n_ticked (n + 1) cs in record { next = t.next; channels = n_channel_asks c n ∷ t.channels })
    (let t = n_ticked n cs in record { next = t.next; channels = c ∷ t.channels })

abbrev pub n_ticks : ClientNumbers → ClientNumbers
n_ticks c = let g = n_group_ticked c in let t = n_ticked g.next g.channels in record g { next = t.next; channels = t.channels }

abbrev pub n_wakes : ClientNumbers → ClientNumbers
n_wakes c = record c { flag = true; channels = map n_flagged c.channels }

abbrev pub n_channel_restarted : ChannelNumbers → ChannelNumbers
n_channel_restarted c = record { id = c.id; lane = forget c.lane; flag = true }

abbrev pub n_client_restarted : ClientNumbers → ClientNumbers
n_client_restarted c = record {
  next = c.next;
  common = forget c.common;
  secret = forget c.secret;
  settings = record c.settings { held = map_of.empty; mode = Live };
  flag = true;
  channels = map n_channel_restarted c.channels;
}

-- a new client
abbrev pub n_new_client : ClientNumbers
n_new_client = record {
  next = 1;
  common = new_lane;
  secret = new_lane;
  settings = record { at = 0; date = 0; held = map_of.empty; mode = Live };
  flag = false;
  channels = [];
}

-- a channel that is watched, where it may be
abbrev pub n_watched_if : Bool → ClientNumbers → ℤ → ClientNumbers
n_watched_if true c id = record c { channels = c.channels ++ record { id = id; lane = new_lane; flag = false } ∷ [] }
n_watched_if false c id = c
