-- A server to which texts of bytes were posted answers with texts of bytes.
use Rattle.std.specs.Prelude.{⊤, if◌then◌else◌, leb, ltb, reverse, zero, suc, pos, negsuc}
use Rattle.std.proofs.Common.{◌≡◌, ℕ, ◌+◌, ◌-◌, ℤ, List, [], ◌∷◌, ◌++◌, length, map as each, Bool, true, false, ◌&&◌, Option, Some, None, codes, refl, sym, subst}
use Rattle.std.specs.List.{All}
use Rattle.std.specs.Ordering.{int_eq}
use Rattle.std.proofs.lemmas.Bool.{and_parts, ltb-true}
use Rattle.std.proofs.lemmas.List.Elements.{All-nil, All-cons, All-head, All-tail, All-push, All-drop}
use mathlib.Core.List.{reverse-cons}
use Rattle.tl_numbers.specs.Bytes.{AreBytes}
use Rattle.tl_types.specs.Values.{ValueView, ValueViews, int, no_values, text, value}
use Rattle.box_events.specs.declared.limits.TheConstants.{RECENT_BYTES, RECENT_EVENTS}
use Rattle.box_events.specs.declared.replies.ChannelReply.{ChannelReply}
use Rattle.box_events.specs.declared.replies.ChannelReply.TheVariants as channel
use Rattle.box_events.specs.declared.replies.Frame.TheVariants.{Reply as ReplyFrame}
use Rattle.box_events.specs.declared.replies.Reply.{Reply}
use Rattle.box_events.specs.declared.replies.Reply.TheVariants as reply
use Rattle.box_events.specs.declared.requests.Post.{Post}
use Rattle.box_events.specs.declared.requests.Post.TheVariants as post
use Rattle.box_events.specs.declared.requests.Request.{Request}
use Rattle.box_events.specs.declared.requests.Request.TheVariants as request
use Rattle.box_events.specs.declared.settings.Setting.{Setting}
use Rattle.box_events.specs.declared.updates.Placed.{Placed}
use Rattle.box_events.specs.Events.{EventView, added, edited, deleted, read, count_of}
use Rattle.box_events.specs.SettingLists.{Dated}
use Rattle.box_events.specs.Weaving.{bodies, others_from}
use Rattle.box_server.specs.Answers.{answer, is_whole, is_far, last_by, carried, difference_by, difference_of, channel_part, channel_by, channel_difference, no_position}
use Rattle.box_server.specs.Entries.{Entry, to_common, to_secret, to_channel, to_settings, entry_of, entries_of}
use Rattle.box_server.specs.LastEntries.{changed_since}
use Rattle.box_server.specs.Posting.{with_event, applied, applied_all, cut, excess, posted}
use Rattle.box_server.specs.Runs.{events_after, limited, run_of, recent_of}
use Rattle.box_server.specs.Servers.{ChannelBox, ServerState, channel_in, channel_end, dated_at, new_server}
use Rattle.box_server.proofs.Carrying.{run_prefix}
use Rattle.wire_forms.specs.Parts.{row}
use Rattle.wire_values.specs.Frames.{frame_tree}
use Rattle.wire_values.specs.Others.{joined}
use Rattle.wire_values.specs.Updates.{placed_tree, setting_tree}
use Rattle.box_world.proofs.Carried.{all_left}
use Rattle.box_world.proofs.ChangedSettings.{all_changed}
use Rattle.session_commands.proofs.JsonBytes.{no_bytes, one_more_byte}
use Rattle.session_commands.proofs.SpelledBytes.{ValueHolds, ValuesHold}
use Rattle.headline.specs.ReadHistories.{HasBytes}

-- ---- what a server has

abbrev EventHolds : EventView → Type 0
EventHolds (added body) = AreBytes body
EventHolds (edited body) = AreBytes body
EventHolds (deleted ids) = ⊤
EventHolds (read id) = ⊤

abbrev SettingHolds : Setting → Type 0
SettingHolds x = AreBytes x.key × AreBytes x.value

abbrev EntryHolds : Entry → Type 0
EntryHolds (to_common e) = EventHolds e
EntryHolds (to_secret body) = AreBytes body
EntryHolds (to_channel id e) = EventHolds e
EntryHolds (to_settings x) = SettingHolds x

abbrev BoxHolds : ChannelBox → Type 0
BoxHolds c = All EventHolds c.events

abbrev DatedHolds : Dated → Type 0
DatedHolds e = SettingHolds e.setting

-- its events and its settings have texts of bytes
pub record ServerHolds (s : ServerState) : Type 0 where
  pub common : All EventHolds s.common
  pub secret : All EventHolds s.secret
  pub channels : All BoxHolds s.channels
  pub settings : All DatedHolds s.settings

-- ---- posts

entry_holds : (p : Post) → HasBytes p → EntryHolds (entry_of p)
entry_holds (post.Message body) h = h
entry_holds (post.Edit body) h = h
entry_holds (post.Delete ids) h = tt
entry_holds (post.Secret body) h = h
entry_holds (post.ChannelMessage id body) h = h
entry_holds (post.ChannelEdit id body) h = h
entry_holds (post.ChannelDelete id ids) h = tt
entry_holds (post.Setting key content) h = h
entry_holds (post.Read max_id) h = tt
entry_holds (post.ChannelRead id max_id) h = tt

entries_hold : (ps : List Post) → All HasBytes ps → All EntryHolds (entries_of ps)
entries_hold [] all = All-nil EntryHolds
entries_hold (p ∷ ps) all = All-cons EntryHolds (entry_of p) (entries_of ps) (entry_holds p (All-head HasBytes p ps all)) (entries_hold ps (All-tail HasBytes p ps all))

box_by : (c : ChannelBox) (cs : List ChannelBox) (id : ℤ) (e : EventView) (b : Bool) → EventHolds e → All BoxHolds (c ∷ cs) → All BoxHolds (with_event cs id e) → All BoxHolds (if b then record c { events = c.events ++ e ∷ [] } ∷ cs else c ∷ with_event cs id e)
box_by c cs id e true h all more = All-cons BoxHolds (record c { events = c.events ++ e ∷ [] }) cs (All-push EventHolds c.events e (All-head BoxHolds c cs all) h) (All-tail BoxHolds c cs all)
box_by c cs id e false h all more = All-cons BoxHolds c (with_event cs id e) (All-head BoxHolds c cs all) more

boxes_with : (cs : List ChannelBox) (id : ℤ) (e : EventView) → EventHolds e → All BoxHolds cs → All BoxHolds (with_event cs id e)
boxes_with [] id e h all = All-cons BoxHolds (record { id = id; first = 0; events = e ∷ [] }) [] (All-cons EventHolds e [] h (All-nil EventHolds)) all
boxes_with (c ∷ cs) id e h all = box_by c cs id e (int_eq c.id id) h all (boxes_with cs id e h (All-tail BoxHolds c cs all))

boxes_cut : (cs : List ChannelBox) → All BoxHolds cs → All BoxHolds (each cut cs)
boxes_cut [] all = all
boxes_cut (c ∷ cs) all = All-cons BoxHolds (cut c) (each cut cs) (All-drop EventHolds (excess c) c.events (All-head BoxHolds c cs all)) (boxes_cut cs (All-tail BoxHolds c cs all))

applied_holds : (s : ServerState) (x : Entry) → EntryHolds x → ServerHolds s → ServerHolds (applied s x)
applied_holds s (to_common e) f h = record { common = All-push EventHolds s.common e h.common f; secret = h.secret; channels = h.channels; settings = h.settings }
applied_holds s (to_secret body) f h = record { common = h.common; secret = All-push EventHolds s.secret (added body) h.secret f; channels = h.channels; settings = h.settings }
applied_holds s (to_channel id e) f h = record { common = h.common; secret = h.secret; channels = boxes_with s.channels id e f h.channels; settings = h.settings }
applied_holds s (to_settings x) f h =
    let new : Dated = record { setting = x; date = s.date } in
    record { common = h.common; secret = h.secret; channels = h.channels; settings = All-push DatedHolds s.settings new h.settings f }

all_applied : (s : ServerState) (xs : List Entry) → All EntryHolds xs → ServerHolds s → ServerHolds (applied_all s xs)
all_applied s [] all h = h
all_applied s (x ∷ xs) all h = all_applied (applied s x) xs (All-tail EntryHolds x xs all) (applied_holds s x (All-head EntryHolds x xs all) h)

pub posted_holds : (s : ServerState) (random_id : ℤ) (ps : List Post) → All HasBytes ps → ServerHolds s → ServerHolds (posted s random_id ps)
unfolding posted
posted_holds s random_id ps all h =
    let t : ServerState = applied_all s (entries_of ps) in
    let f : ServerHolds t = all_applied s (entries_of ps) (entries_hold ps all) h in
    record { common = f.common; secret = f.secret; channels = boxes_cut t.channels f.channels; settings = f.settings }

pub dated_holds : (s : ServerState) (now : ℕ) → ServerHolds s → ServerHolds (dated_at s now)
dated_holds s now h = record { common = h.common; secret = h.secret; channels = h.channels; settings = h.settings }

pub new_holds : ServerHolds new_server
new_holds = record { common = All-nil EventHolds; secret = All-nil EventHolds; channels = All-nil BoxHolds; settings = All-nil DatedHolds }

-- ---- what is carried

abbrev PlacedHolds : Placed → Type 0
PlacedHolds o = EventHolds o.event

run_holds : (es : List EventView) → All EventHolds es → All EventHolds (run_of es)
run_holds es all = let p = run_prefix es in all_left EventHolds (run_of es) p.0 (subst (All EventHolds) p.1 all)

bodies_hold : (es : List EventView) → All EventHolds es → All AreBytes (bodies es)
bodies_hold [] all = All-nil AreBytes
bodies_hold (added body ∷ es) all = All-cons AreBytes body (bodies es) (All-head EventHolds (added body) es all) (bodies_hold es (All-tail EventHolds (added body) es all))
bodies_hold (edited body ∷ es) all = bodies_hold es (All-tail EventHolds (edited body) es all)
bodies_hold (deleted ids ∷ es) all = bodies_hold es (All-tail EventHolds (deleted ids) es all)
bodies_hold (read id ∷ es) all = bodies_hold es (All-tail EventHolds (read id) es all)

others_hold : (p : ℕ) (es : List EventView) → All EventHolds es → All PlacedHolds (others_from p es)
others_hold p [] all = All-nil PlacedHolds
others_hold p (added body ∷ es) all = others_hold (p + 1) es (All-tail EventHolds (added body) es all)
others_hold p (edited body ∷ es) all =
    All-cons PlacedHolds (record { event = edited body; pts = p + 1 }) (others_from (p + 1) es) (All-head EventHolds (edited body) es all) (others_hold (p + 1) es (All-tail EventHolds (edited body) es all))
others_hold p (deleted ids ∷ es) all =
    All-cons PlacedHolds (record { event = deleted ids; pts = p + length ids }) (others_from (p + length ids) es) tt (others_hold (p + length ids) es (All-tail EventHolds (deleted ids) es all))
others_hold p (read id ∷ es) all = All-cons PlacedHolds (record { event = read id; pts = p + 1 }) (others_from (p + 1) es) tt (others_hold (p + 1) es (All-tail EventHolds (read id) es all))

all_turned : (xs : List (List ℕ)) → All AreBytes xs → All AreBytes (reverse xs)
all_turned [] all = all
all_turned (x ∷ xs) all = subst (All AreBytes) (sym (reverse-cons x xs)) (All-push AreBytes (reverse xs) x (all_turned xs (All-tail AreBytes x xs all)) (All-head AreBytes x xs all))

limit_by : (b : Bool) (x : List ℕ) (xs : List (List ℕ)) → AreBytes x → All AreBytes xs → All AreBytes (if b then x ∷ xs else [])
limit_by true x xs is all = All-cons AreBytes x xs is all
limit_by false x xs is all = All-nil AreBytes

all_limited : (n b : ℕ) (xs : List (List ℕ)) → All AreBytes xs → All AreBytes (limited length n b xs)
unfolding limited
all_limited zero b xs all = All-nil AreBytes
all_limited (suc n) b [] all = All-nil AreBytes
all_limited (suc n) b (x ∷ xs) all = limit_by (leb (length x) b) x (limited length n (b - length x) xs) (All-head AreBytes x xs all) (all_limited n (b - length x) xs (All-tail AreBytes x xs all))

recent_hold : (es : List EventView) → All EventHolds es → All AreBytes (recent_of es)
recent_hold es all = all_turned (limited length RECENT_EVENTS RECENT_BYTES (reverse (bodies es))) (all_limited RECENT_EVENTS RECENT_BYTES (reverse (bodies es)) (all_turned (bodies es) (bodies_hold es all)))

-- ---- answers

abbrev ChannelReplyHolds : ChannelReply → Type 0
ChannelReplyHolds (channel.Empty pts last) = ⊤
ChannelReplyHolds (channel.Part pts news others last) = All AreBytes news × All PlacedHolds others
ChannelReplyHolds (channel.TooLong pts recent last) = All AreBytes recent

abbrev ReplyHolds : Reply → Type 0
ReplyHolds (reply.State s) = ⊤
ReplyHolds (reply.Empty date seq) = ⊤
ReplyHolds (reply.Difference news secrets others settings state last) = All AreBytes news × All AreBytes secrets × All PlacedHolds others × All SettingHolds settings
ReplyHolds (reply.Channel c) = ChannelReplyHolds c
ReplyHolds (reply.Receipt r) = ⊤
ReplyHolds (reply.Error code message) = AreBytes message

below : List ℕ → Bool
below [] = true
below (x ∷ xs) = ltb x 256 && below xs

are_below : (xs : List ℕ) → below xs ≡ true → AreBytes xs
unfolding below
are_below [] e = no_bytes
are_below (x ∷ xs) e = let both = and_parts (ltb x 256) (below xs) e in one_more_byte x xs (ltb-true x 256 both.0) (are_below xs both.1)

no_position_holds : ReplyHolds no_position
unfolding below
no_position_holds = are_below (codes "PERSISTENT_TIMESTAMP_INVALID") refl

last_holds : (b : Bool) (s : ServerState) (p date : ℕ) (es fs : List EventView) → ServerHolds s → All EventHolds es → All EventHolds fs → ReplyHolds (last_by b s p (run_of es) (run_of fs) (changed_since s.settings date))
last_holds true s p date es fs h news secrets = tt
last_holds false s p date es fs h news secrets = (bodies_hold (run_of es) (run_holds es news), bodies_hold (run_of fs) (run_holds fs secrets), others_hold p (run_of es) (run_holds es news), all_changed SettingHolds s.settings date h.settings)

carried_holds : (b : Bool) (s : ServerState) (p q date : ℕ) (es fs : List EventView) → ServerHolds s → All EventHolds es → All EventHolds fs → ReplyHolds (carried b s p q date (run_of es) (run_of fs))
carried_holds true s p q date es fs h news secrets = last_holds _ s p date es fs h news secrets
carried_holds false s p q date es fs h news secrets = (bodies_hold (run_of es) (run_holds es news), bodies_hold (run_of fs) (run_holds fs secrets), others_hold p (run_of es) (run_holds es news), All-nil SettingHolds)

after_by : (b : Bool) (o : Option (List EventView)) (fs : List EventView) → (if b then o else None) ≡ Some fs → (o ≡ Some fs → All EventHolds fs) → All EventHolds fs
after_by true o fs is law = law is
after_by false o fs is law = absurd cc

after_holds : (es : List EventView) (p : ℕ) (fs : List EventView) → All EventHolds es → events_after es p ≡ Some fs → All EventHolds fs
after_holds es zero fs all is = subst (All EventHolds) (same es fs is) all
  where
    same : (a b : List EventView) → Some a ≡ Some b → a ≡ b
    same a b e = cc
after_holds [] (suc p) fs all is = absurd cc
after_holds (e ∷ es) (suc p) fs all is = after_by (leb (count_of e) (suc p)) (events_after es (suc p - count_of e)) fs is (λ found. after_holds es (suc p - count_of e) fs (All-tail EventHolds e es all) found)

difference_holds : (s : ServerState) (p q date : ℕ) (a b : Option (List EventView)) → ServerHolds s → events_after s.common p ≡ a → events_after s.secret q ≡ b → ReplyHolds (difference_by s p q date a b)
difference_holds s p q date None b h x y = no_position_holds
difference_holds s p q date (Some es) None h x y = no_position_holds
difference_holds s p q date (Some es) (Some fs) h x y = carried_holds (is_whole es && is_whole fs) s p q date es fs h (after_holds s.common p es h.common x) (after_holds s.secret q fs h.secret y)

differences_hold : (s : ServerState) (pts qts : ℤ) (date : ℕ) → ServerHolds s → ReplyHolds (difference_of s pts qts date)
differences_hold s (negsuc p) qts date h = no_position_holds
differences_hold s (pos p) (negsuc q) date h = no_position_holds
differences_hold s (pos p) (pos q) date h = difference_holds s p q date (events_after s.common p) (events_after s.secret q) h refl refl

part_holds : (c : ChannelBox) (p : ℕ) (o : Option (List EventView)) → All EventHolds c.events → events_after c.events (p - c.first) ≡ o → ReplyHolds (channel_part p o)
part_holds c p None all is = no_position_holds
part_holds c p (Some []) all is = tt
part_holds c p (Some (e ∷ es)) all is =
    let after = run_holds (e ∷ es) (after_holds c.events (p - c.first) (e ∷ es) all is) in
    (bodies_hold (run_of (e ∷ es)) after, others_hold p (run_of (e ∷ es)) after)

channel_holds : (past far : Bool) (c : ChannelBox) (p : ℕ) → All EventHolds c.events → ReplyHolds (channel_by past far c p)
channel_holds true far c p all = no_position_holds
channel_holds false true c p all = recent_hold c.events all
channel_holds false false c p all = part_holds c p (events_after c.events (p - c.first)) all refl

channels_hold : (c : ChannelBox) (pts : ℤ) → All EventHolds c.events → ReplyHolds (channel_difference c pts)
channels_hold c (negsuc p) all = no_position_holds
channels_hold c (pos p) all = channel_holds (ltb (channel_end c) p) (is_far c p) c p all

events_by : (c d : ChannelBox) (b : Bool) → All EventHolds c.events → All EventHolds d.events → All EventHolds (if b then c else d).events
events_by c d true f g = f
events_by c d false f g = g

events_in : (cs : List ChannelBox) (id : ℤ) → All BoxHolds cs → All EventHolds (channel_in cs id).events
events_in [] id all = All-nil EventHolds
events_in (c ∷ cs) id all = events_by c (channel_in cs id) (int_eq c.id id) (All-head BoxHolds c cs all) (events_in cs id (All-tail BoxHolds c cs all))

answer_holds : (s : ServerState) (r : Request) → ServerHolds s → ReplyHolds (answer s r)
unfolding answer
answer_holds s request.State h = tt
answer_holds s (request.Difference pts qts date) h = differences_hold s pts qts date h
answer_holds s (request.Channel id pts) h = channels_hold (channel_in s.channels id) pts (events_in s.channels id h.channels)
answer_holds s (request.Post random_id posts) h = tt

-- ---- frames

row_holds : {A : Type 0} (P : A → Type 0) (f : A → ValueView) → ((x : A) → P x → ValueHolds (f x)) → (xs : List A) → All P xs → ValuesHold (row f xs)
row_holds P f law [] all = tt
row_holds P f law (x ∷ xs) all = (law x (All-head P x xs all), row_holds P f law xs (All-tail P x xs all))

ids_hold : (ids : List ℤ) → ValuesHold (row int ids)
ids_hold [] = tt
ids_hold (id ∷ ids) = (tt, ids_hold ids)

bodies_value : (bs : List (List ℕ)) → All AreBytes bs → ValuesHold (row text bs)
bodies_value bs all = row_holds AreBytes text (λ x are. are) bs all

placed_holds : (o : Placed) → PlacedHolds o → ValueHolds (placed_tree o)
placed_holds o h = event_value o.event o.pts h
  where
    event_value : (e : EventView) (pts : ℕ) → EventHolds e → ValueHolds (placed_tree (record { event = e; pts = pts }))
    event_value (added body) pts h = (h, (tt, (tt, tt)))
    event_value (edited body) pts h = (h, (tt, (tt, tt)))
    event_value (deleted ids) pts h = (ids_hold ids, (tt, (tt, tt)))
    event_value (read id) pts h = (tt, (tt, (tt, tt)))

joined_hold : (xs ys : ValueViews) → ValuesHold xs → ValuesHold ys → ValuesHold (joined xs ys)
joined_hold no_values ys h g = g
joined_hold (value x xs) ys h g = (h.0, joined_hold xs ys h.1 g)

setting_value : (x : Setting) → SettingHolds x → ValueHolds (setting_tree x)
setting_value x h = (h.0, (h.1, tt))

channel_value : (n : ℕ) (c : ChannelReply) → ChannelReplyHolds c → ValueHolds (frame_tree (ReplyFrame n (reply.Channel c)))
channel_value n (channel.Empty pts true) h = (tt, ((tt, (tt, (tt, tt))), tt))
channel_value n (channel.Empty pts false) h = (tt, ((tt, (tt, (tt, tt))), tt))
channel_value n (channel.Part pts news others true) h = (tt, ((tt, (tt, (tt, (bodies_value news h.0, (row_holds PlacedHolds placed_tree placed_holds others h.1, tt))))), tt))
channel_value n (channel.Part pts news others false) h = (tt, ((tt, (tt, (tt, (bodies_value news h.0, (row_holds PlacedHolds placed_tree placed_holds others h.1, tt))))), tt))
channel_value n (channel.TooLong pts recent true) h = (tt, ((tt, (tt, (tt, (bodies_value recent h, tt)))), tt))
channel_value n (channel.TooLong pts recent false) h = (tt, ((tt, (tt, (tt, (bodies_value recent h, tt)))), tt))

reply_value : (n : ℕ) (v : Reply) → ReplyHolds v → ValueHolds (frame_tree (ReplyFrame n v))
reply_value n (reply.State s) h = (tt, ((tt, (tt, (tt, (tt, tt)))), tt))
reply_value n (reply.Empty date seq) h = (tt, ((tt, (tt, tt)), tt))
reply_value n (reply.Difference news secrets others settings state last) h =
    let rest = joined_hold (row placed_tree others) (row setting_tree settings) (row_holds PlacedHolds placed_tree placed_holds others h.2) (row_holds SettingHolds setting_tree setting_value settings h.3) in
    (tt, ((bodies_value news h.0, (bodies_value secrets h.1, (rest, ((tt, (tt, (tt, (tt, tt)))), tt)))), tt))
reply_value n (reply.Channel c) h = channel_value n c h
reply_value n (reply.Receipt r) h = (tt, ((tt, (tt, (tt, (tt, tt)))), tt))
reply_value n (reply.Error code message) h = (tt, (tt, (h, tt)))

-- an answer's value
pub answers_have_bytes : (s : ServerState) (n : ℕ) (r : Request) → ServerHolds s → ValueHolds (frame_tree (ReplyFrame n (answer s r)))
answers_have_bytes s n r h = reply_value n (answer s r) (answer_holds s r h)
