-- Servers only grow.
use Rattle.std.proofs.Common.{◌≡◌, ℕ, ℤ, ◌+◌, ◌-◌, ◌≤◌, List, [], ◌∷◌, ◌++◌, Bool, true, false, Option, Some, None, if◌then◌else◌, length, take, map as each, refl, sym, ap, ◌∙◌, subst, arith, append_assoc, append-nil}
use Rattle.std.specs.List.{All}
use Rattle.std.specs.Ordering.{int_eq}
use Rattle.std.specs.FinMap as map
use Rattle.std.proofs.lemmas.Bool.Decides.{Decides-int_eq}
use Rattle.std.proofs.lemmas.List.{take-append-drop, length-append, length-map}
use Rattle.std.proofs.lemmas.List.Elements.{All-nil, All-append, All-push, All-weaker}
use Rattle.box_events.specs.declared.positions.Receipt.{Receipt}
use Rattle.box_events.specs.declared.requests.Post.{Post}
use Rattle.box_events.specs.declared.settings.Setting.{Setting}
use Rattle.box_events.specs.declared.updates.Update.{Update}
use Rattle.box_events.specs.declared.updates.Update.TheVariants.{Common, Secret, Channel, ChannelTooLong, Setting as SettingUpdate}
use Rattle.box_events.specs.Events.{EventView, added, count_of}
use Rattle.box_events.specs.Boxes.{ending, Between}
use Rattle.box_events.specs.SettingLists.{Dated}
use Rattle.box_events.proofs.Boundaries.{ending-append}
use Rattle.box_events.proofs.Stretches.{between_grows, appended_lies}
use Rattle.box_server.specs.declared.fault.PostFault.{PostFault}
use Rattle.box_server.specs.Servers.{ChannelBox, ServerState, channel_in, channel_end, dated_at}
use Rattle.box_server.specs.Entries.{Entry, to_common, to_secret, to_channel, to_settings, entries_of}
use Rattle.box_server.specs.Posting.{with_event, applied, applied_all, cut, excess, posted, updates_of, settings_of, first_number, last_number, dated_with}
use Rattle.box_server.specs.Refusing.{post_cause}
use Rattle.box_server.specs.Receiving.{state_by, after_post}
use Rattle.box_server.specs.Growing.{IsWhole, HasMore, GrowsTo, channel_events, LiesAt, AllLie, pushed_settings}

-- ---- ids

pub same_id : (x y : ℤ) → int_eq x y ≡ true → x ≡ y
same_id x y e = (Decides-int_eq x y).0 e

pub id_itself : (x : ℤ) → int_eq x x ≡ true
id_itself x = (Decides-int_eq x x).1 refl

true_false : {A : Type 0} (b : Bool) → b ≡ true → b ≡ false → A
true_false b t f = absurd (let w : true ≡ false = sym t ∙ f in cc)

-- ---- a channel's box

-- further events at the end of a box
abbrev pub with_more : ChannelBox → List EventView → ChannelBox
with_more c more = record c { events = c.events ++ more }

with_none : (c : ChannelBox) → with_more c [] ≡ c
with_none c = λ i. record c { events = append-nil c.events i }

with_twice : (c : ChannelBox) (xs ys : List EventView) → with_more (with_more c xs) ys ≡ with_more c (xs ++ ys)
with_twice c xs ys = λ i. record c { events = append_assoc c.events xs ys i }

with_by : (c : ChannelBox) (cs : List ChannelBox) (id j : ℤ) (e : EventView) (t u v : Bool) → int_eq c.id id ≡ t → int_eq c.id j ≡ u → int_eq id j ≡ v
    → channel_in (with_event cs id e) j ≡ with_more (channel_in cs j) (if v then e ∷ [] else [])
    → channel_in (if t then with_more c (e ∷ []) ∷ cs else c ∷ with_event cs id e) j ≡ with_more (if u then c else channel_in cs j) (if v then e ∷ [] else [])
with_by c cs id j e true true true t u v more = ap (λ (b : Bool). if b then with_more c (e ∷ []) else channel_in cs j) u
with_by c cs id j e true true false t u v more = true_false (int_eq id j) (subst (λ (x : ℤ). int_eq x j ≡ true) (same_id c.id id t) u) v
with_by c cs id j e true false true t u v more = true_false (int_eq id j) v (subst (λ (x : ℤ). int_eq x j ≡ false) (same_id c.id id t) u)
with_by c cs id j e true false false t u v more = ap (λ (b : Bool). if b then with_more c (e ∷ []) else channel_in cs j) u ∙ sym (with_none (channel_in cs j))
with_by c cs id j e false true true t u v more = true_false (int_eq c.id id) (subst (λ (x : ℤ). int_eq c.id x ≡ true) (sym (same_id id j v)) u) t
with_by c cs id j e false true false t u v more = ap (λ (b : Bool). if b then c else channel_in (with_event cs id e) j) u ∙ sym (with_none c)
with_by c cs id j e false false v t u w more = ap (λ (b : Bool). if b then c else channel_in (with_event cs id e) j) u ∙ more

new_by : (id j : ℤ) (e : EventView) (t : Bool) → int_eq id j ≡ t
    → (if t then record { id = id; first = 0; events = e ∷ [] } else record { id = j; first = 0; events = [] }) ≡ with_more (record { id = j; first = 0; events = [] }) (if t then e ∷ [] else [])
new_by id j e true t = λ i. record { id = same_id id j t i; first = 0; events = e ∷ [] }
new_by id j e false t = refl

-- an event goes to its own channel alone
pub channel_with : (cs : List ChannelBox) (id j : ℤ) (e : EventView) → channel_in (with_event cs id e) j ≡ with_more (channel_in cs j) (if int_eq id j then e ∷ [] else [])
channel_with [] id j e = new_by id j e (int_eq id j) refl
channel_with (c ∷ cs) id j e = with_by c cs id j e (int_eq c.id id) (int_eq c.id j) (int_eq id j) refl refl refl (channel_with cs id j e)

event_first : (b : Bool) (e : EventView) (es : List EventView) → (if b then e ∷ [] else []) ++ es ≡ (if b then e ∷ es else es)
event_first true e es = refl
event_first false e es = refl

pub channel_after : (s : ServerState) (xs : List Entry) (j : ℤ) → channel_in (applied_all s xs).channels j ≡ with_more (channel_in s.channels j) (channel_events j xs)
channel_after s [] j = sym (with_none (channel_in s.channels j))
channel_after s (to_common e ∷ xs) j = channel_after (applied s (to_common e)) xs j
channel_after s (to_secret body ∷ xs) j = channel_after (applied s (to_secret body)) xs j
channel_after s (to_channel id e ∷ xs) j =
    channel_after (applied s (to_channel id e)) xs j
    ∙ ap (λ (c : ChannelBox). with_more c (channel_events j xs)) (channel_with s.channels id j e)
    ∙ with_twice (channel_in s.channels j) (if int_eq id j then e ∷ [] else []) (channel_events j xs)
    ∙ ap (with_more (channel_in s.channels j)) (event_first (int_eq id j) e (channel_events j xs))
channel_after s (to_settings x ∷ xs) j = channel_after (applied s (to_settings x)) xs j

cut_by : (b : Bool) (c d e : ChannelBox) → e ≡ cut d → (if b then cut c else e) ≡ cut (if b then c else d)
cut_by true c d e is = refl
cut_by false c d e is = is

cut_empty : (id : ℤ) → record { id = id; first = 0; events = [] } ≡ cut (record { id = id; first = 0; events = [] })
cut_empty id = refl

pub channel_cut : (cs : List ChannelBox) (j : ℤ) → channel_in (each cut cs) j ≡ cut (channel_in cs j)
channel_cut [] j = cut_empty j
channel_cut (c ∷ cs) j = cut_by (int_eq c.id j) c (channel_in cs j) (channel_in (each cut cs) j) (channel_cut cs j)

pub channel_posted : (s : ServerState) (random_id : ℤ) (posts : List Post) (j : ℤ) → channel_in (posted s random_id posts).channels j ≡ cut (with_more (channel_in s.channels j) (channel_events j (entries_of posts)))
unfolding posted
channel_posted s random_id posts j = channel_cut (applied_all s (entries_of posts)).channels j ∙ ap cut (channel_after s (entries_of posts) j)

-- ---- more events

more_none : (c : ChannelBox) → HasMore c c []
more_none c = record { gone = []; events = append-nil c.events; first = omega arith }

more_with : (c : ChannelBox) (more : List EventView) → HasMore c (with_more c more) more
more_with c more = record { gone = []; events = refl; first = omega arith }

more_cut : (c : ChannelBox) (more : List EventView) → HasMore c (cut (with_more c more)) more
more_cut c more =
    let all : List EventView = c.events ++ more in
    record { gone = take (excess (with_more c more)) all; events = sym (take-append-drop (excess (with_more c more)) all); first = refl }

pub more_then : (a b c : ChannelBox) (xs ys : List EventView) → HasMore a b xs → HasMore b c ys → HasMore a c (xs ++ ys)
more_then a b c xs ys m n = record {
  gone = m.gone ++ n.gone;
  events = sym (append_assoc a.events xs ys) ∙ ap (λ (l : List EventView). l ++ ys) m.events ∙ append_assoc m.gone b.events ys ∙ ap (λ (l : List EventView). m.gone ++ l) n.events ∙ sym (append_assoc m.gone n.gone c.events);
  first = omega (arith, m.first, n.first, ending-append m.gone n.gone);
}

pub more_posted : (s : ServerState) (random_id : ℤ) (posts : List Post) (id : ℤ) → HasMore (channel_in s.channels id) (channel_in (posted s random_id posts).channels id) (channel_events id (entries_of posts))
more_posted s random_id posts id =
    subst (λ (c : ChannelBox). HasMore (channel_in s.channels id) c (channel_events id (entries_of posts))) (sym (channel_posted s random_id posts id)) (more_cut (channel_in s.channels id) (channel_events id (entries_of posts)))

pub whole_more : (whole more : List EventView) (old new : ChannelBox) → IsWhole whole old → HasMore old new more → IsWhole (whole ++ more) new
whole_more whole more old new w m = record {
  gone = w.gone ++ m.gone;
  events = ap (λ (l : List EventView). l ++ more) w.events ∙ append_assoc w.gone old.events more ∙ ap (λ (l : List EventView). w.gone ++ l) m.events ∙ sym (append_assoc w.gone m.gone new.events);
  first = omega (arith, w.first, m.first, ending-append w.gone m.gone);
}

pub whole_end : (whole : List EventView) (c : ChannelBox) → IsWhole whole c → channel_end c ≡ ending whole
whole_end whole c w = omega (arith, w.first, ap ending w.events, ending-append w.gone c.events)

-- ---- servers

list_none : (a : List EventView) → (more : List EventView) × (a ≡ a ++ more)
list_none a = ([], sym (append-nil a))

list_then : (a b c : List EventView) → (more : List EventView) × (b ≡ a ++ more) → (more : List EventView) × (c ≡ b ++ more) → (more : List EventView) × (c ≡ a ++ more)
list_then a b c x y = (x.0 ++ y.0, y.1 ∙ ap (λ (l : List EventView). l ++ y.0) x.1 ∙ append_assoc a x.0 y.0)

abbrev Settings : ServerState → ServerState → Type 0
Settings s t = (more : List Dated) × (t.settings ≡ s.settings ++ more) × All (λ e. s.date ≤ e.date) more

no_settings : (s : ServerState) → Settings s s
no_settings s = ([], sym (append-nil s.settings), All-nil (λ (e : Dated). s.date ≤ e.date))

pub grows_none : (s : ServerState) → GrowsTo s s
grows_none s = record { common = list_none s.common; secret = list_none s.secret; channel = λ id. ([], more_none (channel_in s.channels id)); settings = no_settings s; date = omega arith }

pub grows_then : (s t u : ServerState) → GrowsTo s t → GrowsTo t u → GrowsTo s u
grows_then s t u a b =
    let first = a.settings in
    let second = b.settings in
    let later : s.date ≤ t.date = a.date in
    record {
      common = list_then s.common t.common u.common a.common b.common;
      secret = list_then s.secret t.secret u.secret a.secret b.secret;
      channel = λ id. let x = a.channel id in let y = b.channel id in (x.0 ++ y.0, more_then (channel_in s.channels id) (channel_in t.channels id) (channel_in u.channels id) x.0 y.0 x.1 y.1);
      settings = (
        first.0 ++ second.0,
        second.1 ∙ ap (λ (l : List Dated). l ++ second.0) first.1 ∙ append_assoc s.settings first.0 second.0,
        All-append (λ (e : Dated). s.date ≤ e.date) first.0 second.0 first.2 (All-weaker (λ (e : Dated). t.date ≤ e.date) (λ (e : Dated). s.date ≤ e.date) (λ e h. omega (arith, h, later)) second.0 second.2),
      );
      date = omega (arith, a.date, b.date);
    }

applied_grows : (s : ServerState) (x : Entry) → GrowsTo s (applied s x)
applied_grows s (to_common e) = record { common = (e ∷ [], refl); secret = list_none s.secret; channel = λ id. ([], more_none (channel_in s.channels id)); settings = no_settings s; date = omega arith }
applied_grows s (to_secret body) = record { common = list_none s.common; secret = (added body ∷ [], refl); channel = λ id. ([], more_none (channel_in s.channels id)); settings = no_settings s; date = omega arith }
applied_grows s (to_channel id e) = record {
  common = list_none s.common;
  secret = list_none s.secret;
  channel = λ j. (if int_eq id j then e ∷ [] else [], subst (λ (c : ChannelBox). HasMore (channel_in s.channels j) c (if int_eq id j then e ∷ [] else [])) (sym (channel_with s.channels id j e)) (more_with (channel_in s.channels j) (if int_eq id j then e ∷ [] else [])));
  settings = no_settings s;
  date = omega arith;
}
applied_grows s (to_settings x) =
    let new : Dated = record { setting = x; date = s.date } in
    record {
      common = list_none s.common;
      secret = list_none s.secret;
      channel = λ id. ([], more_none (channel_in s.channels id));
      settings = (new ∷ [], refl, All-push (λ (e : Dated). s.date ≤ e.date) [] new (All-nil (λ (e : Dated). s.date ≤ e.date)) (omega arith));
      date = omega arith;
    }

pub applied_all_grows : (s : ServerState) (xs : List Entry) → GrowsTo s (applied_all s xs)
applied_all_grows s [] = grows_none s
applied_all_grows s (x ∷ xs) = grows_then s (applied s x) (applied_all (applied s x) xs) (applied_grows s x) (applied_all_grows (applied s x) xs)

-- with channels that were cut, and any receipts
cut_grows : (s : ServerState) (receipts : map.FinMap _ Receipt) → GrowsTo s (record s { channels = each cut s.channels; receipts = receipts })
cut_grows s receipts = record {
  common = list_none s.common;
  secret = list_none s.secret;
  channel = λ id. ([], subst (λ (c : ChannelBox). HasMore (channel_in s.channels id) c []) (ap cut (with_none (channel_in s.channels id)) ∙ sym (channel_cut s.channels id)) (more_cut (channel_in s.channels id) []));
  settings = no_settings s;
  date = omega arith;
}

pub posted_grows : (s : ServerState) (random_id : ℤ) (posts : List Post) → GrowsTo s (posted s random_id posts)
unfolding posted
posted_grows s random_id posts =
    let t : ServerState = applied_all s (entries_of posts) in
    grows_then s t (posted s random_id posts) (applied_all_grows s (entries_of posts)) (cut_grows t (posted s random_id posts).receipts)

grows_by : (s : ServerState) (random_id : ℤ) (posts : List Post) (r : Option Receipt) (c : Option PostFault) → GrowsTo s (state_by s random_id posts r c)
grows_by s random_id posts (Some r) c = grows_none s
grows_by s random_id posts None (Some c) = grows_none s
grows_by s random_id posts None None = posted_grows s random_id posts

pub post_grows : (s : ServerState) (random_id : ℤ) (posts : List Post) → GrowsTo s (after_post s random_id posts)
post_grows s random_id posts = grows_by s random_id posts (map.get s.receipts random_id) (post_cause s posts)

pub dated_grows : (s : ServerState) (date : ℕ) → GrowsTo s (dated_at s date)
dated_grows s date = record { common = list_none s.common; secret = list_none s.secret; channel = λ id. ([], more_none (channel_in s.channels id)); settings = no_settings s; date = omega arith }

-- ---- updates lie in boxes

lies_more : (a b : List EventView) (pts : ℕ) (e : EventView) → (more : List EventView) × (b ≡ a ++ more) → LiesAt a pts e → LiesAt b pts e
lies_more a b pts e m h = subst (λ (l : List EventView). LiesAt l pts e) (sym m.1) (between_grows a m.0 (pts - count_of e) pts (e ∷ []) h)

lies_last : (box : List EventView) (e : EventView) → LiesAt (box ++ e ∷ []) (ending box + count_of e) e
lies_last box e =
    let start : ending box ≡ (ending box + count_of e) - count_of e = omega arith in
    let stop : ending box + ending (e ∷ []) ≡ ending box + count_of e = omega arith in
    subst (λ (p : ℕ). Between (box ++ e ∷ []) p (ending box + count_of e) (e ∷ [])) start (subst (λ (q : ℕ). Between (box ++ e ∷ []) (ending box) q (e ∷ [])) stop (appended_lies box (e ∷ [])))

-- the whole boxes with an event more
abbrev with_one : (ℤ → List EventView) → ℤ → EventView → ℤ → List EventView
with_one whole id e j = whole j ++ (if int_eq id j then e ∷ [] else [])

lie : (s : ServerState) (xs : List Entry) (whole : ℤ → List EventView) → ((id : ℤ) → IsWhole (whole id) (channel_in s.channels id)) → AllLie (applied_all s xs) (λ id. whole id ++ channel_events id xs) (updates_of s xs)
lie s [] whole are = tt
lie s (to_common e ∷ xs) whole are =
    let t : ServerState = applied s (to_common e) in
    (lies_more t.common (applied_all t xs).common (ending s.common + count_of e) e (applied_all_grows t xs).common (lies_last s.common e), lie t xs whole are)
lie s (to_secret body ∷ xs) whole are =
    let t : ServerState = applied s (to_secret body) in
    (lies_more t.secret (applied_all t xs).secret (ending s.secret + 1) (added body) (applied_all_grows t xs).secret (lies_last s.secret (added body)), lie t xs whole are)
lie s (to_channel id e ∷ xs) whole are =
    let t : ServerState = applied s (to_channel id e) in
    let more : (j : ℤ) → IsWhole (with_one whole id e j) (channel_in t.channels j) = λ j.
    whole_more (whole j) (if int_eq id j then e ∷ [] else []) (channel_in s.channels j) (channel_in t.channels j) (are j)
    (subst (λ (c : ChannelBox). HasMore (channel_in s.channels j) c (if int_eq id j then e ∷ [] else [])) (sym (channel_with s.channels id j e)) (more_with (channel_in s.channels j) (if int_eq id j then e ∷ [] else []))) in
    let joined : (j : ℤ) → with_one whole id e j ++ channel_events j xs ≡ whole j ++ channel_events j (to_channel id e ∷ xs) = λ j.
    append_assoc (whole j) (if int_eq id j then e ∷ [] else []) (channel_events j xs) ∙ ap (λ (l : List EventView). whole j ++ l) (event_first (int_eq id j) e (channel_events j xs)) in
    let own : with_one whole id e id ≡ whole id ++ e ∷ [] = ap (λ (b : Bool). whole id ++ (if b then e ∷ [] else [])) (id_itself id) in
    let there : LiesAt (whole id ++ e ∷ []) (channel_end (channel_in s.channels id) + count_of e) e = subst (λ (n : ℕ). LiesAt (whole id ++ e ∷ []) (n + count_of e) e) (sym (whole_end (whole id) (channel_in s.channels id) (are id))) (lies_last (whole id) e) in (
      lies_more (whole id ++ e ∷ []) (whole id ++ channel_events id (to_channel id e ∷ xs)) (channel_end (channel_in s.channels id) + count_of e) e (channel_events id xs, sym (joined id) ∙ ap (λ (l : List EventView). l ++ channel_events id xs) own) there,
      subst (λ (w : ℤ → List EventView). AllLie (applied_all t xs) w (updates_of t xs)) (λ k j. joined j k) (lie t xs (with_one whole id e) more),
    )
lie s (to_settings x ∷ xs) whole are = lie (applied s (to_settings x)) xs whole are

pub lies_grow : (s t : ServerState) (whole later : ℤ → List EventView) (us : List Update) → (more : List EventView) × (t.common ≡ s.common ++ more) → (more : List EventView) × (t.secret ≡ s.secret ++ more)
    → ((id : ℤ) → (more : List EventView) × (later id ≡ whole id ++ more)) → AllLie s whole us → AllLie t later us
lies_grow s t whole later [] a b c h = tt
lies_grow s t whole later (Common e pts ∷ us) a b c h = (lies_more s.common t.common pts e a h.0, lies_grow s t whole later us a b c h.1)
lies_grow s t whole later (Secret body qts ∷ us) a b c h = (lies_more s.secret t.secret qts (added body) b h.0, lies_grow s t whole later us a b c h.1)
lies_grow s t whole later (Channel id e pts ∷ us) a b c h = (lies_more (whole id) (later id) pts e (c id) h.0, lies_grow s t whole later us a b c h.1)
lies_grow s t whole later (ChannelTooLong id ∷ us) a b c h = lies_grow s t whole later us a b c h
lies_grow s t whole later (SettingUpdate x ∷ us) a b c h = lies_grow s t whole later us a b c h

pub updates_lie : (s : ServerState) (random_id : ℤ) (posts : List Post) (whole : ℤ → List EventView) → ((id : ℤ) → IsWhole (whole id) (channel_in s.channels id))
    → AllLie (posted s random_id posts) (λ id. whole id ++ channel_events id (entries_of posts)) (updates_of s (entries_of posts))
unfolding posted
updates_lie s random_id posts whole are =
    let t : ServerState = applied_all s (entries_of posts) in
    let later : ℤ → List EventView = λ id. whole id ++ channel_events id (entries_of posts) in
    lies_grow t (posted s random_id posts) later later (updates_of s (entries_of posts)) (list_none t.common) (list_none t.secret) (λ id. list_none (later id)) (lie s (entries_of posts) whole are)

-- ---- settings of posts

pub settings_after : (s : ServerState) (xs : List Entry) → (applied_all s xs).settings ≡ s.settings ++ each (dated_with s.date) (settings_of xs)
settings_after s [] = sym (append-nil s.settings)
settings_after s (to_common e ∷ xs) = settings_after (applied s (to_common e)) xs
settings_after s (to_secret body ∷ xs) = settings_after (applied s (to_secret body)) xs
settings_after s (to_channel id e ∷ xs) = settings_after (applied s (to_channel id e)) xs
settings_after s (to_settings x ∷ xs) = settings_after (applied s (to_settings x)) xs ∙ append_assoc s.settings (dated_with s.date x ∷ []) (each (dated_with s.date) (settings_of xs))

pub settings_posted : (s : ServerState) (random_id : ℤ) (posts : List Post) → (posted s random_id posts).settings ≡ s.settings ++ each (dated_with s.date) (settings_of (entries_of posts))
unfolding posted
settings_posted s random_id posts = settings_after s (entries_of posts)

pub settings_pushed : (s : ServerState) (xs : List Entry) → pushed_settings (updates_of s xs) ≡ settings_of xs
settings_pushed s [] = refl
settings_pushed s (to_common e ∷ xs) = settings_pushed (applied s (to_common e)) xs
settings_pushed s (to_secret body ∷ xs) = settings_pushed (applied s (to_secret body)) xs
settings_pushed s (to_channel id e ∷ xs) = settings_pushed (applied s (to_channel id e)) xs
settings_pushed s (to_settings x ∷ xs) = ap (λ (l : List Setting). x ∷ l) (settings_pushed (applied s (to_settings x)) xs)

last_is : (seq : ℕ) (x : Setting) (xs : List Setting) → last_number seq (x ∷ xs) ≡ seq + length (x ∷ xs)
last_is seq x xs = refl

pub last_posted : (s : ServerState) (random_id : ℤ) (posts : List Post) (x : Setting) (xs : List Setting) → settings_of (entries_of posts) ≡ x ∷ xs
    → (first_number (length s.settings) (settings_of (entries_of posts)) ≡ length s.settings + 1) × (last_number (length s.settings) (settings_of (entries_of posts)) ≡ length (posted s random_id posts).settings)
last_posted s random_id posts x xs some =
    let all : length (posted s random_id posts).settings ≡ length s.settings + length (settings_of (entries_of posts)) =
    ap length (settings_posted s random_id posts) ∙ length-append s.settings (each (dated_with s.date) (settings_of (entries_of posts)))
    ∙ ap (λ (n : ℕ). length s.settings + n) (length-map (settings_of (entries_of posts)) (dated_with s.date)) in (
      ap (first_number (length s.settings)) some,
      ap (last_number (length s.settings)) some ∙ last_is (length s.settings) x xs ∙ ap (λ (l : List Setting). length s.settings + length l) (sym some) ∙ sym all,
    )
