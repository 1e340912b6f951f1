-- Servers stay sound.
use Rattle.std.proofs.Common.{◌≡◌, ℕ, ℤ, ◌+◌, ◌-◌, ◌^◌, ◌<◌, ◌≤◌, List, [], ◌∷◌, ◌++◌, Bool, true, false, ◌||◌, Option, Some, None, eqb, ltb, if◌then◌else◌, length, take, drop, map as each, max, refl, sym, ap, ◌∙◌, subst, arith}
use Rattle.std.specs.List.{All, list_any, sum_by}
use Rattle.std.specs.Ordering.{int_eq}
use Rattle.std.specs.FinMap as map
use Rattle.std.proofs.lemmas.Bool.Decides.{nat_tests}
use Rattle.std.proofs.lemmas.Cmp.{int_eq_equiv}
use Rattle.std.proofs.lemmas.List.{length-append, length-map, length-drop, take-append-drop}
use Rattle.std.proofs.lemmas.List.Elements.{All-nil, All-cons, All-head, All-tail, All-push, All-drop, All-weaker}
use Rattle.box_events.specs.declared.limits.TheConstants.{MAX_END, MAX_IDS, MAX_CHANNELS, MAX_KEYS, MAX_KEY_BYTES, MAX_VALUE_BYTES, MAX_POSTS, MAX_POST_BYTES}
use Rattle.box_events.specs.declared.requests.Post.{Post}
use Rattle.box_events.specs.declared.positions.Receipt.{Receipt}
use Rattle.box_events.specs.Events.{EventView, added, is_new, count_of}
use Rattle.box_events.specs.Boxes.{ending, AreCounted}
use Rattle.box_events.specs.SettingLists.{Dated, NeverFallFrom, or_else}
use Rattle.box_events.specs.Views.{HasCount}
use Rattle.box_events.proofs.Boundaries.{ending-append, counted-append}
use Rattle.box_events.proofs.Stretches.{counted_right}
use Rattle.box_events.proofs.SettingDates.{rise_pushed}
use Rattle.box_server.specs.declared.fault.PostFault.{PostFault}
use Rattle.box_server.specs.declared.fault.PostFault.TheVariants.{BoxFull}
use Rattle.box_server.specs.Servers.{ChannelBox, ServerState, Receipts, channel_in, channel_end, lane_end, dated_at}
use Rattle.box_server.specs.Entries.{Entry, to_common, to_secret, to_channel, to_settings, entries_of, lane_of, raise_of, size_of, is_event, is_setting}
use Rattle.box_server.specs.LastEntries.{keys_in}
use Rattle.box_server.specs.Posting.{with_event, applied, applied_all, cut, excess, posted}
use Rattle.box_server.specs.Refusing.{first_cause, bad_entries, too_many, box_full, post_cause}
use Rattle.box_server.specs.Receiving.{state_by, after_post}
use Rattle.box_server.specs.Sound.{IsSoundBox, IsSoundChannel, AreDistinct, HasEvents, IsSmall, IsSound}

-- ---- boxes

box_with : (es : List EventView) (e : EventView) → IsSoundBox es → 1 ≤ count_of e → ending es + count_of e ≤ MAX_END → IsSoundBox (es ++ e ∷ [])
box_with es e s some le = (counted-append es (e ∷ []) s.0 (some, tt), let sum = ending-append es (e ∷ []) in omega (arith, sum, le))

-- a channel's box, of which more events may be kept than in the end
pub record IsOpenChannel (c : ChannelBox) : Type 0 where
  pub counted : AreCounted c.events
  pub limit : channel_end c ≤ MAX_END

open_of : (c : ChannelBox) → IsSoundChannel c → IsOpenChannel c
open_of c s = record { counted = s.counted; limit = s.limit }

open_with : (c : ChannelBox) (e : EventView) → IsOpenChannel c → 1 ≤ count_of e → channel_end c + count_of e ≤ MAX_END → IsOpenChannel (record c { events = c.events ++ e ∷ [] })
open_with c e s some le = record { counted = counted-append c.events (e ∷ []) s.counted (some, tt); limit = let sum = ending-append c.events (e ∷ []) in omega (arith, sum, le) }

pub cut_sound : (c : ChannelBox) → IsOpenChannel c → IsSoundChannel (cut c)
cut_sound c s =
    let n : ℕ = excess c in
    let parts : take n c.events ++ drop n c.events ≡ c.events = take-append-drop n c.events in
    let sum : ending c.events ≡ ending (take n c.events) + ending (drop n c.events) = ap ending (sym parts) ∙ ending-append (take n c.events) (drop n c.events) in
    let long : length (drop n c.events) ≡ length c.events - n = length-drop n c.events in
    record {
      counted = counted_right (take n c.events) (drop n c.events) (subst AreCounted (sym parts) s.counted);
      limit = let le = s.limit in omega (arith, sum, le);
      few = omega (arith, long);
    }

all_cut : (cs : List ChannelBox) → All IsOpenChannel cs → All IsSoundChannel (each cut cs)
all_cut [] a = All-nil IsSoundChannel
all_cut (c ∷ cs) a = All-cons IsSoundChannel (cut c) (each cut cs) (cut_sound c (All-head IsOpenChannel c cs a)) (all_cut cs (All-tail IsOpenChannel c cs a))

with_by : (c : ChannelBox) (cs : List ChannelBox) (id : ℤ) (e : EventView) (t : Bool) → int_eq c.id id ≡ t → IsOpenChannel c → All IsOpenChannel cs → 1 ≤ count_of e → channel_end (if t then c else channel_in cs id) + count_of e ≤ MAX_END
    → (channel_end (channel_in cs id) + count_of e ≤ MAX_END → All IsOpenChannel (with_event cs id e)) → All IsOpenChannel (if t then record c { events = c.events ++ e ∷ [] } ∷ cs else c ∷ with_event cs id e)
with_by c cs id e true t s a some le more = All-cons IsOpenChannel (record c { events = c.events ++ e ∷ [] }) cs (open_with c e s some le) a
with_by c cs id e false t s a some le more = All-cons IsOpenChannel c (with_event cs id e) s (more le)

all_with : (cs : List ChannelBox) (id : ℤ) (e : EventView) → All IsOpenChannel cs → 1 ≤ count_of e → channel_end (channel_in cs id) + count_of e ≤ MAX_END → All IsOpenChannel (with_event cs id e)
all_with [] id e a some le = All-cons IsOpenChannel (record { id = id; first = 0; events = e ∷ [] }) [] (record { counted = (some, tt); limit = omega (arith, le) }) (All-nil IsOpenChannel)
all_with (c ∷ cs) id e a some le = with_by c cs id e (int_eq c.id id) refl (All-head IsOpenChannel c cs a) (All-tail IsOpenChannel c cs a) some le (all_with cs id e (All-tail IsOpenChannel c cs a) some)

-- ---- counts of a channel's events

abbrev HasCounts : ChannelBox → Type 0
HasCounts c = All HasCount c.events

counts_by : (c : ChannelBox) (cs : List ChannelBox) (id : ℤ) (e : EventView) (t : Bool) → All HasCounts (c ∷ cs) → HasCount e → All HasCounts (with_event cs id e) → All HasCounts (if t then record c { events = c.events ++ e ∷ [] } ∷ cs else c ∷ with_event cs id e)
counts_by c cs id e true a h more = All-cons HasCounts (record c { events = c.events ++ e ∷ [] }) cs (All-push HasCount c.events e (All-head HasCounts c cs a) h) (All-tail HasCounts c cs a)
counts_by c cs id e false a h more = All-cons HasCounts c (with_event cs id e) (All-head HasCounts c cs a) more

counts_with : (cs : List ChannelBox) (id : ℤ) (e : EventView) → All HasCounts cs → HasCount e → All HasCounts (with_event cs id e)
counts_with [] id e a h = All-cons HasCounts (record { id = id; first = 0; events = e ∷ [] }) [] (All-cons HasCount e [] h (All-nil HasCount)) a
counts_with (c ∷ cs) id e a h = counts_by c cs id e (int_eq c.id id) a h (counts_with cs id e (All-tail HasCounts c cs a) h)

counts_cut : (cs : List ChannelBox) → All HasCounts cs → All HasCounts (each cut cs)
counts_cut [] a = a
counts_cut (c ∷ cs) a = All-cons HasCounts (cut c) (each cut cs) (All-drop HasCount (excess c) c.events (All-head HasCounts c cs a)) (counts_cut cs (All-tail HasCounts c cs a))

-- ---- distinct ids

abbrev Lacks : ℤ → List ChannelBox → Type 0
Lacks id cs = list_any (λ (d : ChannelBox). int_eq d.id id) cs ≡ false

lacks_by : (c : ChannelBox) (cs : List ChannelBox) (id j : ℤ) (e : EventView) (t u : Bool) → int_eq c.id id ≡ t → int_eq c.id j ≡ u → (u || list_any (λ (d : ChannelBox). int_eq d.id j) cs) ≡ false → (Lacks j cs → Lacks j (with_event cs id e))
    → Lacks j (if t then record c { events = c.events ++ e ∷ [] } ∷ cs else c ∷ with_event cs id e)
lacks_by c cs id j e t true ts us h more = absurd cc
lacks_by c cs id j e true false ts us h more = ap (λ (b : Bool). b || list_any (λ (d : ChannelBox). int_eq d.id j) cs) us ∙ h
lacks_by c cs id j e false false ts us h more = ap (λ (b : Bool). b || list_any (λ (d : ChannelBox). int_eq d.id j) (with_event cs id e)) us ∙ more h

or_false : (a b : Bool) → a ≡ false → b ≡ false → (a || b) ≡ false
or_false a b x y = ap (λ (t : Bool). t || b) x ∙ y

lacks_with : (cs : List ChannelBox) (id j : ℤ) (e : EventView) → int_eq id j ≡ false → Lacks j cs → Lacks j (with_event cs id e)
lacks_with [] id j e other h = or_false (int_eq id j) false other refl
lacks_with (c ∷ cs) id j e other h = lacks_by c cs id j e (int_eq c.id id) (int_eq c.id j) refl refl h (lacks_with cs id j e other)

distinct_by : (c : ChannelBox) (cs : List ChannelBox) (id : ℤ) (e : EventView) (t : Bool) → int_eq c.id id ≡ t → AreDistinct (c ∷ cs) → AreDistinct (with_event cs id e) → AreDistinct (if t then record c { events = c.events ++ e ∷ [] } ∷ cs else c ∷ with_event cs id e)
distinct_by c cs id e true t d more = d
distinct_by c cs id e false t d more = (lacks_with cs id c.id e (int_eq_equiv.symm id c.id ∙ t) d.0, more)

distinct_with : (cs : List ChannelBox) (id : ℤ) (e : EventView) → AreDistinct cs → AreDistinct (with_event cs id e)
distinct_with [] id e d = (refl, tt)
distinct_with (c ∷ cs) id e d = distinct_by c cs id e (int_eq c.id id) refl d (distinct_with cs id e d.1)

lacks_cut : (cs : List ChannelBox) (j : ℤ) → list_any (λ (d : ChannelBox). int_eq d.id j) (each cut cs) ≡ list_any (λ (d : ChannelBox). int_eq d.id j) cs
lacks_cut [] j = refl
lacks_cut (c ∷ cs) j = ap (λ (b : Bool). int_eq c.id j || b) (lacks_cut cs j)

distinct_cut : (cs : List ChannelBox) → AreDistinct cs → AreDistinct (each cut cs)
distinct_cut [] d = tt
distinct_cut (c ∷ cs) d = (lacks_cut cs c.id ∙ d.0, distinct_cut cs d.1)

-- ---- while posts are applied

pub record IsOpen (s : ServerState) : Type 0 where
  pub date : s.date < 2 ^ 31
  pub common : IsSoundBox s.common
  pub secret : IsSoundBox s.secret
  pub messages : All (λ e. is_new e ≡ true) s.secret
  pub channels : All IsOpenChannel s.channels
  pub distinct : AreDistinct s.channels
  pub seq : length s.settings ≤ MAX_END
  pub dates : All (λ e. e.date ≤ s.date) s.settings
  pub rise : NeverFallFrom 0 s.settings
  pub events : HasEvents s
  pub sizes : All IsSmall s.settings

open_server : (s : ServerState) → IsSound s → IsOpen s
open_server s h = record {
  date = h.date;
  common = h.common;
  secret = h.secret;
  messages = h.messages;
  channels = All-weaker IsSoundChannel IsOpenChannel open_of s.channels h.channels;
  distinct = h.distinct;
  seq = h.seq;
  dates = h.dates;
  rise = h.rise;
  events = h.events;
  sizes = h.sizes;
}

any_none : (a b : Bool) → (a || b) ≡ false → (a ≡ false) × (b ≡ false)
any_none true b e = absurd cc
any_none false b e = (refl, e)

some_count : (n : ℕ) → eqb n 0 ≡ false → 1 ≤ n
some_count n e = grind (arith, nat_tests)

pub within : (a b : ℕ) → ltb a b ≡ false → b ≤ a
within a b e = grind (arith, nat_tests)

-- what is refused of an entry by itself
abbrev is_none : Entry → Bool
is_none = is_event (λ e. eqb (count_of e) 0)

abbrev is_more : Entry → Bool
is_more = is_event (λ e. ltb MAX_IDS (count_of e))

abbrev has_long_key : Entry → Bool
has_long_key = is_setting (λ x. ltb MAX_KEY_BYTES (length x.key))

abbrev has_long_value : Entry → Bool
has_long_value = is_setting (λ x. ltb MAX_VALUE_BYTES (length x.value))

-- it isn't refused
pub record IsFit (x : Entry) : Type 0 where
  pub some : is_none x ≡ false
  pub few : is_more x ≡ false
  pub key : has_long_key x ≡ false
  pub value : has_long_value x ≡ false

-- none of them is
pub record AreFit (xs : List Entry) : Type 0 where
  pub some : list_any is_none xs ≡ false
  pub few : list_any is_more xs ≡ false
  pub key : list_any has_long_key xs ≡ false
  pub value : list_any has_long_value xs ≡ false

pub fit_first : (x : Entry) (xs : List Entry) → AreFit (x ∷ xs) → IsFit x × AreFit xs
fit_first x xs f =
    let some = any_none (is_none x) (list_any is_none xs) f.some in
    let few = any_none (is_more x) (list_any is_more xs) f.few in
    let key = any_none (has_long_key x) (list_any has_long_key xs) f.key in
    let val = any_none (has_long_value x) (list_any has_long_value xs) f.value in
    (record { some = some.0; few = few.0; key = key.0; value = val.0 }, record { some = some.1; few = few.1; key = key.1; value = val.1 })

pub has_count : (e : EventView) → eqb (count_of e) 0 ≡ false → ltb MAX_IDS (count_of e) ≡ false → HasCount e
has_count e some few = (some_count (count_of e) some, within MAX_IDS (count_of e) few)

open_applied : (s : ServerState) (x : Entry) → IsOpen s → IsFit x → lane_end s (lane_of x) + raise_of x ≤ MAX_END → IsOpen (applied s x)
open_applied s (to_common e) h fit le =
    let count = has_count e fit.some fit.few in
    record {
      date = h.date;
      common = box_with s.common e h.common count.0 le;
      secret = h.secret;
      messages = h.messages;
      channels = h.channels;
      distinct = h.distinct;
      seq = h.seq;
      dates = h.dates;
      rise = h.rise;
      events = record { common = All-push HasCount s.common e h.events.common count; secret = h.events.secret; channels = h.events.channels };
      sizes = h.sizes;
    }
open_applied s (to_secret body) h fit le = record {
  date = h.date;
  common = h.common;
  secret = box_with s.secret (added body) h.secret (omega arith) le;
  messages = All-push (λ (e : EventView). is_new e ≡ true) s.secret (added body) h.messages refl;
  channels = h.channels;
  distinct = h.distinct;
  seq = h.seq;
  dates = h.dates;
  rise = h.rise;
  events = record { common = h.events.common; secret = All-push HasCount s.secret (added body) h.events.secret (omega arith, omega arith); channels = h.events.channels };
  sizes = h.sizes;
}
open_applied s (to_channel id e) h fit le =
    let count = has_count e fit.some fit.few in
    record {
      date = h.date;
      common = h.common;
      secret = h.secret;
      messages = h.messages;
      channels = all_with s.channels id e h.channels count.0 le;
      distinct = distinct_with s.channels id e h.distinct;
      seq = h.seq;
      dates = h.dates;
      rise = h.rise;
      events = record { common = h.events.common; secret = h.events.secret; channels = counts_with s.channels id e h.events.channels count };
      sizes = h.sizes;
    }
open_applied s (to_settings x) h fit le =
    let new : Dated = record { setting = x; date = s.date } in
    record {
      date = h.date;
      common = h.common;
      secret = h.secret;
      messages = h.messages;
      channels = h.channels;
      distinct = h.distinct;
      seq = omega (arith, le, length-append s.settings (new ∷ []));
      dates = All-push (λ (e : Dated). e.date ≤ s.date) s.settings new h.dates (omega arith);
      rise = rise_pushed s.settings new 0 h.rise h.dates;
      events = record { common = h.events.common; secret = h.events.secret; channels = h.events.channels };
      sizes = All-push IsSmall s.settings new h.sizes (within MAX_KEY_BYTES (length x.key) fit.key, within MAX_VALUE_BYTES (length x.value) fit.value);
    }

pub none_if : {A : Type 0} (b : Bool) (x : A) (o : Option A) → (if b then Some x else o) ≡ None → (b ≡ false) × (o ≡ None)
none_if true x o e = absurd cc
none_if false x o e = (refl, e)

none_else : {A : Type 0} (o p : Option A) → or_else o p ≡ None → (o ≡ None) × (p ≡ None)
none_else None p e = (refl, e)
none_else (Some x) p e = absurd cc

open_all : (s : ServerState) (xs : List Entry) → IsOpen s → AreFit xs → box_full s xs ≡ None → IsOpen (applied_all s xs)
open_all s [] h fit full = h
open_all s (x ∷ xs) h fit full =
    let both = fit_first x xs fit in
    let none = none_if (ltb MAX_END (lane_end s (lane_of x) + raise_of x)) (BoxFull (lane_of x) (lane_end s (lane_of x))) (box_full (applied s x) xs) full in
    open_all (applied s x) xs (open_applied s x h both.0 (within MAX_END (lane_end s (lane_of x) + raise_of x) none.0)) both.1 none.1

-- what no cause says of entries
pub record IsTaken (s : ServerState) (xs : List Entry) : Type 0 where
  pub few : length xs ≤ MAX_POSTS
  pub bytes : sum_by size_of xs ≤ MAX_POST_BYTES
  pub fit : AreFit xs
  pub channels : length (applied_all s xs).channels ≤ MAX_CHANNELS
  pub keys : keys_in (applied_all s xs).settings ≤ MAX_KEYS
  pub full : box_full s xs ≡ None

-- no test of a list of causes holds
abbrev pub NoCause : List (Bool × PostFault) → Type 0
NoCause [] = Unit {0}
NoCause (c ∷ cs) = (c.0 ≡ false) × NoCause cs

pub no_cause : (cs : List (Bool × PostFault)) → first_cause cs ≡ None → NoCause cs
no_cause [] e = tt
no_cause (c ∷ cs) e = let one = none_if c.0 c.1 (first_cause cs) e in (one.0, no_cause cs one.1)

pub taken : (s : ServerState) (posts : List Post) → post_cause s posts ≡ None → IsTaken s (entries_of posts)
unfolding post_cause
taken s posts none =
    let xs : List Entry = entries_of posts in
    let t : ServerState = applied_all s xs in
    let outer = none_else (first_cause (bad_entries xs)) (or_else (first_cause (too_many t)) (box_full s xs)) none in
    let inner = none_else (first_cause (too_many t)) (box_full s xs) outer.1 in
    let bad = no_cause (bad_entries xs) outer.0 in
    let many = no_cause (too_many t) inner.0 in
    record { few = within MAX_POSTS (length xs) bad.1.0; bytes = within MAX_POST_BYTES (sum_by size_of xs) bad.1.1.1.1.1.1.1.0; fit = record { some = bad.1.1.0; few = bad.1.1.1.0; key = bad.1.1.1.1.1.0; value = bad.1.1.1.1.1.1.0 }; channels = within MAX_CHANNELS (length t.channels) many.0; keys = within MAX_KEYS (keys_in t.settings) many.1.0; full = inner.1 }

close_server : (s : ServerState) (receipts : Receipts) → IsOpen s → length s.channels ≤ MAX_CHANNELS → keys_in s.settings ≤ MAX_KEYS → IsSound (record s { channels = each cut s.channels; receipts = receipts })
close_server s receipts h few keys = record {
  date = h.date;
  common = h.common;
  secret = h.secret;
  messages = h.messages;
  channels = all_cut s.channels h.channels;
  distinct = distinct_cut s.channels h.distinct;
  few = omega (arith, few, length-map s.channels cut);
  seq = h.seq;
  keys = keys;
  dates = h.dates;
  rise = h.rise;
  events = record { common = h.events.common; secret = h.events.secret; channels = counts_cut s.channels h.events.channels };
  sizes = h.sizes;
}

pub posted_sound : (s : ServerState) (random_id : ℤ) (posts : List Post) → IsSound s → post_cause s posts ≡ None → IsSound (posted s random_id posts)
unfolding posted
posted_sound s random_id posts h none =
    let t : ServerState = applied_all s (entries_of posts) in
    let k = taken s posts none in
    close_server t (posted s random_id posts).receipts (open_all s (entries_of posts) (open_server s h) k.fit k.full) k.channels k.keys

sound_by : (s : ServerState) (random_id : ℤ) (posts : List Post) (r : Option Receipt) (c : Option PostFault) → IsSound s → post_cause s posts ≡ c → IsSound (state_by s random_id posts r c)
sound_by s random_id posts (Some r) c h is = h
sound_by s random_id posts None (Some c) h is = h
sound_by s random_id posts None None h is = posted_sound s random_id posts h is

pub post_sound : (s : ServerState) (random_id : ℤ) (posts : List Post) → IsSound s → IsSound (after_post s random_id posts)
post_sound s random_id posts h = sound_by s random_id posts (map.get s.receipts random_id) (post_cause s posts) h refl

pub dated_sound : (s : ServerState) (date : ℕ) → IsSound s → date < 2 ^ 31 → IsSound (dated_at s date)
dated_sound s date h lt =
    let old = h.date in
    record {
      date = omega (arith, old, lt);
      common = h.common;
      secret = h.secret;
      messages = h.messages;
      channels = h.channels;
      distinct = h.distinct;
      few = h.few;
      seq = h.seq;
      keys = h.keys;
      dates = All-weaker (λ (e : Dated). e.date ≤ s.date) (λ (e : Dated). e.date ≤ max s.date date) (λ e le. omega (arith, le)) s.settings h.dates;
      rise = h.rise;
      events = record { common = h.events.common; secret = h.events.secret; channels = h.events.channels };
      sizes = h.sizes;
    }
