-- A new post: the server grows by its events and settings, and its push tells where they lie.
use Rattle.std.proofs.Common.{◌≡◌, ℕ, zero, suc, ◌+◌, ◌-◌, ◌<◌, ◌≤◌, ℤ, List, [], ◌∷◌, ◌++◌, length, take, drop, map as each, Bool, true, false, ◌||◌, cond, if◌then◌else◌, eqb, Option, Some, None, refl, sym, ap, ◌∙◌, subst, arith}
use Rattle.std.specs.List.{All, list_any}
use Rattle.std.specs.Ordering.{int_eq}
use Rattle.std.proofs.lemmas.Bool.Decides.{nat_tests}
use Rattle.std.proofs.lemmas.List.{length-append, length-map, length-drop, take-append-drop}
use Rattle.std.proofs.Math.Seq.{drop-append-add}
use Rattle.box_events.specs.declared.requests.Post.{Post}
use Rattle.box_events.specs.declared.settings.Setting.{Setting}
use Rattle.box_events.specs.declared.limits.TheConstants.{KEPT_EVENTS}
use Rattle.box_events.specs.Events.{EventView, added, count_of, is_new}
use Rattle.box_events.specs.Boxes.{AreCounted}
use Rattle.box_events.specs.SettingLists.{Dated, NeverFallFrom, or_else}
use Rattle.box_events.proofs.Boundaries.{ending-append}
use Rattle.box_server.specs.declared.fault.PostFault.{PostFault}
use Rattle.box_server.specs.Servers.{ChannelBox, ServerState, channel_in}
use Rattle.box_server.specs.Entries.{Entry, to_common, to_secret, to_channel, to_settings, entries_of, is_event}
use Rattle.box_server.specs.Posting.{applied, applied_all, cut, excess, posted, push_of, updates_of, settings_of, first_number, last_number, dated_with}
use Rattle.box_server.specs.Refusing.{first_cause, bad_entries, too_many, box_full, post_cause}
use Rattle.box_server.specs.Growing.{IsWhole, channel_events}
use Rattle.box_server.proofs.Growths.{with_more, channel_posted, posted_grows, updates_lie, settings_posted}
use Rattle.box_client.specs.Pushes.{settings_in}
use Rattle.pts_machine.specs.Packs.{pack_of}
use Rattle.pts_machine.specs.Latest.{IsStretch}
use Rattle.pts_machine.proofs.Growing.{stretch_appended}
use Rattle.box_world.specs.Agreeing.{Boxes, Each}
use Rattle.box_world.specs.Growing.{Continues, IsKept, IsLedger}
use Rattle.box_world.specs.Pushing.{PackLies, PushLies}
use Rattle.box_world.specs.WholeBoxes.{events_for}
use Rattle.box_world.proofs.Alls.{all_append}
use Rattle.box_world.proofs.Answering.{append_append}
use Rattle.box_events.proofs.SettingDates.{rise_pushed}

-- ---- what a push carries

event_by : (b : Bool) (e : EventView) (es fs : List EventView) → es ≡ fs → cond b (e ∷ es) es ≡ (if b then e ∷ fs else fs)
event_by true e es fs is = ap (λ (l : List EventView). e ∷ l) is
event_by false e es fs is = is

-- a push has the events of each channel
pub carried_events : (id : ℤ) (s : ServerState) (xs : List Entry) → events_for id (updates_of s xs) ≡ channel_events id xs
carried_events id s [] = refl
carried_events id s (to_common e ∷ xs) = carried_events id (applied s (to_common e)) xs
carried_events id s (to_secret body ∷ xs) = carried_events id (applied s (to_secret body)) xs
carried_events id s (to_channel k e ∷ xs) = event_by (int_eq k id) e (events_for id (updates_of (applied s (to_channel k e)) xs)) (channel_events id xs) (carried_events id (applied s (to_channel k e)) xs)
carried_events id s (to_settings x ∷ xs) = carried_events id (applied s (to_settings x)) xs

-- and the settings
pub carried_settings : (s : ServerState) (xs : List Entry) → settings_in (updates_of s xs) ≡ settings_of xs
carried_settings s [] = refl
carried_settings s (to_common e ∷ xs) = carried_settings (applied s (to_common e)) xs
carried_settings s (to_secret body ∷ xs) = carried_settings (applied s (to_secret body)) xs
carried_settings s (to_channel k e ∷ xs) = carried_settings (applied s (to_channel k e)) xs
carried_settings s (to_settings x ∷ xs) = ap (λ (l : List Setting). x ∷ l) (carried_settings (applied s (to_settings x)) xs)

-- ---- events that count

-- no entry is an event without a number
abbrev Counted : List Entry → Type 0
Counted xs = list_any (is_event (λ e. eqb (count_of e) 0)) xs ≡ false

pub none_either : (a b : Bool) → (a || b) ≡ false → (a ≡ false) × (b ≡ false)
none_either true b e = absurd (let w : true ≡ false = e in cc)
none_either false b e = (refl, e)

counts : (n : ℕ) → eqb n 0 ≡ false → 1 ≤ n
counts n e = grind (arith, nat_tests)

counted_last : (es : List EventView) (e : EventView) → AreCounted es → 1 ≤ count_of e → AreCounted (es ++ e ∷ [])
counted_last [] e h le = (le, tt)
counted_last (x ∷ es) e h le = (h.0, counted_last es e h.1 le)

counted_both : (es fs : List EventView) → AreCounted es → AreCounted fs → AreCounted (es ++ fs)
counted_both [] fs h g = g
counted_both (x ∷ es) fs h g = (h.0, counted_both es fs h.1 g)

each_last : (es : List EventView) (e : EventView) → Each (λ f. is_new f ≡ true) es → is_new e ≡ true → Each (λ f. is_new f ≡ true) (es ++ e ∷ [])
each_last [] e h is = (is, tt)
each_last (x ∷ es) e h is = (h.0, each_last es e h.1 is)

counted_if : (b : Bool) (e : EventView) (es : List EventView) → 1 ≤ count_of e → AreCounted es → AreCounted (if b then e ∷ es else es)
counted_if true e es le h = (le, h)
counted_if false e es le h = h

counted_channel : (id : ℤ) (xs : List Entry) → Counted xs → AreCounted (channel_events id xs)
counted_channel id [] c = tt
counted_channel id (to_common e ∷ xs) c = counted_channel id xs (none_either (eqb (count_of e) 0) (list_any (is_event (λ f. eqb (count_of f) 0)) xs) c).1
counted_channel id (to_secret body ∷ xs) c = counted_channel id xs c
counted_channel id (to_channel k e ∷ xs) c =
    let both = none_either (eqb (count_of e) 0) (list_any (is_event (λ f. eqb (count_of f) 0)) xs) c in
    counted_if (int_eq k id) e (channel_events id xs) (counts (count_of e) both.0) (counted_channel id xs both.1)
counted_channel id (to_settings x ∷ xs) c = counted_channel id xs c

-- what entries keep of a server
record Keeps (s : ServerState) : Type 0 where
  pub common : AreCounted s.common
  pub secret : AreCounted s.secret
  pub messages : Each (λ e. is_new e ≡ true) s.secret
  pub dates : All (λ e. e.date ≤ s.date) s.settings
  pub rise : NeverFallFrom 0 s.settings

all_one : (date : ℕ) (x : Setting) → All (λ e. e.date ≤ date) (dated_with date x ∷ [])
all_one date x zero d lt = omega arith
all_one date x (suc i) d lt = absurd (omega (arith, lt))

keeps_all : (s : ServerState) (xs : List Entry) → Counted xs → Keeps s → Keeps (applied_all s xs)
keeps_all s [] c k = k
keeps_all s (to_common e ∷ xs) c k =
    let both = none_either (eqb (count_of e) 0) (list_any (is_event (λ f. eqb (count_of f) 0)) xs) c in
    keeps_all (applied s (to_common e)) xs both.1 (record { common = counted_last s.common e k.common (counts (count_of e) both.0); secret = k.secret; messages = k.messages; dates = k.dates; rise = k.rise })
keeps_all s (to_secret body ∷ xs) c k =
    keeps_all (applied s (to_secret body)) xs c (record {
      common = k.common;
      secret = counted_last s.secret (added body) k.secret (omega arith);
      messages = each_last s.secret (added body) k.messages refl;
      dates = k.dates;
      rise = k.rise;
    })
keeps_all s (to_channel id e ∷ xs) c k =
    let both = none_either (eqb (count_of e) 0) (list_any (is_event (λ f. eqb (count_of f) 0)) xs) c in
    keeps_all (applied s (to_channel id e)) xs both.1 (record { common = k.common; secret = k.secret; messages = k.messages; dates = k.dates; rise = k.rise })
keeps_all s (to_settings x ∷ xs) c k =
    keeps_all (applied s (to_settings x)) xs c (record {
      common = k.common;
      secret = k.secret;
      messages = k.messages;
      dates = all_append (λ e. e.date ≤ s.date) s.settings (dated_with s.date x ∷ []) k.dates (all_one s.date x);
      rise = rise_pushed s.settings (dated_with s.date x) 0 k.rise k.dates;
    })

-- ---- the last events of a channel are kept

kept_part : (whole more : List EventView) (c : ChannelBox) (k : IsKept whole c) → drop (length (whole ++ more) - KEPT_EVENTS) (whole ++ more) ≡ drop (excess (with_more c more)) (c.events ++ more)
kept_part whole more c k =
    let all : whole ++ more ≡ k.gone ++ (c.events ++ more) = ap (λ (l : List EventView). l ++ more) k.parts ∙ append_append k.gone c.events more in
    let n : ℕ = length (c.events ++ more) - KEPT_EVENTS in
    let few : length c.events ≡ length whole - (length whole - KEPT_EVENTS) = ap length k.kept ∙ length-drop (length whole - KEPT_EVENTS) whole in
    let sum : length (whole ++ more) - KEPT_EVENTS ≡ length k.gone + n = omega (arith, few, ap length k.parts, ap length all, length-append k.gone c.events, length-append k.gone (c.events ++ more), length-append c.events more) in
    ap (λ (i : ℕ). drop i (whole ++ more)) sum ∙ ap (λ (l : List EventView). drop (length k.gone + n) l) all ∙ drop-append-add k.gone (c.events ++ more) n

kept_cut : (whole more : List EventView) (c : ChannelBox) → IsKept whole c → IsKept (whole ++ more) (cut (with_more c more))
kept_cut whole more c k =
    let evs : List EventView = c.events ++ more in
    let n : ℕ = excess (with_more c more) in
    record {
      gone = k.gone ++ take n evs;
      parts = ap (λ (l : List EventView). l ++ more) k.parts ∙ append_append k.gone c.events more ∙ ap (λ (l : List EventView). k.gone ++ l) (sym (take-append-drop n evs)) ∙ sym (append_append k.gone (take n evs) (drop n evs));
      first = omega (arith, k.first, ending-append k.gone (take n evs));
      kept = sym (kept_part whole more c k);
    }

-- ---- posts that a server takes

pub none_if : (b : Bool) (x : PostFault) (o : Option PostFault) → (if b then Some x else o) ≡ None → (b ≡ false) × (o ≡ None)
none_if true x o e = absurd (let w : Some x ≡ None = e in cc)
none_if false x o e = (refl, e)

pub none_else : (o p : Option PostFault) → or_else o p ≡ None → (o ≡ None) × (p ≡ None)
none_else None p e = (refl, e)
none_else (Some x) p e = absurd (let w : Some x ≡ None = e in cc)

counted_taken : (s : ServerState) (posts : List Post) → post_cause s posts ≡ None → Counted (entries_of posts)
unfolding post_cause
counted_taken s posts none =
    let xs : List Entry = entries_of posts in
    let bad : first_cause (bad_entries xs) ≡ None = (none_else (first_cause (bad_entries xs)) (or_else (first_cause (too_many (applied_all s xs))) (box_full s xs)) none).0 in
    let few = none_if (eqb (length xs) 0) _ _ bad in
    let many = none_if _ _ _ few.1 in
    (none_if (list_any (is_event (λ e. eqb (count_of e) 0)) xs) _ _ many.1).0

-- no box is full
pub room_taken : (s : ServerState) (posts : List Post) → post_cause s posts ≡ None → box_full s (entries_of posts) ≡ None
unfolding post_cause
room_taken s posts none =
    let xs : List Entry = entries_of posts in
    let rest = (none_else (first_cause (bad_entries xs)) (or_else (first_cause (too_many (applied_all s xs))) (box_full s xs)) none).1 in
    (none_else (first_cause (too_many (applied_all s xs))) (box_full s xs) rest).1

-- ---- the server after a new post

-- the whole boxes after a post
abbrev pub after : Boxes → List Post → Boxes
after boxes posts id = boxes id ++ channel_events id (entries_of posts)

keeps_posted : (s : ServerState) (boxes : Boxes) (random_id : ℤ) (posts : List Post) → post_cause s posts ≡ None → IsLedger s boxes → Keeps (posted s random_id posts)
unfolding posted
keeps_posted s boxes random_id posts none k =
    let t : ServerState = applied_all s (entries_of posts) in
    let h = keeps_all s (entries_of posts) (counted_taken s posts none) (record { common = k.common; secret = k.secret; messages = k.messages; dates = k.dates; rise = k.rise }) in
    record { common = h.common; secret = h.secret; messages = h.messages; dates = h.dates; rise = h.rise }

pub ledger_posted : (s : ServerState) (boxes : Boxes) (random_id : ℤ) (posts : List Post) → post_cause s posts ≡ None → IsLedger s boxes → IsLedger (posted s random_id posts) (after boxes posts)
ledger_posted s boxes random_id posts none k =
    let h = keeps_posted s boxes random_id posts none k in
    record {
      common = h.common;
      secret = h.secret;
      messages = h.messages;
      channels = λ id. counted_both (boxes id) (channel_events id (entries_of posts)) (k.channels id) (counted_channel id (entries_of posts) (counted_taken s posts none));
      kept = λ id. subst (IsKept (after boxes posts id)) (sym (channel_posted s random_id posts id)) (kept_cut (boxes id) (channel_events id (entries_of posts)) (channel_in s.channels id) (k.kept id));
      dates = h.dates;
      rise = h.rise;
    }

pub continues_posted : (s : ServerState) (boxes : Boxes) (random_id : ℤ) (posts : List Post) → Continues s (posted s random_id posts) boxes (after boxes posts)
continues_posted s boxes random_id posts =
    let g = posted_grows s random_id posts in
    record { common = g.common; secret = g.secret; channels = λ id. (channel_events id (entries_of posts), refl); settings = g.settings; date = g.date }

-- ---- its push

each_setting : (date : ℕ) (xs : List Setting) → each (λ (e : Dated). e.setting) (each (dated_with date) xs) ≡ xs
each_setting date [] = refl
each_setting date (x ∷ xs) = ap (λ (l : List Setting). x ∷ l) (each_setting date xs)

all_dated : (date : ℕ) (xs : List Setting) → All (λ (e : Dated). e.date ≡ date) (each (dated_with date) xs)
all_dated date [] i d lt = absurd (omega (arith, lt))
all_dated date (x ∷ xs) zero d lt = refl
all_dated date (x ∷ xs) (suc i) d lt = all_dated date xs i d (omega (arith, lt))

-- settings that are appended to a list are the stretch that a push tells of
pack_by : (s t : ServerState) (xs : List Setting) → t.settings ≡ s.settings ++ each (dated_with s.date) xs → 0 < last_number (length s.settings) xs
    → PackLies t (first_number (length s.settings) xs - 1) (last_number (length s.settings) xs) (pack_of s.date xs)
pack_by s t [] e lt = absurd (omega (arith, lt))
pack_by s t (x ∷ xs) e lt =
    let seq : ℕ = length s.settings in
    let new : List Dated = each (dated_with s.date) (x ∷ xs) in
    let many : length new ≡ length (x ∷ xs) = length-map (x ∷ xs) (dated_with s.date) in
    let first : first_number seq (x ∷ xs) - 1 ≡ seq = omega arith in
    let here : IsStretch (s.settings ++ new) seq (seq + length new) (pack_of s.date (x ∷ xs)) = stretch_appended s.settings new (pack_of s.date (x ∷ xs)) (sym (each_setting s.date (x ∷ xs))) (all_dated s.date (x ∷ xs)) in
    let there : IsStretch t.settings seq (seq + length new) (pack_of s.date (x ∷ xs)) = subst (λ (L : List Dated). IsStretch L seq (seq + length new) (pack_of s.date (x ∷ xs))) (sym e) here in
    record {
      order = omega (arith, first);
      within = omega (arith, ap length e, length-append s.settings new, many);
      stretch = subst (λ (n : ℕ). IsStretch t.settings n (last_number seq (x ∷ xs)) (pack_of s.date (x ∷ xs))) (sym first)
          (subst (λ (n : ℕ). IsStretch t.settings seq n (pack_of s.date (x ∷ xs))) (ap (λ (n : ℕ). seq + n) many) there);
    }

whole_of : (s : ServerState) (boxes : Boxes) → IsLedger s boxes → (id : ℤ) → IsWhole (boxes id) (channel_in s.channels id)
whole_of s boxes k id = let h = k.kept id in record { gone = h.gone; events = h.parts; first = h.first }

pub push_posted : (s : ServerState) (boxes : Boxes) (random_id : ℤ) (posts : List Post) → IsLedger s boxes → PushLies (posted s random_id posts) (after boxes posts) (push_of s posts)
unfolding push_of
push_posted s boxes random_id posts k =
    let xs : List Entry = entries_of posts in
    let seq : ℕ = length s.settings in (
      updates_lie s random_id posts boxes (whole_of s boxes k),
      λ lt. subst (λ (l : List Setting). PackLies (posted s random_id posts) (first_number seq (settings_of xs) - 1) (last_number seq (settings_of xs)) (pack_of s.date l)) (sym (carried_settings s xs))
          (pack_by s (posted s random_id posts) (settings_of xs) (settings_posted s random_id posts) lt),
    )
