-- Frames of a sound server whose parts have a spelling have one.
use Rattle.std.specs.Prelude.{if◌then◌else◌, ltb, ◌&&◌, leb, reverse, zero, pos, negsuc}
use Rattle.std.proofs.Common.{◌≡◌, ◌⊎◌, inl, inr, ℕ, suc, ◌+◌, ◌-◌, ◌<◌, ◌≤◌, ◌^◌, ℤ, List, [], ◌∷◌, length, Option, Some, None, Result, Ok, Bool, true, false, refl, sym, ap, subst, arith}
use Rattle.std.specs.List.{All}
use Rattle.std.specs.FinMap as map
use Rattle.std.proofs.lemmas.List.{length-reverse}
use mathlib.Core.List.{reverse-cons}
use Rattle.std.proofs.lemmas.List.Elements.{All-nil, All-cons, All-head, All-tail, All-push}
use Rattle.box_events.specs.declared.limits.TheConstants.{MAX_END, RUN_BYTES, RUN_EVENTS, RECENT_BYTES, RECENT_EVENTS}
use Rattle.box_events.specs.declared.positions.Receipt.{Receipt}
use Rattle.box_events.specs.declared.requests.Post.{Post}
use Rattle.box_events.specs.declared.requests.Request.TheVariants.{State as StateRequest, Difference as DifferenceRequest, Channel as ChannelRequest, Post as PostRequest}
use Rattle.box_events.specs.declared.updates.Placed.{Placed}
use Rattle.box_events.specs.declared.updates.Update.TheVariants as update
use Rattle.box_events.specs.declared.replies.Frame.TheVariants.{Reply}
use Rattle.box_events.specs.Events.{EventView, added, edited, deleted, read, count_of}
use Rattle.box_events.specs.Boxes.{ending}
use Rattle.box_events.specs.Weaving.{bodies, others_from}
use Rattle.box_server.specs.declared.fault.PostFault.{PostFault}
use Rattle.box_server.specs.declared.fault.PostFault.TheVariants.{BoxFull}
use Rattle.box_server.specs.declared.posted.Posted.{Posted}
use Rattle.box_server.specs.Servers.{ChannelBox, ServerState, channel_in, channel_end, lane_end, state_of}
use Rattle.box_server.specs.Sound.{IsSound}
use Rattle.box_server.specs.Entries.{Entry, to_common, to_secret, to_channel, to_settings, entries_of, lane_of, raise_of, bytes_of}
use Rattle.box_server.specs.Posting.{applied, update_of, updates_of, settings_of, first_number, last_number, push_of, posted}
use Rattle.box_server.specs.Receiving.{answer_by}
use Rattle.box_server.specs.Refusing.{box_full, post_cause}
use Rattle.box_server.specs.LastEntries.{changed_since}
use Rattle.box_server.specs.Runs.{events_after, limited, run_of, recent_of}
use Rattle.box_server.specs.Answers.{answer, is_whole, is_far, last_by, carried, difference_by, difference_of, channel_part, channel_by, channel_difference, no_position}
use Rattle.box_server.proofs.Carrying.{run_prefix}
use Rattle.box_server.proofs.Soundness.{none_if, within, taken, posted_sound}
use Rattle.std.specs.Ordering.{int_eq}
use Rattle.wire_forms.specs.IsOf.{IsText}
use Rattle.wire_values.specs.CarriedFrames.{IsWord, IsList, FitsEvent, FitsFrame, FitsPlaced, FitsReceipt, FitsSetting, FitsState, FitsUpdate}
use Rattle.box_world.specs.Spelled.{FitsBox, FitsServer}
use Rattle.box_world.specs.FrameLaws.{AnswersHaveSpellings, PushesHaveSpellings, ReceiptsHaveSpellings, RefusalsHaveSpellings, WarningsHaveSpellings}
use Rattle.box_world.proofs.Carried.{Carries, Kept, all_left, run_carries, channel_carries, kept_in, not_less, none_of_two}
use Rattle.box_world.proofs.ChangedSettings.{all_changed, few_changed}
use Rattle.box_world.proofs.FittingServers.{FitsEntry, entries_fit, receipt_fits}
use Rattle.box_world.proofs.PartSizes.{limited_length}
use Rattle.box_world.proofs.PushesFit.{numbers_are}
use Rattle.box_world.proofs.PushesBelow.{short_name}
use Rattle.wire_profile.proofs.RuleFacts.{Pack}

low_word : (n : ℕ) → n ≤ MAX_END → IsWord n
low_word n le = omega (arith, le)

pub date_word : (n : ℕ) → n < 2 ^ 31 → IsWord n
date_word n lt = omega (arith, lt)

-- ---- pushes

update_fits : (s : ServerState) (x : Entry) → FitsEntry x → lane_end s (lane_of x) + raise_of x ≤ MAX_END → FitsUpdate (update_of s x)
update_fits s (to_common e) f le = (f, low_word (lane_end s (lane_of (to_common e)) + raise_of (to_common e)) le)
update_fits s (to_secret body) f le = (f, low_word (lane_end s (lane_of (to_secret body)) + raise_of (to_secret body)) le)
update_fits s (to_channel id e) f le = (f.0, f.1, low_word (lane_end s (lane_of (to_channel id e)) + raise_of (to_channel id e)) le)
update_fits s (to_settings x) f le = f

updates_fit : (s : ServerState) (xs : List Entry) → All FitsEntry xs → box_full s xs ≡ None → All FitsUpdate (updates_of s xs)
updates_fit s [] all full = All-nil FitsUpdate
updates_fit s (x ∷ xs) all full =
    let none = none_if (ltb MAX_END (lane_end s (lane_of x) + raise_of x)) (BoxFull (lane_of x) (lane_end s (lane_of x))) (box_full (applied s x) xs) full in
    All-cons FitsUpdate (update_of s x) (updates_of (applied s x) xs) (update_fits s x (All-head FitsEntry x xs all) (within MAX_END (lane_end s (lane_of x) + raise_of x) none.0)) (updates_fit (applied s x) xs (All-tail FitsEntry x xs all) none.1)

length_updates : (s : ServerState) (xs : List Entry) → length (updates_of s xs) ≡ length xs
length_updates s [] = refl
length_updates s (x ∷ xs) = ap suc (length_updates (applied s x) xs)

number_words : (many start seq : ℕ) → (seq ≡ 0 → (start ≡ 0) × (many ≡ 0)) → (seq ≡ 0) ⊎ Pack many start seq → IsWord start × IsWord seq
number_words many start seq none (inl z) = let first = (none z).0 in (omega (arith, first), omega (arith, z))
number_words many start seq none (inr p) = let a = p.ends in let b = p.low in (omega (arith, a, b), omega (arith, b))

pub pushes_have : PushesHaveSpellings
unfolding push_of
pushes_have s posts h all none =
    let xs : List Entry = entries_of posts in
    let k = taken s posts none in
    let few = k.few in
    let long = length_updates s xs in
    let numbers = numbers_are s posts h none in
    let words = number_words (length (settings_of xs)) (first_number (length s.settings) (settings_of xs)) (last_number (length s.settings) (settings_of xs)) numbers.none numbers.pack in
    ((omega (arith, few, long), updates_fit s xs (entries_fit posts all) k.full), date_word s.date h.date, words.0, words.1)

-- ---- what is carried

run_fits : (es : List EventView) → All FitsEvent es → All FitsEvent (run_of es)
run_fits es all = let p = run_prefix es in all_left FitsEvent (run_of es) p.0 (subst (All FitsEvent) p.1 all)

bodies_fit : (es : List EventView) → All FitsEvent es → All IsText (bodies es)
bodies_fit [] all = All-nil IsText
bodies_fit (added body ∷ es) all = All-cons IsText body (bodies es) (All-head FitsEvent (added body) es all) (bodies_fit es (All-tail FitsEvent (added body) es all))
bodies_fit (edited body ∷ es) all = bodies_fit es (All-tail FitsEvent (edited body) es all)
bodies_fit (deleted ids ∷ es) all = bodies_fit es (All-tail FitsEvent (deleted ids) es all)
bodies_fit (read id ∷ es) all = bodies_fit es (All-tail FitsEvent (read id) es all)

few_bodies : (es : List EventView) → length (bodies es) ≤ length es
few_bodies [] = omega arith
few_bodies (added body ∷ es) = let le = few_bodies es in omega (arith, le)
few_bodies (edited body ∷ es) = let le = few_bodies es in omega (arith, le)
few_bodies (deleted ids ∷ es) = let le = few_bodies es in omega (arith, le)
few_bodies (read id ∷ es) = let le = few_bodies es in omega (arith, le)

other_fits : (e : EventView) (pts : ℕ) (os : List Placed) → FitsEvent e → pts ≤ MAX_END → All FitsPlaced os → All FitsPlaced (record { event = e; pts = pts } ∷ os)
other_fits e pts os f le all = All-cons FitsPlaced (record { event = e; pts = pts }) os (f, low_word pts le) all

others_fit : (p : ℕ) (es : List EventView) → All FitsEvent es → p + ending es ≤ MAX_END → All FitsPlaced (others_from p es)
others_fit p [] all le = All-nil FitsPlaced
others_fit p (added body ∷ es) all le = others_fit (p + 1) es (All-tail FitsEvent (added body) es all) (omega (arith, le))
others_fit p (edited body ∷ es) all le = other_fits (edited body) (p + 1) (others_from (p + 1) es) (All-head FitsEvent (edited body) es all) (omega (arith, le)) (others_fit (p + 1) es (All-tail FitsEvent (edited body) es all) (omega (arith, le)))
others_fit p (deleted ids ∷ es) all le =
    other_fits (deleted ids) (p + length ids) (others_from (p + length ids) es) (All-head FitsEvent (deleted ids) es all) (omega (arith, le)) (others_fit (p + length ids) es (All-tail FitsEvent (deleted ids) es all) (omega (arith, le)))
others_fit p (read id ∷ es) all le = other_fits (read id) (p + 1) (others_from (p + 1) es) (All-head FitsEvent (read id) es all) (omega (arith, le)) (others_fit (p + 1) es (All-tail FitsEvent (read id) es all) (omega (arith, le)))

few_others : (p : ℕ) (es : List EventView) → length (others_from p es) ≤ length es
few_others p [] = omega arith
few_others p (added body ∷ es) = let le = few_others (p + 1) es in omega (arith, le)
few_others p (edited body ∷ es) = let le = few_others (p + 1) es in omega (arith, le)
few_others p (deleted ids ∷ es) = let le = few_others (p + length ids) es in omega (arith, le)
few_others p (read id ∷ es) = let le = few_others (p + 1) es in omega (arith, le)

news_fit : (es : List EventView) → All FitsEvent es → IsList IsText (bodies (run_of es))
news_fit es all =
    let few = limited_length bytes_of RUN_EVENTS RUN_BYTES es in
    let less = few_bodies (run_of es) in
    (omega (arith, few, less), bodies_fit (run_of es) (run_fits es all))

-- ---- recent messages

all_turned : {A : Type 0} (P : A → Type 0) (xs : List A) → All P xs → All P (reverse xs)
all_turned P [] all = all
all_turned P (x ∷ xs) all = subst (All P) (sym (reverse-cons x xs)) (All-push P (reverse xs) x (all_turned P xs (All-tail P x xs all)) (All-head P x xs all))

limit_by : {A : Type 0} (P : A → Type 0) (b : Bool) (x : A) (xs : List A) → P x → All P xs → All P (if b then x ∷ xs else [])
limit_by P true x xs is all = All-cons P x xs is all
limit_by P false x xs is all = All-nil P

all_limited : {A : Type 0} (P : A → Type 0) (size : A → ℕ) (n b : ℕ) (xs : List A) → All P xs → All P (limited size n b xs)
unfolding limited
all_limited P size zero b xs all = All-nil P
all_limited P size (suc n) b [] all = All-nil P
all_limited P size (suc n) b (x ∷ xs) all = limit_by P (leb (size x) b) x (limited size n (b - size x) xs) (All-head P x xs all) (all_limited P size n (b - size x) xs (All-tail P x xs all))

recent_fits : (es : List EventView) → All FitsEvent es → IsList IsText (recent_of es)
recent_fits es all =
    let turned : List (List ℕ) = limited length RECENT_EVENTS RECENT_BYTES (reverse (bodies es)) in
    let few = limited_length length RECENT_EVENTS RECENT_BYTES (reverse (bodies es)) in
    let long = length-reverse turned in
    (omega (arith, few, long), all_turned IsText turned (all_limited IsText length RECENT_EVENTS RECENT_BYTES (reverse (bodies es)) (all_turned IsText (bodies es) (bodies_fit es all))))

-- ---- answers

no_position_fits : (n : ℕ) → IsWord n → FitsFrame (Reply n no_position)
no_position_fits n word = (word, ((400, omega arith, refl), omega arith))

state_fits : (s : ServerState) → IsSound s → FitsState (state_of s)
state_fits s h = (low_word (ending s.common) h.common.1, low_word (ending s.secret) h.secret.1, date_word s.date h.date, low_word (length s.settings) h.seq)

last_fits : (b : Bool) (s : ServerState) (n p date : ℕ) (es fs : List EventView) → FitsServer s → IsSound s → IsWord n → All FitsEvent es → All FitsEvent fs → Carries p (run_of es) → FitsFrame (Reply n (last_by b s p (run_of es) (run_of fs) (changed_since s.settings date)))
last_fits true s n p date es fs f h word news secrets c = (word, (date_word s.date h.date, low_word (length s.settings) h.seq))
last_fits false s n p date es fs f h word news secrets c =
    let few = limited_length bytes_of RUN_EVENTS RUN_BYTES es in
    let less = few_others p (run_of es) in
    let changed = few_changed s.settings date in
    let keys = h.keys in
    (word, (news_fit es news, news_fit fs secrets, others_fit p (run_of es) (run_fits es news) c.limit, all_changed FitsSetting s.settings date f.settings, omega (arith, few, less, changed, keys), state_fits s h))

carried_fits : (b : Bool) (s : ServerState) (n p q date : ℕ) (es fs : List EventView) → FitsServer s → IsSound s → IsWord n → All FitsEvent es → All FitsEvent fs → Carries p (run_of es) → Carries q (run_of fs) → FitsFrame (Reply n (carried b s p q date (run_of es) (run_of fs)))
carried_fits true s n p q date es fs f h word news secrets c d = last_fits _ s n p date es fs f h word news secrets c
carried_fits false s n p q date es fs f h word news secrets c d =
    let few = limited_length bytes_of RUN_EVENTS RUN_BYTES es in
    let less = few_others p (run_of es) in (
      word,
      (
        news_fit es news,
        news_fit fs secrets,
        others_fit p (run_of es) (run_fits es news) c.limit,
        All-nil FitsSetting,
        omega (arith, few, less),
        (low_word (p + ending (run_of es)) c.limit, low_word (q + ending (run_of fs)) d.limit, date_word s.date h.date, low_word (length s.settings) h.seq),
      ),
    )

after_by : (b : Bool) (o : Option (List EventView)) (fs : List EventView) → (if b then o else None) ≡ Some fs → (o ≡ Some fs → All FitsEvent fs) → All FitsEvent fs
after_by true o fs is law = law is
after_by false o fs is law = absurd cc

after_fits : (es : List EventView) (p : ℕ) (fs : List EventView) → All FitsEvent es → events_after es p ≡ Some fs → All FitsEvent fs
after_fits es zero fs all is = subst (All FitsEvent) (same es fs is) all
  where
    same : (a b : List EventView) → Some a ≡ Some b → a ≡ b
    same a b e = cc
after_fits [] (suc p) fs all is = absurd cc
after_fits (e ∷ es) (suc p) fs all is = after_by (leb (count_of e) (suc p)) (events_after es (suc p - count_of e)) fs is (λ found. after_fits es (suc p - count_of e) fs (All-tail FitsEvent e es all) found)

difference_fits : (s : ServerState) (n p q date : ℕ) (a b : Option (List EventView)) → FitsServer s → IsSound s → IsWord n → events_after s.common p ≡ a → events_after s.secret q ≡ b → FitsFrame (Reply n (difference_by s p q date a b))
difference_fits s n p q date None b f h word x y = no_position_fits n word
difference_fits s n p q date (Some es) None f h word x y = no_position_fits n word
difference_fits s n p q date (Some es) (Some fs) f h word x y =
    carried_fits (is_whole es && is_whole fs) s n p q date es fs f h word (after_fits s.common p es f.common x) (after_fits s.secret q fs f.secret y) (run_carries s.common p es h.events.common h.common.1 x)
    (run_carries s.secret q fs h.events.secret h.secret.1 y)

differences_fit : (s : ServerState) (n : ℕ) (pts qts : ℤ) (date : ℕ) → FitsServer s → IsSound s → IsWord n → FitsFrame (Reply n (difference_of s pts qts date))
differences_fit s n (negsuc p) qts date f h word = no_position_fits n word
differences_fit s n (pos p) (negsuc q) date f h word = no_position_fits n word
differences_fit s n (pos p) (pos q) date f h word = difference_fits s n p q date (events_after s.common p) (events_after s.secret q) f h word refl refl

part_fits : (c : ChannelBox) (n p : ℕ) (o : Option (List EventView)) → All FitsEvent c.events → Kept c → IsWord n → c.first ≤ p → p ≤ channel_end c → events_after c.events (p - c.first) ≡ o → FitsFrame (Reply n (channel_part p o))
part_fits c n p None f k word from to is = no_position_fits n word
part_fits c n p (Some []) f k word from to is = (word, let limit = k.limit in omega (arith, to, limit))
part_fits c n p (Some (e ∷ es)) f k word from to is =
    let run : List EventView = run_of (e ∷ es) in
    let all = after_fits c.events (p - c.first) (e ∷ es) f is in
    let carries : Carries p run = channel_carries c p (e ∷ es) k from is in
    let few = limited_length bytes_of RUN_EVENTS RUN_BYTES (e ∷ es) in
    let less = few_others p run in
    (word, (low_word (p + ending run) carries.limit, news_fit (e ∷ es) all, (omega (arith, few, less), others_fit p run (run_fits (e ∷ es) all) carries.limit)))

channel_fits : (past far : Bool) (c : ChannelBox) (n p : ℕ) → All FitsEvent c.events → Kept c → IsWord n → ltb (channel_end c) p ≡ past → is_far c p ≡ far → FitsFrame (Reply n (channel_by past far c p))
channel_fits true far c n p f k word x y = no_position_fits n word
channel_fits false true c n p f k word x y = (word, (low_word (channel_end c) k.limit, recent_fits c.events f))
channel_fits false false c n p f k word x y = part_fits c n p (events_after c.events (p - c.first)) f k word (not_less p c.first (none_of_two (ltb p c.first) _ y)) (not_less (channel_end c) p x) refl

channels_fit : (c : ChannelBox) (n : ℕ) (pts : ℤ) → All FitsEvent c.events → Kept c → IsWord n → FitsFrame (Reply n (channel_difference c pts))
channels_fit c n (negsuc p) f k word = no_position_fits n word
channels_fit c n (pos p) f k word = channel_fits (ltb (channel_end c) p) (is_far c p) c n p f k word refl refl

events_by : (c d : ChannelBox) (b : Bool) → All FitsEvent c.events → All FitsEvent d.events → All FitsEvent (if b then c else d).events
events_by c d true f g = f
events_by c d false f g = g

events_in : (cs : List ChannelBox) (id : ℤ) → All FitsBox cs → All FitsEvent (channel_in cs id).events
events_in [] id all = All-nil FitsEvent
events_in (c ∷ cs) id all = let one : FitsBox c = All-head FitsBox c cs all in events_by c (channel_in cs id) (int_eq c.id id) one.events (events_in cs id (All-tail FitsBox c cs all))

pub answers_have : AnswersHaveSpellings
unfolding answer
answers_have s n StateRequest f h word = (word, state_fits s h)
answers_have s n (DifferenceRequest pts qts date) f h word = differences_fit s n pts qts date f h word
answers_have s n (ChannelRequest id pts) f h word = channels_fit (channel_in s.channels id) n pts (events_in s.channels id f.channels) (kept_in s.channels id h.channels h.events.channels) word
answers_have s n (PostRequest id posts) f h word = (word, state_fits s h)

-- ---- receipts, refusals, warnings

ok_is : (x y : Posted) → ◌≡◌ {A = Result Posted PostFault} (Ok x) (Ok y) → x ≡ y
ok_is x y e = cc

receipt_by : (s : ServerState) (random_id : ℤ) (posts : List Post) (r : Option Receipt) (c : Option PostFault) (a : Posted) → map.get s.receipts random_id ≡ r → post_cause s posts ≡ c → FitsServer s → IsSound s → answer_by s random_id posts r c ≡ Ok a → FitsReceipt a.receipt
receipt_by s random_id posts (Some r) c a known is f h e = subst (λ (x : Posted). FitsReceipt x.receipt) (ok_is _ a e) (f.receipts random_id r known)
receipt_by s random_id posts None (Some c) a known is f h e = absurd cc
receipt_by s random_id posts None None a known is f h e = subst (λ (x : Posted). FitsReceipt x.receipt) (ok_is _ a e) (receipt_fits (posted s random_id posts) (posted_sound s random_id posts h is))

pub receipts_have : ReceiptsHaveSpellings
receipts_have s random_id posts a f h e = receipt_by s random_id posts (map.get s.receipts random_id) (post_cause s posts) a refl refl f h e

pub refusals_have : RefusalsHaveSpellings
refusals_have n fault word = let short = short_name fault in (word, ((400, omega arith, refl), omega (arith, short)))

pub warnings_have : WarningsHaveSpellings
warnings_have id date long word = (tt, ((omega arith, All-cons FitsUpdate (update.ChannelTooLong id) [] long (All-nil FitsUpdate)), word, omega arith, omega arith))
