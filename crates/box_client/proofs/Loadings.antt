-- Why nothing is loaded, and saved channels that are watched one by one.
use Rattle.std.proofs.Common.{◌≡◌, ◌⊎◌, inl, inr, ℕ, zero, suc, ◌<◌, ◌≤◌, ◌++◌, ℤ, List, [], ◌∷◌, length, map, Bool, true, false, cond, ◌&&◌, ◌||◌, leb, Option, Some, None, Result, Err, refl, sym, ap, ap₂, ◌∙◌, subst, arith}
use Rattle.std.proofs.lemmas.Bool.Decides.{nat_tests}
use Rattle.box_events.specs.declared.limits.TheConstants.{MAX_CHANNELS}
use Rattle.box_events.specs.declared.positions.LaneName.{LaneName}
use Rattle.box_events.specs.declared.positions.LaneName.TheVariants.{Common, Secret}
use Rattle.box_events.specs.declared.saved.Saved.{Saved}
use Rattle.box_events.specs.declared.saved.SavedChannel.{SavedChannel}
use Rattle.channel_box.specs.States.{ChannelState, ChannelView, states, ids_of, is_in}
use Rattle.channel_box.specs.declared.fault.WatchFault.{WatchFault}
use Rattle.channel_box.specs.declared.fault.WatchFault.TheVariants.{Already, TooMany}
use Rattle.channel_box.specs.Steps.{is_watched, woken}
use Rattle.channel_box.specs.Calls.{Watches}
use Rattle.channel_box.proofs.Ids.{watched_ids}
use Rattle.box_client.specs.declared.fault.LoadFault.{LoadFault}
use Rattle.box_client.specs.declared.fault.LoadFault.TheVariants.{BadNext, BadLane, BadSettings, BadChannels, Memory}
use Rattle.box_client.specs.Saving.{LoadCause, bad_next, bad_lane, bad_settings, or_lane, or_settings, or_channels, is_next, load_cause, is_even, uneven_lane, uneven_channel, unsorted, surplus_after, is_surplus, channel_loaded, client_loaded}
use Rattle.box_client.specs.States.{ClientState}
use Rattle.box_client.specs.Messages.{are_messages}
use Rattle.box_client.specs.Loads.{IsCauseOf, IsLoadedAs, IsRight, IsSurplusOf}
use Rattle.box_client.specs.Ranges.{AreChannelsInRange}

-- causes

not_next : (n : ℕ) → ((n ≡ 0) ⊎ ((n ≡ 0 → ⊥) × (2000000000 < n))) → is_next n ≡ false
not_next n = elim [
  | inl is ↦ grind (arith, nat_tests)
  | inr many ↦ let lt : 2000000000 < n = many.1 in grind (arith, nat_tests)
]

pub not_zero : (n : ℕ) → (n ≡ 0 → ⊥) → 1 ≤ n
not_zero zero none = absurd (none refl)
not_zero (suc n) none = omega arith

pub next_in_range : (n : ℕ) → 1 ≤ n → n ≤ 2000000000 → is_next n ≡ true
next_in_range n one le = grind (arith, nat_tests)

cause_by : (b : Bool) (n : ℕ) (l : Option LaneName) (i j : Option ℕ) → Option LoadCause
cause_by b n l i j = cond b (or_lane l (or_settings i (or_channels j))) (Some (bad_next n))

cause_is : (s : Saved) → load_cause s ≡ cause_by (is_next s.next) s.next (uneven_lane s) (unsorted s.settings) (surplus_after [] s.channels)
unfolding load_cause cause_by
cause_is s = refl

pub next_is_bad : (s : Saved) → ((s.next ≡ 0) ⊎ ((s.next ≡ 0 → ⊥) × (2000000000 < s.next))) → load_cause s ≡ Some (bad_next s.next)
unfolding cause_by
next_is_bad s e = cause_is s ∙ ap (λ (b : Bool). cause_by b s.next (uneven_lane s) (unsorted s.settings) (surplus_after [] s.channels)) (not_next s.next e)

by_lane : (s : Saved) (o : Option LaneName) → is_next s.next ≡ true → uneven_lane s ≡ o → load_cause s ≡ or_lane o (or_settings (unsorted s.settings) (or_channels (surplus_after [] s.channels)))
unfolding cause_by
by_lane s o next is = cause_is s ∙ ap₂ (λ (b : Bool) (l : Option LaneName). cause_by b s.next l (unsorted s.settings) (surplus_after [] s.channels)) next is

pub lane_is_bad : (s : Saved) (lane : LaneName) → is_next s.next ≡ true → uneven_lane s ≡ Some lane → load_cause s ≡ Some (bad_lane lane)
lane_is_bad s lane next is = by_lane s (Some lane) next is

pub settings_are_bad : (s : Saved) (i : ℕ) → is_next s.next ≡ true → uneven_lane s ≡ None → unsorted s.settings ≡ Some i → load_cause s ≡ Some (bad_settings i)
settings_are_bad s i next none is = by_lane s None next none ∙ ap (λ (o : Option ℕ). or_settings o (or_channels (surplus_after [] s.channels))) is

by_channels : (s : Saved) (o : Option ℕ) → IsRight s → surplus_after [] s.channels ≡ o → load_cause s ≡ or_channels o
by_channels s o right is = by_lane s None right.next right.lanes ∙ ap₂ (λ (i j : Option ℕ). or_settings i (or_channels j)) right.settings is

pub surplus_cause : (s : Saved) (fault : LoadFault) → IsRight s → IsSurplusOf (surplus_after [] s.channels) fault → IsCauseOf s fault
surplus_cause s (BadNext next) right is = absurd is
surplus_cause s (BadLane lane) right is = absurd is
surplus_cause s (BadSettings place) right is = absurd is
surplus_cause s (BadChannels place) right is = by_channels s (Some place) right is
surplus_cause s Memory right is = tt

pub no_cause : (s : Saved) → IsRight s → surplus_after [] s.channels ≡ None → load_cause s ≡ None
no_cause s right is = by_channels s None right is

pub loaded_as : (s : Saved) (c : ClientState) → IsRight s → surplus_after [] s.channels ≡ None → c ≡ client_loaded s → IsLoadedAs s c
loaded_as s c right few is = record { cause = no_cause s right few; client = is }

first_none : (b : Bool) (n : ℕ) (l : Option LaneName) (i j : Option ℕ) → cause_by b n l i j ≡ None → (b ≡ true) × (l ≡ None)
unfolding cause_by
first_none true n None i j e = (refl, refl)
first_none true n (Some lane) i j e = absurd cc
first_none false n l i j e = absurd cc

lanes_none : (a b new : Bool) (o : Option LaneName) → cond a (cond (b && new) o (Some Secret)) (Some Common) ≡ None → (a ≡ true) × (b ≡ true) × (new ≡ true) × (o ≡ None)
lanes_none true true true o e = (refl, refl, refl, e)
lanes_none true true false o e = absurd cc
lanes_none true false new o e = absurd cc
lanes_none false b new o e = absurd cc

pub next_of : (s : Saved) → load_cause s ≡ None → is_next s.next ≡ true
next_of s none = (first_none (is_next s.next) s.next (uneven_lane s) (unsorted s.settings) (surplus_after [] s.channels) (sym (cause_is s) ∙ none)).0

-- where there is no cause, each lane ends where its events do, and the secret lane has messages alone
pub lanes_of : (s : Saved) → load_cause s ≡ None → (is_even s.common ≡ true) × (is_even s.secret ≡ true) × (are_messages s.secret.events ≡ true) × (uneven_channel s.channels ≡ None)
lanes_of s none =
    lanes_none (is_even s.common) (is_even s.secret) (are_messages s.secret.events) (uneven_channel s.channels)
    (first_none (is_next s.next) s.next (uneven_lane s) (unsorted s.settings) (surplus_after [] s.channels) (sym (cause_is s) ∙ none)).1

-- channels

length_ids : (cs : List ChannelState) → length (ids_of cs) ≡ length cs
length_ids [] = refl
length_ids (c ∷ cs) = omega (arith, length_ids cs)

length_states : (vs : List ChannelView) → length (states vs) ≡ length vs
length_states [] = refl
length_states (v ∷ vs) = omega (arith, length_states vs)

few_ids : (n : ℕ) → n < MAX_CHANNELS → leb MAX_CHANNELS n ≡ false
few_ids n lt = grind (arith, nat_tests)

all_ids : (n : ℕ) → MAX_CHANNELS ≤ n → leb MAX_CHANNELS n ≡ true
all_ids n le = grind (arith, nat_tests)

none_of : (a b : Bool) → a ≡ false → b ≡ false → (a || b) ≡ false
none_of a b p q = rw (p, q) refl

second_of : (a b : Bool) → b ≡ true → (a || b) ≡ true
second_of true b q = refl
second_of false b q = q

fresh : (cs : List ChannelState) (id : ℤ) → is_watched cs id ≡ false → length cs < MAX_CHANNELS → is_surplus (ids_of cs) id ≡ false
fresh cs id new lt = none_of (is_in id (ids_of cs)) (leb MAX_CHANNELS (length (ids_of cs))) (sym (watched_ids cs id) ∙ new) (few_ids (length (ids_of cs)) (omega (arith, lt, length_ids cs)))

again : (cs : List ChannelState) (id : ℤ) → is_watched cs id ≡ true → is_surplus (ids_of cs) id ≡ true
again cs id old = ap (λ (b : Bool). b || leb MAX_CHANNELS (length (ids_of cs))) (sym (watched_ids cs id) ∙ old)

too_many : (cs : List ChannelState) (id : ℤ) → MAX_CHANNELS ≤ length cs → is_surplus (ids_of cs) id ≡ true
too_many cs id le = second_of (is_in id (ids_of cs)) (leb MAX_CHANNELS (length (ids_of cs))) (all_ids (length (ids_of cs)) (omega (arith, le, length_ids cs)))

told_by : (vs ws : List ChannelView) (y : ChannelState) (r : Result (Unit {0}) WatchFault) (fault e : WatchFault) → Watches vs y r ws → r ≡ Err fault → fault ≡ e → Watches vs y (Err e) ws
told_by vs ws y r fault e w is same = subst (λ (o : Result (Unit {0}) WatchFault). Watches vs y o ws) (is ∙ ap Err same) w

pub adds_again : (vs ws : List ChannelView) (y : ChannelState) (r : Result (Unit {0}) WatchFault) (fault : WatchFault) (id : ℤ) (n : ℕ) (ks : List ℤ) → Watches vs y r ws → r ≡ Err fault → fault ≡ Already → y.id ≡ id → ks ≡ ids_of (states vs) → n ≡ length ks
    → (is_surplus (ids_of (states vs)) id ≡ true) × (n ≡ length (ids_of (states vs)))
adds_again vs ws y r fault id n ks w err is same at long = (again (states vs) id (ap (is_watched (states vs)) (sym same) ∙ (told_by vs ws y r fault Already w err is).0), long ∙ ap length at)

pub adds_too_many : (vs ws : List ChannelView) (y : ChannelState) (r : Result (Unit {0}) WatchFault) (fault : WatchFault) (id : ℤ) (n : ℕ) (ks : List ℤ) → Watches vs y r ws → r ≡ Err fault → fault ≡ TooMany → ks ≡ ids_of (states vs) → n ≡ length ks
    → (is_surplus (ids_of (states vs)) id ≡ true) × (n ≡ length (ids_of (states vs)))
adds_too_many vs ws y r fault id n ks w err is at long = (too_many (states vs) id (omega (arith, (told_by vs ws y r fault TooMany w err is).1, length_states vs)), long ∙ ap length at)

pub adds_new : (vs ws : List ChannelView) (x y : ChannelState) → y ≡ x → (is_watched (states vs) y.id ≡ false) × (length vs < MAX_CHANNELS) × (states ws ≡ states vs ++ y ∷ [])
    → (is_surplus (ids_of (states vs)) x.id ≡ false) × (states ws ≡ states vs ++ x ∷ [])
adds_new vs ws x y same w =
    (fresh (states vs) x.id (ap (λ (z : ChannelState). is_watched (states vs) z.id) (sym same) ∙ w.0) (omega (arith, w.1, length_states vs)), w.2 ∙ ap (λ (z : ChannelState). states vs ++ z ∷ []) same)

-- some saved channels are watched, and others are to be
pub record Loading (all : List SavedChannel) (now : List ChannelState) (rest : List SavedChannel) : Type 0 where
  pub ids : surplus_after (ids_of now) rest ≡ surplus_after [] all
  pub channels : woken now ++ map channel_loaded rest ≡ map channel_loaded all
  pub even : uneven_channel rest ≡ None
  pub range : AreChannelsInRange rest
