-- What is saved is loaded as the client after a restart.
use Rattle.std.proofs.Common.{◌≡◌, ℕ, suc, ◌+◌, ◌<◌, ◌≤◌, ℤ, List, [], ◌∷◌, ◌++◌, length, map, Bool, true, false, ◌&&◌, ◌||◌, leb, cond, Option, Some, None, int_eq, refl, sym, ap, ◌∙◌, subst, arith}
use Rattle.std.specs.List.{All, sum_by}
use Rattle.std.specs.FinMap as map_of
use Rattle.std.proofs.lemmas.Bool.Decides.{nat_tests, Decides-eqb}
use Rattle.std.proofs.lemmas.List.Elements.{All-head, All-tail}
use Rattle.box_events.specs.Events.{EventView, count_of}
use Rattle.box_events.specs.declared.limits.TheConstants.{MAX_CHANNELS, MAX_END}
use Rattle.box_events.specs.declared.positions.LaneName.{LaneName}
use Rattle.box_events.specs.declared.positions.LaneName.TheVariants.{Common, Secret, Channel}
use Rattle.box_events.specs.declared.saved.Saved.{Saved}
use Rattle.box_events.specs.declared.saved.SavedLane.{SavedLane}
use Rattle.box_events.specs.declared.saved.SavedChannel.{SavedChannel}
use Rattle.pts_machine.specs.declared.mode.Mode.TheVariants.{Live}
use Rattle.pts_machine.specs.States.{LaneState, IsSound}
use Rattle.pts_machine.specs.Steps.{loaded, forget}
use Rattle.pts_machine.specs.SeqStates.{loaded as settings_loaded}
use Rattle.channel_box.specs.States.{ChannelState, ids_of, is_in, AreDistinct}
use Rattle.channel_box.specs.Steps.{woken, forgotten}
use Rattle.channel_box.proofs.Ids.{not_eq, not_of}
use Rattle.box_client.specs.States.{ClientState}
use Rattle.box_client.specs.Messages.{are_messages}
use Rattle.box_client.specs.Asking.{restarted}
use Rattle.box_client.specs.Saving.{lane_saved, channel_saved, saved_of, is_even, load_cause, uneven_channel, is_surplus, surplus_after, channel_loaded, client_loaded}
use Rattle.box_client.specs.Ranges.{AreChannelsInRange}
use Rattle.box_client.specs.Loads.{IsRight, IsLoadedAs, IsRestartOf}
use Rattle.box_client.specs.Savable.{EndsAtEvents}
use Rattle.box_client.specs.Laws.{SavedAreLoaded}
use Rattle.box_client.proofs.Orders.{saved_in_order, saved_again}
use Rattle.box_client.proofs.Loadings.{next_in_range, no_cause, lanes_of}

-- lanes

pub even_of : (t : LaneState EventView) (saved : SavedLane) → IsSound count_of t → saved ≡ lane_saved t → is_even saved ≡ true
even_of t saved sound is = ap is_even is ∙ (Decides-eqb t.at (t.restart + sum_by count_of t.events)).1 sound.position

lane_again : (t : LaneState EventView) → is_even (lane_saved t) ≡ true → loaded count_of t.restart t.events ≡ forget t
unfolding forget
lane_again t even =
    let at : t.at ≡ t.restart + sum_by count_of t.events = (Decides-eqb t.at (t.restart + sum_by count_of t.events)).0 even in
    λ i. record { restart = t.restart; events = t.events; at = sym at i; held = map_of.empty; mode = Live }

-- channels

even_over : (b : Bool) (o : Option LaneName) (id : ℤ) → cond b o (Some (Channel id)) ≡ None → (b ≡ true) × (o ≡ None)
even_over true o id e = (refl, e)
even_over false o id e = absurd cc

over_even : (b : Bool) (o : Option LaneName) (id : ℤ) → b ≡ true → o ≡ None → cond b o (Some (Channel id)) ≡ None
over_even true o id p q = q
over_even false o id p q = absurd cc

pub even_last : (cs : List SavedChannel) (c : SavedChannel) → uneven_channel cs ≡ None → is_even c.lane ≡ true → uneven_channel (cs ++ c ∷ []) ≡ None
even_last [] c none even = over_even (is_even c.lane) None c.id even refl
even_last (d ∷ cs) c none even =
    let two = even_over (is_even d.lane) (uneven_channel cs) d.id none in
    over_even (is_even d.lane) (uneven_channel (cs ++ c ∷ [])) d.id two.0 (even_last cs c two.1 even)

pub range_last : (cs : List SavedChannel) (c : SavedChannel) → AreChannelsInRange cs → c.lane.at ≤ MAX_END → AreChannelsInRange (cs ++ c ∷ [])
range_last [] c range le = (le, tt)
range_last (d ∷ cs) c range le = (range.0, range_last cs c range.1 le)

channels_again : (cs : List ChannelState) → uneven_channel (map channel_saved cs) ≡ None → map channel_loaded (map channel_saved cs) ≡ woken (forgotten cs)
channels_again [] none = refl
channels_again (c ∷ cs) none =
    let two = even_over (is_even (lane_saved c.lane)) (uneven_channel (map channel_saved cs)) c.id none in
    let lane = lane_again c.lane two.0 in
    let rest = channels_again cs two.1 in
    λ i. record { id = c.id; lane = lane i; flag = true; recent = c.recent } ∷ rest i

neither : (a b : Bool) → (a || b) ≡ false → (a ≡ false) × (b ≡ false)
neither true b e = absurd cc
neither false b e = (refl, e)

none_of : (a b : Bool) → a ≡ false → b ≡ false → (a || b) ≡ false
none_of a b p q = rw (p, q) refl

-- none of the second ids is one of the first
abbrev AreApart : List ℤ → List ℤ → Type 0
AreApart ids [] = Unit {0}
AreApart ids (k ∷ ks) = (is_in k ids ≡ false) × AreApart ids ks

apart_none : (ks : List ℤ) → AreApart [] ks
apart_none [] = tt
apart_none (k ∷ ks) = (refl, apart_none ks)

not_last : (j k : ℤ) (ids : List ℤ) → is_in j ids ≡ false → int_eq k j ≡ false → is_in j (ids ++ k ∷ []) ≡ false
not_last j k [] out other = none_of (int_eq k j) false other refl
not_last j k (i ∷ ids) out other = let two = neither (int_eq i j) (is_in j ids) out in none_of (int_eq i j) (is_in j (ids ++ k ∷ [])) two.0 (not_last j k ids two.1 other)

apart_more : (ids : List ℤ) (k : ℤ) (ks : List ℤ) → AreApart ids ks → is_in k ks ≡ false → AreApart (ids ++ k ∷ []) ks
apart_more ids k [] apart out = tt
apart_more ids k (j ∷ ks) apart out =
    let two = neither (int_eq j k) (is_in k ks) out in
    (not_last j k ids apart.0 (not_eq k j (λ e. not_of j k two.0 (sym e))), apart_more ids k ks apart.1 two.1)

few_before : (n m : ℕ) → n + (m + 1) ≤ MAX_CHANNELS → leb MAX_CHANNELS n ≡ false
few_before n m le = let lt : n < MAX_CHANNELS = omega (arith, le) in grind (arith, nat_tests)

length_last : (ids : List ℤ) (k : ℤ) → length (ids ++ k ∷ []) ≡ length ids + 1
length_last [] k = refl
length_last (j ∷ ids) k = omega (arith, length_last ids k)

over_surplus : (b : Bool) (i : ℕ) (o : Option ℕ) → b ≡ false → o ≡ None → cond b (Some i) o ≡ None
over_surplus true i o p q = absurd cc
over_surplus false i o p q = q

none_surplus : (ids : List ℤ) (cs : List ChannelState) → AreApart ids (ids_of cs) → AreDistinct (ids_of cs) → length ids + length (ids_of cs) ≤ MAX_CHANNELS → surplus_after ids (map channel_saved cs) ≡ None
none_surplus ids [] apart distinct few = refl
none_surplus ids (c ∷ cs) apart distinct few =
    over_surplus (is_surplus ids c.id) (length ids) (surplus_after (ids ++ c.id ∷ []) (map channel_saved cs))
    (none_of (is_in c.id ids) (leb MAX_CHANNELS (length ids)) apart.0 (few_before (length ids) (length (ids_of cs)) (omega (arith, few))))
    (none_surplus (ids ++ c.id ∷ []) cs (apart_more ids c.id (ids_of cs) apart.1 distinct.0) distinct.1 (omega (arith, few, length_last ids c.id)))

pub ids_fit : (cs : List ChannelState) (ks : List ℤ) (saved : List SavedChannel) → ks ≡ ids_of cs → AreDistinct ks → length ks ≤ MAX_CHANNELS → saved ≡ map channel_saved cs → surplus_after [] saved ≡ None
ids_fit cs ks saved at distinct few is =
    ap (surplus_after []) is ∙ none_surplus [] cs (apart_none (ids_of cs)) (subst AreDistinct at distinct) (omega (arith, few, ap length at))

-- clients

lanes_fit : (a b d : Bool) (o : Option LaneName) → a ≡ true → b ≡ true → d ≡ true → o ≡ None → cond a (cond (b && d) o (Some Secret)) (Some Common) ≡ None
lanes_fit a b d o p q r s = rw (p, q, r, s) refl

-- what was found of the parts of what a client saves
pub record Found (c : ClientState) (s : Saved) : Type 0 where
  pub is : s ≡ saved_of c
  pub common : is_even s.common ≡ true
  pub secret : is_even s.secret ≡ true
  pub even : uneven_channel s.channels ≡ None
  pub ids : surplus_after [] s.channels ≡ None

right : (c : ClientState) → 1 ≤ c.next → c.next ≤ 2000000000 → are_messages c.secret.events ≡ true → Found c (saved_of c) → IsRight (saved_of c)
right c one low new f = record {
  next = next_in_range c.next one low;
  lanes = lanes_fit (is_even (lane_saved c.common)) (is_even (lane_saved c.secret)) (are_messages c.secret.events) (uneven_channel (map channel_saved c.channels)) f.common f.secret new f.even;
  settings = saved_in_order c.settings.table;
}

again : (c : ClientState) → is_even (lane_saved c.common) ≡ true → is_even (lane_saved c.secret) ≡ true → uneven_channel (map channel_saved c.channels) ≡ None → client_loaded (saved_of c) ≡ restarted c
again c one two three =
    let settings = ap (settings_loaded c.settings.at c.settings.date) (saved_again c.settings.table) in
    let common = lane_again c.common one in
    let secret = lane_again c.secret two in
    let channels = channels_again c.channels three in
    λ i. record { next = c.next; common = common i; secret = secret i; settings = settings i; flag = true; channels = channels i }

-- what a client saved is loaded, if it is, as the client after a restart
pub loads_again : (c d : ClientState) (s : Saved) → s ≡ saved_of c → IsLoadedAs s d → d ≡ restarted c
loads_again c d s is loads =
    let found = lanes_of (saved_of c) (ap load_cause (sym is) ∙ loads.cause) in
    loads.client ∙ ap client_loaded is ∙ again c found.0 found.1 found.3

found_of : (c : ClientState) → Found c (saved_of c) → 1 ≤ c.next → c.next ≤ 2000000000 → are_messages c.secret.events ≡ true → IsRestartOf c (saved_of c)
found_of c f one low new = record { cause = no_cause (saved_of c) (right c one low new f) f.ids; client = again c f.common f.secret f.even }

pub restarts : (c : ClientState) (s : Saved) → Found c s → 1 ≤ c.next → are_messages c.secret.events ≡ true → c.next ≤ 2000000000 → IsRestartOf c s
restarts c s f one new low = subst (IsRestartOf c) (sym f.is) (found_of c (subst (Found c) f.is f) one low new)

-- of a client that can be saved

even_lane : (t : LaneState EventView) → EndsAtEvents t → is_even (lane_saved t) ≡ true
even_lane t ends = (Decides-eqb t.at (t.restart + sum_by count_of t.events)).1 ends

even_channels : (cs : List ChannelState) → All (λ d. EndsAtEvents d.lane) cs → uneven_channel (map channel_saved cs) ≡ None
even_channels [] all = refl
even_channels (c ∷ cs) all =
    let P : ChannelState → Type 0 = λ d. EndsAtEvents d.lane in
    over_even (is_even (lane_saved c.lane)) (uneven_channel (map channel_saved cs)) c.id (even_lane c.lane (All-head P c cs all)) (even_channels cs (All-tail P c cs all))

length_ids : (cs : List ChannelState) → length (ids_of cs) ≡ length cs
length_ids [] = refl
length_ids (c ∷ cs) = ap suc (length_ids cs)

pub saved_are_loaded : SavedAreLoaded
saved_are_loaded c h low =
    let few = h.few in
    let long = length_ids c.channels in
    found_of c (record {
      is = refl;
      common = even_lane c.common h.common;
      secret = even_lane c.secret h.secret;
      even = even_channels c.channels h.lanes;
      ids = ids_fit c.channels (ids_of c.channels) (map channel_saved c.channels) refl h.distinct (omega (arith, few, long)) refl;
    }) h.next low h.messages
