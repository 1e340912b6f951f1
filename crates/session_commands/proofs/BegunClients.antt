-- A client that a session begins with, new or loaded of what was saved, and the channels that it watches too.
use Rattle.std.specs.Prelude.{leb, ltb, ◌||◌}
use Rattle.std.proofs.Common.{◌≡◌, ℕ, ◌+◌, ◌<◌, ◌≤◌, ℤ, List, [], ◌∷◌, ◌++◌, length, length-append, map as each, cond, Bool, true, false, Option, Some, None, option_and_then, refl, ap, ◌∙◌, arith}
use Rattle.std.specs.Cmp.Lexicographic.{slice_cmp}
use Rattle.std.specs.FinMap.{len, len-empty}
use Rattle.std.specs.List.{All, AllByRecursion, sum_by}
use Rattle.std.specs.Ordering.{nat_cmp}
use Rattle.std.proofs.lemmas.Bool.{eqb-true}
use Rattle.std.proofs.lemmas.Bool.Decides.{nat_tests}
use Rattle.std.proofs.lemmas.List.{length-map}
use Rattle.std.proofs.lemmas.List.Elements.{All-nil, All-cons, All-head, All-tail, All-push}
use Rattle.box_events.specs.Events.{EventView, count_of}
use Rattle.box_events.specs.Views.{HasCount}
use Rattle.box_events.specs.declared.limits.TheConstants.{MAX_CHANNELS, MAX_END}
use Rattle.box_events.specs.declared.positions.LaneName.{LaneName}
use Rattle.box_events.specs.declared.positions.LaneName.TheVariants as lanes
use Rattle.box_events.specs.declared.saved.Saved.{Saved}
use Rattle.box_events.specs.declared.saved.SavedChannel.{SavedChannel}
use Rattle.box_events.specs.declared.saved.SavedLane.{SavedLane}
use Rattle.pts_machine.specs.Steps.{loaded, new_lane}
use Rattle.pts_machine.proofs.Kept.{sound_loaded}
use Rattle.pts_machine.specs.Rows.{values_of}
use Rattle.pts_machine.proofs.RowSteps.{len_values}
use Rattle.pts_machine.proofs.StateSteps as soundness
use Rattle.channel_box.specs.States.{is_in}
use Rattle.channel_box.specs.Steps.{channel_of, is_watched}
use Rattle.box_client.specs.Ranges.{AreChannelsInRange}
use Rattle.box_client.specs.Saving.{LoadCause, bad_next, channel_loaded, client_loaded, is_even, is_next, is_surplus, load_cause, or_channels, or_lane, or_settings, surplus_after, uneven_channel, uneven_lane, unsorted}
use Rattle.box_client.specs.States.{ClientState, new_client}
use Rattle.box_client.specs.declared.loading.TheConstants.{MAX_NEXT}
use Rattle.box_client.proofs.Loadings.{lanes_of, next_of}
use Rattle.box_client.proofs.Orders.{sorted_of}
use Rattle.wire_forms.specs.IsOf.{IsLong, IsText}
use Rattle.wire_profile.specs.Indexes.{ProfileView}
use Rattle.wire_profile.specs.Profiles.{IsProfile}
use Rattle.wire_values.specs.Carried.{FitsSaved, IsLane, IsSaved, IsSavedChannel}
use Rattle.wire_values.specs.CarriedFrames.{FitsEvent}
use Rattle.wire_values.specs.SavedClients.{saved_in, saved_tree}
use Rattle.box_wire.specs.Kinds.{saved_clients}
use Rattle.box_wire.specs.Framing.{Means}
use Rattle.box_wire.proofs.SavedLaws.{saved_laws}
use Rattle.box_world.proofs.MessagesFit.{saved_in_fits}
use Rattle.box_world.proofs.SpelledMessages.{meant_fit}
use Rattle.box_world.specs.Spelled.{FitsChannel}
use Rattle.box_world.proofs.DatedClients.{clients_stay_dated}
use Rattle.box_world.proofs.FittingClients.{clients_keep, held_empty, new_all}
use Rattle.box_world.proofs.FittingSaved.{loaded_have}
use Rattle.box_world.proofs.ReadClients.{clients_taken}
use Rattle.box_world.proofs.ReadDates.{clients_dated}
use Rattle.session_commands.specs.Client.{watch_all, watch_one}
use Rattle.session_commands.proofs.GoingClients.{IsGoing}
use Rattle.session_commands.proofs.LowClients.{Counts, LowChannel, LowLane, add_low, lane_new}

-- ---- a new client

no_keys : len new_client.settings.table ≡ 0
no_keys = len-empty (slice_cmp nat_cmp) (List ℕ)

pub going_new : IsGoing 0 0 new_client
going_new = record {
  fits = clients_keep.new;
  dated = clients_stay_dated.new;
  low = record {
    common = lane_new;
    secret = lane_new;
    settings = record { sound = soundness.sound_new; at = omega arith; low = omega (arith, no_keys); few = omega (arith, no_keys) };
    lanes = All-nil LowChannel;
    few = omega arith;
  };
  next = omega arith;
}

-- ---- a loaded client

counts_of : (es : List EventView) → All HasCount es → All Counts es
counts_of [] all = All-nil Counts
counts_of (e ∷ es) all = All-cons Counts e es (All-head HasCount e es all).0 (counts_of es (All-tail HasCount e es all))

lane_loaded : (l : SavedLane) → is_even l ≡ true → IsLane l → l.at ≤ MAX_END → LowLane (loaded count_of l.restart l.events)
lane_loaded l even is limit =
    let same : l.at ≡ l.restart + sum_by count_of l.events = eqb-true l.at (l.restart + sum_by count_of l.events) even in
    record { sound = sound_loaded count_of l.restart l.events (omega (arith, same, limit)); counts = record { events = counts_of l.events is; held = held_empty Counts } }

even_by : (b : Bool) (o : Option LaneName) (id : ℤ) → cond b o (Some (lanes.Channel id)) ≡ None → (b ≡ true) × (o ≡ None)
even_by true o id e = (refl, e)
even_by false o id e = absurd cc

lanes_loaded : (cs : List SavedChannel) → uneven_channel cs ≡ None → All IsSavedChannel cs → AreChannelsInRange cs → All LowChannel (each channel_loaded cs)
lanes_loaded [] even all range = All-nil LowChannel
lanes_loaded (c ∷ cs) even all range =
    let e = even_by (is_even c.lane) (uneven_channel cs) c.id even in
    All-cons LowChannel (channel_loaded c) (each channel_loaded cs) (lane_loaded c.lane e.0 (All-head IsSavedChannel c cs all) range.0) (lanes_loaded cs e.1 (All-tail IsSavedChannel c cs all) range.1)

ids_by : (b : Bool) (lane : Option LaneName) (place ids : Option ℕ) (next : ℕ) → cond b (or_lane lane (or_settings place (or_channels ids))) (Some (bad_next next)) ≡ None → ids ≡ None
ids_by true None None None next e = refl
ids_by true None None (Some i) next e = absurd cc
ids_by true None (Some i) ids next e = absurd cc
ids_by true (Some lane) place ids next e = absurd cc
ids_by false lane place ids next e = absurd cc

ids_of : (s : Saved) → load_cause s ≡ None → surplus_after [] s.channels ≡ None
unfolding load_cause
ids_of s none = ids_by (is_next s.next) (uneven_lane s) (unsorted s.settings) (surplus_after [] s.channels) s.next none

order_by : (b : Bool) (lane : Option LaneName) (place : Option ℕ) (o : Option LoadCause) (next : ℕ) → cond b (or_lane lane (or_settings place o)) (Some (bad_next next)) ≡ None → place ≡ None
order_by true None None o next e = refl
order_by true None (Some i) o next e = absurd cc
order_by true (Some lane) place o next e = absurd cc
order_by false lane place o next e = absurd cc

in_order : (s : Saved) → load_cause s ≡ None → unsorted s.settings ≡ None
unfolding load_cause
in_order s none = order_by (is_next s.next) (uneven_lane s) (unsorted s.settings) (or_channels (surplus_after [] s.channels)) s.next none

surplus_by : (b : Bool) (i : ℕ) (o : Option ℕ) → cond b (Some i) o ≡ None → (b ≡ false) × (o ≡ None)
surplus_by true i o e = absurd cc
surplus_by false i o e = (refl, e)

second_none : (a b : Bool) → (a || b) ≡ false → b ≡ false
second_none true b e = absurd cc
second_none false b e = e

below : (n : ℕ) → leb MAX_CHANNELS n ≡ false → n < MAX_CHANNELS
below n e = grind (arith, nat_tests)

few_channels : (ids : List ℤ) (cs : List SavedChannel) → length ids ≤ MAX_CHANNELS → surplus_after ids cs ≡ None → length ids + length cs ≤ MAX_CHANNELS
few_channels ids [] le none = omega (arith, le)
few_channels ids (c ∷ cs) le none =
    let s = surplus_by (is_surplus ids c.id) (length ids) (surplus_after (ids ++ c.id ∷ []) cs) none in
    let less = below (length ids) (second_none (is_in c.id ids) (leb MAX_CHANNELS (length ids)) s.0) in
    let long = length-append ids (c.id ∷ []) in
    let more = few_channels (ids ++ c.id ∷ []) cs (omega (arith, less, long)) s.1 in
    omega (arith, more, long)

next_low : (n : ℕ) → is_next n ≡ true → n ≤ MAX_NEXT
next_low n e = grind (arith, nat_tests)

module _ (p : ProfileView) (good : IsProfile p) (bytes : List ℕ) (s : Saved) (is : IsSaved s) (means : Means p saved_clients (saved_tree s) bytes) where
  fits : FitsSaved s
  fits = meant_fit saved_clients saved_tree saved_in IsSaved saved_laws FitsSaved saved_in_fits p good s bytes is means

  pub going_loaded : load_cause s ≡ None → IsGoing 0 (length s.settings) (client_loaded s)
  going_loaded none =
      let even = lanes_of s none in
      let range = clients_taken p good s bytes is means in
      let keys = len_values s.settings (sorted_of s.settings (in_order s none)) in
      let few = few_channels [] s.channels (omega arith) (ids_of s none) in
      let long = length-map s.channels channel_loaded in
      let next = next_low s.next (next_of s none) in
      record {
        fits = loaded_have s fits none;
        dated = clients_stay_dated.loaded s (clients_dated p good s bytes is means);
        low = record {
          common = lane_loaded s.common even.0 is.0 range.common;
          secret = lane_loaded s.secret even.1 is.1 range.secret;
          settings = record { sound = soundness.sound_loaded s.seq s.date (values_of s.settings); at = fits.4; low = omega (arith, keys); few = omega (arith, keys) };
          lanes = lanes_loaded s.channels even.3 is.2 range.channels;
          few = omega (arith, few, long);
        };
        next = omega (arith, next);
      }

-- ---- watching

-- a client that watches these too, or there is no place for one
pub data Watched (d : ℕ) (ids : List ℤ) (c : ClientState) : Type 0 where
  watches : (e : ClientState) → watch_all ids c ≡ Some e → IsGoing 0 d e → Watched d ids c
  no_place : watch_all ids c ≡ None → Watched d ids c

less_of : (n : ℕ) → ltb n MAX_CHANNELS ≡ true → n < MAX_CHANNELS
less_of n e = grind (arith, nat_tests)

added : (d : ℕ) (c : ClientState) (id : ℤ) → IsLong id → length c.channels < MAX_CHANNELS → IsGoing 0 d c → IsGoing 0 d (record c { channels = c.channels ++ channel_of id new_lane [] ∷ [] })
added d c id long less h = record {
  fits = record {
    common = h.fits.common;
    secret = h.fits.secret;
    settings = h.fits.settings;
    channels = All-push FitsChannel c.channels (channel_of id new_lane []) h.fits.channels (record { id = long; lane = new_all FitsEvent; recent = (omega arith, All-nil IsText) });
  };
  dated = record { date = h.dated.date; held = h.dated.held };
  low = add_low d c (channel_of id new_lane []) lane_new less h.low;
  next = h.next;
}

abbrev one_by : Bool → Bool → ClientState → ℤ → Option ClientState
one_by old room c id = cond old (Some c) (cond room (Some (record c { channels = c.channels ++ channel_of id new_lane [] ∷ [] })) None)

one_then : (d : ℕ) (ids : List ℤ) (id : ℤ) (c e : ClientState) → watch_one c id ≡ Some e → Watched d ids e → Watched d (id ∷ ids) c
one_then d ids id c e is (watches f so going) = watches f (ap (option_and_then (watch_all ids)) is ∙ so) going
one_then d ids id c e is (no_place so) = no_place (ap (option_and_then (watch_all ids)) is ∙ so)

data One (c : ClientState) (id : ℤ) : Type 0 where
  stays : watch_one c id ≡ Some c → One c id
  adds : length c.channels < MAX_CHANNELS → watch_one c id ≡ Some (record c { channels = c.channels ++ channel_of id new_lane [] ∷ [] }) → One c id
  none : watch_one c id ≡ None → One c id

one_so : (c : ClientState) (id : ℤ) (old : Bool) → is_watched c.channels id ≡ old → (room : Bool) → ltb (length c.channels) MAX_CHANNELS ≡ room → One c id
one_so c id true is room at = stays (ap (λ (b : Bool). one_by b (ltb (length c.channels) MAX_CHANNELS) c id) is)
one_so c id false is true at = adds (less_of (length c.channels) at) (ap (λ (b : Bool). one_by b (ltb (length c.channels) MAX_CHANNELS) c id) is ∙ ap (λ (b : Bool). one_by false b c id) at)
one_so c id false is false at = none (ap (λ (b : Bool). one_by b (ltb (length c.channels) MAX_CHANNELS) c id) is ∙ ap (λ (b : Bool). one_by false b c id) at)

pub each_watched : (d : ℕ) (ids : List ℤ) (c : ClientState) → AllByRecursion IsLong ids → IsGoing 0 d c → Watched d ids c
each_watched d [] c long h = watches c refl h
each_watched d (id ∷ ids) c long h =
    elim (one_so c id (is_watched c.channels id) refl (ltb (length c.channels) MAX_CHANNELS) refl) as (λ z. Watched d (id ∷ ids) c) [
      | stays is ↦ one_then d ids id c c is (each_watched d ids c long.1 h)
      | adds less is ↦
          one_then d ids id c (record c { channels = c.channels ++ channel_of id new_lane [] ∷ [] }) is
          (each_watched d ids (record c { channels = c.channels ++ channel_of id new_lane [] ∷ [] }) long.1 (added d c id long.0 less h))
      | none is ↦ no_place (ap (option_and_then (watch_all ids)) is)
    ]
