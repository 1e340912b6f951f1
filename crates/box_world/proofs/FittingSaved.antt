-- What is saved of a client whose parts have a spelling has one, and a client that is loaded of such has such parts.
use Rattle.std.proofs.Common.{◌≡◌, ℕ, ◌<◌, ◌^◌, List, [], ◌∷◌, length, map as each, cond, Bool, true, false, Option, Some, None, refl, sym, subst, arith}
use Rattle.std.specs.List.{All}
use Rattle.std.specs.FinMap.{entries, entries-from_sorted, len, len-entries}
use Rattle.std.proofs.lemmas.List.{length-map}
use Rattle.std.proofs.lemmas.List.Elements.{All-nil, All-cons, All-head, All-tail}
use Rattle.box_events.specs.Events.{EventView, count_of}
use Rattle.box_events.specs.SettingLists.{Values}
use Rattle.box_events.specs.declared.positions.LaneName.{LaneName}
use Rattle.box_events.specs.declared.settings.Setting.{Setting}
use Rattle.box_events.specs.declared.saved.Saved.{Saved}
use Rattle.box_events.specs.declared.saved.SavedLane.{SavedLane}
use Rattle.box_events.specs.declared.saved.SavedChannel.{SavedChannel}
use Rattle.pts_machine.specs.States.{LaneState}
use Rattle.pts_machine.specs.Steps.{loaded}
use Rattle.pts_machine.specs.Rows.{pairs, values_of}
use Rattle.channel_box.specs.States.{ChannelState}
use Rattle.box_server.proofs.LastLists.{order}
use Rattle.box_client.specs.Saving.{LoadCause, lane_saved, channel_saved, setting_of, settings_saved, load_cause, is_next, uneven_lane, unsorted, surplus_after, or_lane, or_settings, or_channels, channel_loaded, bad_next}
use Rattle.box_client.proofs.Orders.{sorted_of}
use Rattle.wire_values.specs.Carried.{FitsLane, FitsSavedChannel}
use Rattle.wire_values.specs.CarriedFrames.{FitsEvent, FitsSetting}
use Rattle.box_world.specs.Spelled.{HoldsAll, FitsChannel, IsNarrowLane}
use Rattle.box_world.specs.FrameLaws.{ClientsAreSaved, LoadedHaveSpellings}
use Rattle.box_world.proofs.FittingClients.{FitsEntry, held_empty, none_held}

-- ---- saved

lane_fits : (t : LaneState EventView) → HoldsAll FitsEvent t → IsNarrowLane t → FitsLane (lane_saved t)
lane_fits t h n = (n.restart, n.at, (n.events, h.events))

channels_fit : (cs : List ChannelState) → All FitsChannel cs → All (λ d. IsNarrowLane d.lane) cs → All FitsSavedChannel (each channel_saved cs)
channels_fit [] all narrow = All-nil FitsSavedChannel
channels_fit (c ∷ cs) all narrow =
    let one : FitsChannel c = All-head FitsChannel c cs all in
    let lane : IsNarrowLane c.lane = All-head (λ (d : ChannelState). IsNarrowLane d.lane) c cs narrow in
    All-cons FitsSavedChannel (channel_saved c) (each channel_saved cs) (one.id, lane_fits c.lane one.lane lane, one.recent) (channels_fit cs (All-tail FitsChannel c cs all) (All-tail (λ (d : ChannelState). IsNarrowLane d.lane) c cs narrow))

settings_fit : (es : List (List ℕ × List ℕ)) → All FitsEntry es → All FitsSetting (each setting_of es)
settings_fit [] all = All-nil FitsSetting
settings_fit (e ∷ es) all = All-cons FitsSetting (setting_of e) (each setting_of es) (All-head FitsEntry e es all) (settings_fit es (All-tail FitsEntry e es all))

few_settings : (table : Values) → len table < 2 ^ 31 → length (settings_saved table) < 2 ^ 31
few_settings table few =
    let all = length-map (entries table) setting_of in
    let many = len-entries table in
    omega (arith, few, all, many)

pub clients_are_saved : ClientsAreSaved
clients_are_saved c h n =
    let few = n.channels in
    let all = length-map c.channels channel_saved in (
      n.next,
      lane_fits c.common h.common n.common,
      lane_fits c.secret h.secret n.secret,
      n.date,
      n.seq,
      (few_settings c.settings.table n.settings, settings_fit (entries c.settings.table) h.settings.table),
      (omega (arith, few, all), channels_fit c.channels h.channels n.lanes),
    )

-- ---- loaded

lane_loads : (l : SavedLane) → FitsLane l → HoldsAll FitsEvent (loaded count_of l.restart l.events)
lane_loads l f = record { events = f.2.1; held = held_empty FitsEvent }

channels_load : (cs : List SavedChannel) → All FitsSavedChannel cs → All FitsChannel (each channel_loaded cs)
channels_load [] all = All-nil FitsChannel
channels_load (c ∷ cs) all =
    let one : FitsSavedChannel c = All-head FitsSavedChannel c cs all in
    All-cons FitsChannel (channel_loaded c) (each channel_loaded cs) (record { id = one.0; lane = lane_loads c.lane one.1; recent = one.2 }) (channels_load cs (All-tail FitsSavedChannel c cs all))

pairs_fit : (xs : List Setting) → All FitsSetting xs → All FitsEntry (pairs xs)
pairs_fit [] all = All-nil FitsEntry
pairs_fit (x ∷ xs) all = All-cons FitsEntry (x.key, x.value) (pairs xs) (All-head FitsSetting x xs all) (pairs_fit xs (All-tail FitsSetting x xs all))

sorted_by : (b : Bool) (lane : Option LaneName) (place : Option ℕ) (o : Option LoadCause) (next : ℕ) → cond b (or_lane lane (or_settings place o)) (Some (bad_next next)) ≡ None → place ≡ None
sorted_by true None None o next e = refl
sorted_by true None (Some i) o next e = absurd cc
sorted_by true (Some lane) place o next e = absurd cc
sorted_by false lane place o next e = absurd cc

in_order : (s : Saved) → load_cause s ≡ None → unsorted s.settings ≡ None
unfolding load_cause
in_order s none = sorted_by (is_next s.next) (uneven_lane s) (unsorted s.settings) (or_channels (surplus_after [] s.channels)) s.next none

pub loaded_have : LoadedHaveSpellings
loaded_have s f none =
    let same : entries (values_of s.settings) ≡ pairs s.settings = entries-from_sorted order (pairs s.settings) (sorted_of s.settings (in_order s none)) in
    record {
      common = lane_loads s.common f.1;
      secret = lane_loads s.secret f.2;
      settings = record { table = subst (All FitsEntry) (sym same) (pairs_fit s.settings f.5.1); held = none_held };
      channels = channels_load s.channels f.6.1;
    }
