-- A server to which nothing was posted.
use Rattle.std.proofs.Common.{◌≡◌, ℤ, ◌≤◌, List, [], length, true, sym, ap, ◌∙◌, subst, arith, map as each}
use Rattle.std.proofs.lemmas.List.Elements.{All-nil}
use Rattle.std.specs.Ordering.{int_cmp, nat_cmp}
use Rattle.std.specs.Cmp.Lexicographic.{slice_cmp}
use Rattle.std.specs.FinMap as map
use Rattle.std.specs.List.{All}
use Rattle.std.specs.List.Sorted.{IsStrictlySortedBy}
use Rattle.std.specs.Map.{keys_of}
use Rattle.box_events.specs.declared.positions.Receipt.{Receipt}
use Rattle.box_events.specs.Events.{EventView, is_new}
use Rattle.box_events.specs.BoxViews.{BoxView}
use Rattle.box_events.specs.Views.{HasCount}
use Rattle.box_events.specs.SettingLists.{Dated}
use Rattle.box_server.specs.declared.server.Server.TheInside.{Inside}
use Rattle.box_server.specs.Servers.{ChannelBox, Receipts, new_server}
use Rattle.box_server.specs.Sound.{IsSound, IsSoundChannel, IsSmall}
use Rattle.box_server.specs.inner.Insides.{channel_view, server_view, IsServer}

pub sound_new : IsSound new_server
sound_new = record {
  date = omega arith;
  common = (tt, omega arith);
  secret = (tt, omega arith);
  messages = All-nil (λ (e : EventView). is_new e ≡ true);
  channels = All-nil IsSoundChannel;
  distinct = tt;
  few = omega arith;
  seq = omega arith;
  keys = omega (arith, map.len-empty (slice_cmp nat_cmp) Dated);
  dates = All-nil (λ (e : Dated). e.date ≤ 0);
  rise = λ i j d a b lt. absurd (omega (arith, lt));
  events = record { common = All-nil HasCount; secret = All-nil HasCount; channels = All-nil (λ (c : ChannelBox). All HasCount c.events) };
  sizes = All-nil IsSmall;
}

abbrev no_receipts : Receipts
no_receipts = map.from_sorted []

none_sorted : no_receipts ≡ map.empty
none_sorted = map.empty_of_len no_receipts (map.len-entries no_receipts ∙ ap length (map.entries-from_sorted int_cmp [] tt))

pub view_new : (s : Inside) (none : BoxView) → s.date ≡ 0 → s.common ≡ none → s.secret ≡ none → none.events ≡ [] → s.channels.items ≡ [] → s.settings ≡ [] → s.receipts.entries ≡ [] → server_view s ≡ new_server
view_new s none date common secret empty channels settings receipts =
    let shared : (server_view s).receipts ≡ map.empty = ap (λ (es : List (ℤ × Receipt)). map.from_sorted es) receipts ∙ none_sorted in
    let first = ap (λ (b : BoxView). b.events) common ∙ empty in
    let second = ap (λ (b : BoxView). b.events) secret ∙ empty in
    λ i. record { date = date i; common = first i; secret = second i; channels = each channel_view (channels i); settings = settings i; receipts = shared i }

pub server_new : (s : Inside) → server_view s ≡ new_server → s.common.first ≡ 0 → s.secret.first ≡ 0 → IsStrictlySortedBy int_cmp (keys_of s.receipts.entries) → IsServer s
server_new s view common secret order = record { sound = subst IsSound (sym view) sound_new; common = common; secret = secret; order = order }
