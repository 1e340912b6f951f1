-- What holds of channels stays where their ids do.
use Rattle.std.proofs.Common.{◌≡◌, ℤ, ◌<◌, List, [], ◌∷◌, ◌++◌, length, false, Vec, Global, sym, ap, ◌∙◌, subst, arith}
use Rattle.std.specs.Vec.{with_items}
use Rattle.std.proofs.lemmas.List.{with_items_is, length-append}
use Rattle.box_events.specs.declared.limits.TheConstants.{MAX_CHANNELS}
use Rattle.channel_box.specs.declared.channels.Channels.TheInside.{Inside}
use Rattle.channel_box.specs.States.{ChannelView, states, ids_of, is_in, AreDistinct}
use Rattle.channel_box.specs.Steps.{is_watched}
use Rattle.channel_box.specs.Views.{IsWhole}
use Rattle.channel_box.proofs.Ids.{length_ids, watched_ids, distinct_last, ids_last}

pub whole_of : (a : Inside) (w : Vec ChannelView Global) → IsWhole a → ids_of (states w.items) ≡ ids_of (states a.channels.items) → IsWhole (record { ids = a.ids; channels = w })
whole_of a w h same = record { ids = h.ids ∙ sym same; distinct = h.distinct; few = h.few }

pub whole_with : (a : Inside) (ws : List ChannelView) → IsWhole a → ids_of (states ws) ≡ ids_of (states a.channels.items) → IsWhole (record { ids = a.ids; channels = with_items a.channels ws })
whole_with a ws h same =
    let long : length ws ≡ a.channels.len = omega (arith, length_ids ws, length_ids a.channels.items, ap length same, a.channels.ok.0) in
    whole_of a (with_items a.channels ws) h (ap (λ (l : List ChannelView). ids_of (states l)) (with_items_is a.channels ws long) ∙ same)

pub whole_last : (a b : Inside) (v : ChannelView) (k : ℤ) → IsWhole a → b.ids.items ≡ a.ids.items ++ k ∷ [] → b.channels.items ≡ a.channels.items ++ v ∷ [] → v.state.id ≡ k
    → is_watched (states a.channels.items) k ≡ false → length a.channels.items < MAX_CHANNELS → IsWhole b
whole_last a b v k h ids channels same new few = record {
  ids = ids ∙ ap (λ (l : List ℤ). l ++ k ∷ []) h.ids ∙ ap (λ (j : ℤ). ids_of (states a.channels.items) ++ j ∷ []) (sym same) ∙ sym (ids_last a.channels.items v) ∙ ap (λ (l : List ChannelView). ids_of (states l)) (sym channels);
  distinct = subst AreDistinct (sym ids) (distinct_last a.ids.items k h.distinct (ap (is_in k) h.ids ∙ sym (watched_ids (states a.channels.items) k) ∙ new));
  few = omega (arith, ap length ids, length-append a.ids.items (k ∷ []), ap length h.ids, length_ids a.channels.items, few);
}
