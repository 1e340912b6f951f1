-- Room for updates, one by one.
use Rattle.std.proofs.Common.{◌≡◌, ℕ, suc, ◌+◌, ◌≤◌, ℤ, List, [], ◌∷◌, length, Bool, true, false, cond, int_eq, refl, sym, ap, ◌∙◌, subst, arith}
use Rattle.box_events.specs.Events.{EventView}
use Rattle.box_events.specs.declared.updates.Update.{Update}
use Rattle.box_events.specs.declared.updates.Update.TheVariants.{Common, Secret, Channel, ChannelTooLong, Setting}
use Rattle.pts_machine.specs.Steps.{hear}
use Rattle.channel_box.specs.States.{ChannelState, ChannelView, states, ids_of, is_in, has_id, spare_of}
use Rattle.channel_box.specs.Steps.{at_first, is_watched, heard, heard_by, told_too_long, flagged}
use Rattle.channel_box.specs.Calls.{KeepsRoom, HasRoomFor, updates_for}
use Rattle.channel_box.proofs.Ids.{watched_ids, eq_of, not_eq, not_of}
use Rattle.box_client.specs.Pushes.{settings_in}

ids_cond : (b : Bool) (c d : ChannelState) (cs ds : List ChannelState) → d.id ≡ c.id → ids_of ds ≡ ids_of cs → ids_of (cond b (d ∷ cs) (c ∷ ds)) ≡ ids_of (c ∷ cs)
ids_cond true c d cs ds one rest = ap (λ (k : ℤ). k ∷ ids_of cs) one
ids_cond false c d cs ds one rest = ap (λ (ks : List ℤ). c.id ∷ ks) rest

ids_first : (p : ChannelState → Bool) (f : ChannelState → ChannelState) → ((c : ChannelState) → (f c).id ≡ c.id) → (cs : List ChannelState) → ids_of (at_first p f cs) ≡ ids_of cs
ids_first p f same [] = refl
ids_first p f same (c ∷ cs) = ids_cond (p c) c (f c) cs (at_first p f cs) (same c) (ids_first p f same cs)

watched_by : (cs ds : List ChannelState) (k : ℤ) → ids_of ds ≡ ids_of cs → is_watched ds k ≡ true → is_watched cs k ≡ true
watched_by cs ds k same sure = watched_ids cs k ∙ ap (is_in k) (sym same) ∙ sym (watched_ids ds k) ∙ sure

room_over : (b : Bool) (id k : ℤ) (n old new : ℕ) → int_eq id k ≡ b → cond b (suc n) n ≤ old → (id ≡ k → old ≤ new + 1) → (int_eq k id ≡ false → old ≤ new) → n ≤ new
room_over true id k n old new is le one others = let less = one (eq_of id k is) in omega (arith, le, less)
room_over false id k n old new is le one others = let less = others (not_eq k id (λ e. not_of id k is (sym e))) in omega (arith, le, less)

pub room_pushed : (vs ws : List ChannelView) (id : ℤ) (start end : ℕ) (event : EventView) (pts : ℕ) (us : List Update) → states ws ≡ heard (states vs) id start end event
    → spare_of vs id ≤ spare_of ws id + 1 → ((k : ℤ) → int_eq k id ≡ false → spare_of vs k ≤ spare_of ws k) → HasRoomFor vs (Channel id event pts ∷ us) → HasRoomFor ws us
room_pushed vs ws id start end event pts us step less others room = λ k sure.
    let same : ids_of (states ws) ≡ ids_of (states vs) = ap ids_of step ∙ ids_first (has_id id) (λ c. heard_by c (hear c.lane start end event)) (λ _. refl) (states vs) in
    room_over (int_eq id k) id k (updates_for k us) (spare_of vs k) (spare_of ws k) refl (room k (watched_by (states vs) (states ws) k same sure))
    (λ e. subst (λ (j : ℤ). spare_of vs j ≤ spare_of ws j + 1) e less) (others k)

pub room_flagged : (vs ws : List ChannelView) (id : ℤ) (us : List Update) → states ws ≡ told_too_long (states vs) id → KeepsRoom vs ws → HasRoomFor vs (ChannelTooLong id ∷ us) → HasRoomFor ws us
room_flagged vs ws id us step more room = λ k sure.
    let same : ids_of (states ws) ≡ ids_of (states vs) = ap ids_of step ∙ ids_first (has_id id) flagged (λ _. refl) (states vs) in
    let had = room k (watched_by (states vs) (states ws) k same sure) in let has = more k in omega (arith, had, has)

pub few_settings : (us : List Update) → length (settings_in us) ≤ length us
few_settings [] = omega arith
few_settings (Common event pts ∷ us) = let few = few_settings us in omega (arith, few)
few_settings (Secret body qts ∷ us) = let few = few_settings us in omega (arith, few)
few_settings (Channel id event pts ∷ us) = let few = few_settings us in omega (arith, few)
few_settings (ChannelTooLong id ∷ us) = let few = few_settings us in omega (arith, few)
few_settings (Setting setting ∷ us) = let few = few_settings us in omega (arith, few)
