-- A frame's value is one of the type of frames, where its parts have a spelling.
use Rattle.std.proofs.Common.{◌≡◌, ℕ, ◌+◌, ◌<◌, ◌^◌, List, length, Bool, true, false, refl, sym, ap, ◌∙◌, subst, arith}
use Rattle.std.specs.Prelude.{ℤ, ◌==◌, if◌then◌else◌}
use Rattle.std.specs.List.{All}
use Rattle.tl_types.specs.Values.{ValueView, int, text, list, ValueViews, no_values, value, count}
use Rattle.box_events.specs.Events.{EventView, added, edited, deleted, read}
use Rattle.box_events.specs.declared.settings.Setting as settings
use Rattle.box_events.specs.declared.updates.Placed as placed
use Rattle.box_events.specs.declared.updates.Update.{Update}
use Rattle.box_events.specs.declared.updates.Update.TheVariants.{Common, Secret, Channel, ChannelTooLong, Setting}
use Rattle.box_events.specs.declared.updates.Push.{Push}
use Rattle.box_events.specs.declared.updates.Push.TheVariants as push
use Rattle.box_events.specs.declared.positions.State as states
use Rattle.box_events.specs.declared.positions.Receipt as receipts
use Rattle.box_events.specs.declared.replies.ChannelReply.{ChannelReply}
use Rattle.box_events.specs.declared.replies.ChannelReply.TheVariants as channel
use Rattle.box_events.specs.declared.replies.Reply.{Reply}
use Rattle.box_events.specs.declared.replies.Reply.TheVariants as reply
use Rattle.box_events.specs.declared.replies.Frame.{Frame}
use Rattle.box_events.specs.declared.replies.Frame.TheVariants as frame
use Rattle.wire_forms.specs.declared.form.Cell.{Cell}
use Rattle.wire_forms.specs.declared.form.Cell.TheVariants.{Signed, Body, Ids, Bodies, Flags, Many, One, Bare}
use Rattle.wire_forms.specs.declared.numbers.TheConstants.{UPDATE_TYPE, UPDATES_TYPE, STATE_TYPE, DIFFERENCE_TYPE, CHANNEL_DIFFERENCE_TYPE, FRAME_TYPE, STATE, RECEIPT}
use Rattle.wire_forms.specs.Forms.{forms}
use Rattle.wire_forms.specs.Parts.{flag, held, row, is_final}
use Rattle.wire_forms.specs.IsOf.{IsInt, IsText, IsShort, IsOf, EachOf}
use Rattle.wire_forms.proofs.Words.{number_is}
use Rattle.wire_forms.proofs.Records.{row_is, row_short, count_row}
use Rattle.wire_values.specs.Updates.{common_tree, update_tree, placed_tree, setting_tree}
use Rattle.wire_values.specs.Others.{joined}
use Rattle.wire_values.specs.Frames.{push_tree, state_tree, receipt_tree, bodies_tree, difference_tree, bits, channel_reply_tree, reply_tree, frame_tree}
use Rattle.wire_values.specs.CarriedFrames.{IsWord, IsList, FitsEvent, FitsSetting, FitsUpdate, FitsPlaced, FitsPush, FitsState, FitsReceipt, FitsChannelReply, FitsReply, FitsFrame}
use Rattle.wire_values.proofs.BackFrames.{last_back}

-- ---- lists

pub list_fits : {A : Type 0} (P : A → Type 0) (c : Cell) (g : A → ValueView) → ((x : A) → P x → IsOf c (g x)) → (xs : List A) → IsList P xs → IsShort (row g xs) × EachOf c (row g xs)
list_fits P c g law xs s = (row_short g xs s.0, row_is P c g law xs s.1)

pub ids_fit : (ids : List ℤ) → IsList IsInt ids → IsOf Ids (list (row int ids))
ids_fit ids s = list_fits IsInt Signed int (λ z i. i) ids s

pub bodies_fit : (bodies : List (List ℕ)) → IsList IsText bodies → IsOf Bodies (bodies_tree bodies)
bodies_fit bodies s = list_fits IsText Body text (λ b i. i) bodies s

held_word : (n : ℕ) → held n < 2 ^ 32
held_word n = omega arith

-- ---- updates

common_fits : (e : EventView) (pts : ℕ) → FitsEvent e → IsWord pts → IsOf (One UPDATE_TYPE) (common_tree e pts)
unfolding forms
common_fits (added body) pts s n = (refl, (s, (number_is pts n, (number_is 1 (omega arith), tt))))
common_fits (edited body) pts s n = (refl, (s, (number_is pts n, (number_is 1 (omega arith), tt))))
common_fits (deleted ids) pts s n = (refl, (ids_fit ids s, (number_is pts n, (number_is (held (length ids)) (held_word (length ids)), tt))))
common_fits (read z) pts s n = (refl, (s, (number_is pts n, (number_is 1 (omega arith), tt))))

update_fits : (u : Update) → FitsUpdate u → IsOf (One UPDATE_TYPE) (update_tree u)
unfolding forms
update_fits (Common e pts) s = common_fits e pts s.0 s.1
update_fits (Secret body qts) s = (refl, (s.0, (number_is qts s.1, tt)))
update_fits (Channel id (added body) pts) s = (refl, (s.0, (s.1, (number_is pts s.2, (number_is 1 (omega arith), tt)))))
update_fits (Channel id (edited body) pts) s = (refl, (s.0, (s.1, (number_is pts s.2, (number_is 1 (omega arith), tt)))))
update_fits (Channel id (deleted ids) pts) s = (refl, (s.0, (ids_fit ids s.1, (number_is pts s.2, (number_is (held (length ids)) (held_word (length ids)), tt)))))
update_fits (Channel id (read z) pts) s = (refl, (s.0, (s.1, (number_is pts s.2, (number_is 1 (omega arith), tt)))))
update_fits (ChannelTooLong id) s = (refl, (s, tt))
update_fits (Setting x) s = (refl, (s.0, (s.1, tt)))

setting_fits : (x : settings.Setting) → FitsSetting x → IsOf (One UPDATE_TYPE) (setting_tree x)
unfolding forms
setting_fits x s = (refl, (s.0, (s.1, tt)))

placed_fits : (p : placed.Placed) → FitsPlaced p → IsOf (One UPDATE_TYPE) (placed_tree p)
placed_fits p s = common_fits p.event p.pts s.0 s.1

-- ---- pushes

by_either : (P : ValueView → Type 0) (b : Bool) (x y : ValueView) → P x → P y → P (if b then x else y)
by_either P true x y p q = p
by_either P false x y p q = q

push_fits : (p : Push) → FitsPush p → IsOf (One UPDATES_TYPE) (push_tree p)
unfolding forms
push_fits push.TooLong s = (refl, tt)
push_fits (push.Container us date start seq) s =
    let all = list_fits FitsUpdate (One UPDATE_TYPE) update_tree update_fits us s.0 in
    by_either (IsOf (One UPDATES_TYPE)) (start == seq) _ _
    (refl, (all, (number_is date s.1, (number_is seq s.3, tt))))
    (refl, (all, (number_is date s.1, (number_is start s.2, (number_is seq s.3, tt)))))

-- ---- replies

bare_state_fits : (x : states.State) → FitsState x → IsOf (Bare STATE) (state_tree x)
unfolding forms
bare_state_fits x s = (refl, (number_is x.pts s.0, (number_is x.qts s.1, (number_is x.date s.2, (number_is x.seq s.3, tt)))))

state_fits : (x : states.State) → FitsState x → IsOf (One STATE_TYPE) (state_tree x)
unfolding forms
state_fits x s = (refl, (number_is x.pts s.0, (number_is x.qts s.1, (number_is x.date s.2, (number_is x.seq s.3, tt)))))

pub receipt_fits : (x : receipts.Receipt) → FitsReceipt x → IsOf (Bare RECEIPT) (receipt_tree x)
unfolding forms
receipt_fits x s = (refl, (number_is x.pts s.0, (number_is x.qts s.1, (number_is x.date s.2, (number_is x.seq s.3, tt)))))

each_joined : (c : Cell) (ts us : ValueViews) → EachOf c ts → EachOf c us → EachOf c (joined ts us)
each_joined c no_values us s u = u
each_joined c (value t ts) us s u = (s.0, each_joined c ts us s.1 u)

count_joined : (ts us : ValueViews) → count (joined ts us) ≡ count ts + count us
count_joined no_values us = omega arith
count_joined (value t ts) us = let e = count_joined ts us in omega (arith, e)

others_fit : (others : List placed.Placed) (ss : List settings.Setting) → All FitsPlaced others → All FitsSetting ss → length others + length ss < 2 ^ 31 → IsOf (Many UPDATE_TYPE) (list (joined (row placed_tree others) (row setting_tree ss)))
others_fit others ss p q few =
    let many : count (joined (row placed_tree others) (row setting_tree ss)) ≡ length others + length ss = count_joined (row placed_tree others) (row setting_tree ss) ∙ ap (λ (n : ℕ). n + count (row setting_tree ss)) (count_row placed_tree others) ∙ ap (λ (n : ℕ). length others + n) (count_row setting_tree ss) in (
      subst (λ (n : ℕ). n < 2 ^ 31) (sym many) few,
      each_joined (One UPDATE_TYPE) (row placed_tree others) (row setting_tree ss) (row_is FitsPlaced (One UPDATE_TYPE) placed_tree placed_fits others p) (row_is FitsSetting (One UPDATE_TYPE) setting_tree setting_fits ss q),
    )

difference_fits : (news secrets : List (List ℕ)) (others : List placed.Placed) (ss : List settings.Setting) (x : states.State) (last : Bool) → FitsReply (reply.Difference news secrets others ss x last) → IsOf (One DIFFERENCE_TYPE) (difference_tree news secrets others ss x last)
unfolding forms
difference_fits news secrets others ss x true s = (refl, (bodies_fit news s.0, (bodies_fit secrets s.1, (others_fit others ss s.2 s.3 s.4, (state_fits x s.5, tt)))))
difference_fits news secrets others ss x false s = (refl, (bodies_fit news s.0, (bodies_fit secrets s.1, (others_fit others ss s.2 s.3 s.4, (state_fits x s.5, tt)))))

bits_fit : (last : Bool) → IsOf Flags (bits last)
bits_fit true = omega arith
bits_fit false = omega arith

flag_fits : (last : Bool) → flag last ≡ flag (is_final (bits last))
flag_fits last = ap flag (sym (last_back last))

channel_fits : (c : ChannelReply) → FitsChannelReply c → IsOf (One CHANNEL_DIFFERENCE_TYPE) (channel_reply_tree c)
unfolding forms
channel_fits (channel.Empty pts last) s = (refl, (bits_fit last, (flag_fits last, (number_is pts s, tt))))
channel_fits (channel.Part pts news others last) s =
    (refl, (bits_fit last, (flag_fits last, (number_is pts s.0, (bodies_fit news s.1, (list_fits FitsPlaced (One UPDATE_TYPE) placed_tree placed_fits others s.2, tt))))))
channel_fits (channel.TooLong pts recent last) s = (refl, (bits_fit last, (flag_fits last, (number_is pts s.0, (bodies_fit recent s.1, tt)))))

reply_fits : (n : ℕ) (r : Reply) → IsWord n → FitsReply r → IsOf (One FRAME_TYPE) (reply_tree n r)
unfolding forms
reply_fits n (reply.State x) is s = (refl, (number_is n is, (bare_state_fits x s, tt)))
reply_fits n (reply.Empty date seq) is s = (refl, (number_is n is, ((refl, (number_is date s.0, (number_is seq s.1, tt))), tt)))
reply_fits n (reply.Difference news secrets others ss x last) is s = (refl, (number_is n is, (difference_fits news secrets others ss x last s, tt)))
reply_fits n (reply.Channel c) is s = (refl, (number_is n is, (channel_fits c s, tt)))
reply_fits n (reply.Receipt x) is s = (refl, (number_is n is, (receipt_fits x s, tt)))
reply_fits n (reply.Error code message) is s = (refl, (number_is n is, (s.0, (s.1, tt))))

pub frame_fits : (m : Frame) → FitsFrame m → IsOf (One FRAME_TYPE) (frame_tree m)
unfolding forms
frame_fits (frame.Push p) s = (refl, (push_fits p s, tt))
frame_fits (frame.Reply n r) s = reply_fits n r s.0 s.1
