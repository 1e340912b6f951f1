-- The frame of any value is its value's again.
use Rattle.std.proofs.Common.{◌≡◌, ℕ, zero, suc, ◌≤◌, ◌<◌, List, [], Bool, true, false, refl, sym, arith}
use Rattle.std.specs.Prelude.{ℤ, pos, length, ◌==◌, if◌then◌else◌, slice_index_or}
use Rattle.std.proofs.lemmas.Bool.{eq-eqb}
use Rattle.std.proofs.lemmas.Bool.Decides.{nat_tests}
use Rattle.tl_types.specs.Values.{ValueView, ValueViews, no_values, value}
use Rattle.box_events.specs.Events.{EventView, deleted, read, is_new}
use Rattle.box_events.specs.Views.{HasCount}
use Rattle.box_events.specs.declared.replies.ChannelReply.{ChannelReply}
use Rattle.box_events.specs.declared.replies.Reply.TheVariants as reply
use Rattle.wire_forms.specs.Parts.{at, parts_of, entry_of, word_of, each}
use Rattle.wire_forms.specs.declared.numbers.TheConstants.{UPDATE_NEW_MESSAGE, UPDATE_EDIT_MESSAGE, UPDATE_DELETE_MESSAGES, UPDATE_NEW_ENCRYPTED_MESSAGE, UPDATE_NEW_CHANNEL_MESSAGE, UPDATE_EDIT_CHANNEL_MESSAGE, UPDATE_DELETE_CHANNEL_MESSAGES, UPDATE_CHANNEL_TOO_LONG, UPDATE_READ_HISTORY, UPDATE_READ_CHANNEL_HISTORY, UPDATES_TOO_LONG, UPDATES, DIFFERENCE_EMPTY, DIFFERENCE, CHANNEL_DIFFERENCE_EMPTY, CHANNEL_DIFFERENCE, STATE_REPLY, DIFFERENCE_REPLY, CHANNEL_REPLY, RECEIPT_REPLY, ERROR_REPLY}
use Rattle.wire_forms.proofs.Words.{by_test, clash}
use Rattle.wire_values.specs.Updates.{has_ids, deletion, ids_in, update_at, update_in, other_at, placed_in, setting_in}
use Rattle.wire_values.specs.Others.{others_of, settings_of}
use Rattle.wire_values.specs.Frames.{push_at, difference_at, channel_reply_at, frame_at, frame_in, start_of}
use Rattle.wire_values.specs.CarriedFrames.{IsUpdate, IsOther, IsPush, IsReply, IsFrame}

-- a property of a value, kept together
pub record It {A : Type 0} (P : A → Type 0) (x : A) : Type 0 where
  pub it : P x

pub either : {A : Type 0} (P : A → Type 0) (b : Bool) (x y : A) → It P x → It P y → It P (if b then x else y)
either P true x y p q = p
either P false x y p q = q

pub all_each : {A : Type 0} (P : A → Type 0) (f : ValueView → A) → ((t : ValueView) → P (f t)) → (ts : ValueViews) (k : ℕ) (d : A) → k < length (each f ts) → P (slice_index_or (each f ts) k d)
all_each P f law no_values k d lt = absurd (omega (arith, lt))
all_each P f law (value t ts) zero d lt = law t
all_each P f law (value t ts) (suc n) d lt = all_each P f law ts n d (omega (arith, lt))

-- an event that is no message
abbrev pub IsMark : EventView → Type 0
IsMark e = HasCount e × (is_new e ≡ false)

pub one : (1 ≤ 1) × (1 ≤ 4096)
one = (omega arith, omega arith)

deletion_by : (ids : List ℤ) (b : Bool) → has_ids (length ids) ≡ b → IsMark (if b then deleted ids else read (pos 0))
deletion_by ids true e = ((grind (arith, nat_tests, e), grind (arith, nat_tests, e)), refl)
deletion_by ids false e = (one, refl)

pub deletion_mark : (ids : List ℤ) → IsMark (deletion ids)
deletion_mark ids = deletion_by ids (has_ids (length ids)) refl

update_at_is : (k : ℕ) (ts : ValueViews) → It IsUpdate (update_at k ts)
update_at_is k ts =
    either IsUpdate (k == UPDATE_NEW_MESSAGE) _ _ (record { it = one })
    (either IsUpdate (k == UPDATE_EDIT_MESSAGE) _ _ (record { it = one })
    (either IsUpdate (k == UPDATE_DELETE_MESSAGES) _ _ (record { it = (deletion_mark (ids_in (at 0 ts))).0 })
    (either IsUpdate (k == UPDATE_NEW_ENCRYPTED_MESSAGE) _ _ (record { it = tt })
    (either IsUpdate (k == UPDATE_NEW_CHANNEL_MESSAGE) _ _ (record { it = one })
    (either IsUpdate (k == UPDATE_EDIT_CHANNEL_MESSAGE) _ _ (record { it = one })
    (either IsUpdate (k == UPDATE_DELETE_CHANNEL_MESSAGES) _ _ (record { it = (deletion_mark (ids_in (at 1 ts))).0 })
    (either IsUpdate (k == UPDATE_CHANNEL_TOO_LONG) _ _ (record { it = tt })
    (either IsUpdate (k == UPDATE_READ_HISTORY) _ _ (record { it = one })
    (either IsUpdate (k == UPDATE_READ_CHANNEL_HISTORY) _ _ (record { it = one }) (record { it = tt }))))))))))

update_is : (t : ValueView) → IsUpdate (update_in t)
update_is t = (update_at_is (entry_of t) (parts_of t)).it

other_is : (k : ℕ) (ts : ValueViews) → It IsMark (other_at k ts)
other_is k ts = either IsMark (k == UPDATE_EDIT_MESSAGE) _ _ (record { it = (one, refl) }) (either IsMark (k == UPDATE_DELETE_MESSAGES) _ _ (record { it = deletion_mark (ids_in (at 0 ts)) }) (record { it = (one, refl) }))

placed_is : (t : ValueView) → IsOther (placed_in t)
placed_is t = (other_is (entry_of t) (parts_of t)).it

starts : (start seq : ℕ) → seq ≡ 0 → start_of start seq ≡ 0
starts start seq e = by_test (seq == 0) 0 start (eq-eqb seq 0 e)

push_is : (k : ℕ) (ts : ValueViews) → It IsPush (push_at k ts)
push_is k ts =
    either IsPush (k == UPDATES_TOO_LONG) _ _ (record { it = tt })
    (either IsPush (k == UPDATES) _ _ (record { it = (all_each IsUpdate update_in update_is (parts_of (at 0 ts)), λ e. e) })
    (record { it = (all_each IsUpdate update_in update_is (parts_of (at 0 ts)), starts (word_of (at 2 ts)) (word_of (at 3 ts))) }))

no_last : true ≡ false → {A : Type 0} (x y : A) → x ≡ y
no_last e x y = absurd (clash (sym e))

difference_is : (k : ℕ) (ts : ValueViews) → It IsReply (difference_at k ts)
difference_is k ts =
    either IsReply (k == DIFFERENCE_EMPTY) _ _ (record { it = tt })
    (either IsReply (k == DIFFERENCE) _ _ (record { it = (all_each IsOther placed_in placed_is (others_of (parts_of (at 2 ts))), λ e. no_last e (each setting_in (settings_of (parts_of (at 2 ts)))) []) })
    (record { it = (all_each IsOther placed_in placed_is (parts_of (at 2 ts)), λ e. refl) }))

abbrev IsChannelReply : ChannelReply → Type 0
IsChannelReply c = IsReply (reply.Channel c)

channel_is : (k : ℕ) (ts : ValueViews) → It IsChannelReply (channel_reply_at k ts)
channel_is k ts =
    either IsChannelReply (k == CHANNEL_DIFFERENCE_EMPTY) _ _ (record { it = tt })
    (either IsChannelReply (k == CHANNEL_DIFFERENCE) _ _ (record { it = all_each IsOther placed_in placed_is (parts_of (at 4 ts)) }) (record { it = tt }))

frame_at_is : (k : ℕ) (ts : ValueViews) → It IsFrame (frame_at k ts)
frame_at_is k ts =
    either IsFrame (k == STATE_REPLY) _ _ (record { it = tt })
    (either IsFrame (k == DIFFERENCE_REPLY) _ _ (record { it = (difference_is (entry_of (at 1 ts)) (parts_of (at 1 ts))).it })
    (either IsFrame (k == CHANNEL_REPLY) _ _ (record { it = (channel_is (entry_of (at 1 ts)) (parts_of (at 1 ts))).it })
    (either IsFrame (k == RECEIPT_REPLY) _ _ (record { it = tt })
    (either IsFrame (k == ERROR_REPLY) _ _ (record { it = tt })
    (record { it = (push_is (entry_of (at 0 ts)) (parts_of (at 0 ts))).it })))))

pub frame_is : (t : ValueView) → IsFrame (frame_in t)
frame_is t = (frame_at_is (entry_of t) (parts_of t)).it
