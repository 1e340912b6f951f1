-- Messages that are read have parts with a spelling.
use Rattle.std.specs.Prelude.{◌==◌, not, pos, if◌then◌else◌}
use Rattle.std.proofs.Common.{◌≡◌, ℕ, suc, ◌+◌, length, Bool, true, false, refl, arith}
use Rattle.std.proofs.lemmas.List.Elements.{All-nil}
use Rattle.tl_types.specs.Values.{ValueView, ValueViews, no_values, value, count}
use Rattle.box_events.specs.Events.{deleted, read}
use Rattle.box_events.specs.declared.updates.Push.TheVariants as push
use Rattle.box_events.specs.declared.replies.ChannelReply.TheVariants as channel
use Rattle.box_events.specs.declared.requests.Request.TheVariants as request
use Rattle.box_events.specs.declared.steps.Step.TheVariants as step
use Rattle.wire_forms.specs.Parts.{at, parts_of, entry_of, text_of, int_of, word_of, is_final, each}
use Rattle.wire_forms.specs.declared.numbers.TheConstants.{UPDATE_NEW_MESSAGE, UPDATE_EDIT_MESSAGE, UPDATE_DELETE_MESSAGES, UPDATE_NEW_ENCRYPTED_MESSAGE, UPDATE_NEW_CHANNEL_MESSAGE, UPDATE_EDIT_CHANNEL_MESSAGE, UPDATE_DELETE_CHANNEL_MESSAGES, UPDATE_CHANNEL_TOO_LONG, UPDATE_READ_HISTORY, UPDATE_READ_CHANNEL_HISTORY, UPDATES_TOO_LONG, UPDATES, DIFFERENCE_EMPTY, DIFFERENCE, CHANNEL_DIFFERENCE_EMPTY, CHANNEL_DIFFERENCE, STATE_REPLY, DIFFERENCE_REPLY, CHANNEL_REPLY, RECEIPT_REPLY, ERROR_REPLY, POST_MESSAGE, POST_EDIT, POST_DELETE, POST_SECRET, POST_CHANNEL_MESSAGE, POST_CHANNEL_EDIT, POST_CHANNEL_DELETE, POST_SETTING, POST_READ, GET_STATE, GET_DIFFERENCE, GET_CHANNEL_DIFFERENCE, STEP_POST, STEP_DATE, STEP_SERVE, STEP_HEAR, STEP_TICK, STEP_WAKE, STEP_WATCH, STEP_RESTART, STEP_TOO_LONG, EVENT_NEW, EVENT_EDIT, EVENT_DELETE}
use Rattle.wire_forms.specs.IsOf.{IsInt, IsText}
use Rattle.wire_forms.proofs.Records.{length_each}
use Rattle.wire_values.specs.Updates.{update_at, update_in, other_at, placed_in, setting_in, has_ids, deletion, ids_in}
use Rattle.wire_values.specs.Others.{is_setting, kept, others_of, settings_of}
use Rattle.wire_values.specs.Frames.{push_at, start_of, state_at, bodies_in, difference_at, channel_reply_at, frame_at, frame_in}
use Rattle.wire_values.specs.Posts.{post_at, post_in}
use Rattle.wire_values.specs.Calls.{request_at, call_in}
use Rattle.wire_values.specs.Steps.{step_at, step_in}
use Rattle.wire_values.specs.SavedClients.{event_at, event_in, lane_at, saved_channel_in, saved_in}
use Rattle.wire_values.specs.CarriedFrames.{IsWord, IsList, FitsEvent, FitsSetting, FitsUpdate, FitsPlaced, FitsPush, FitsState, FitsChannelReply, FitsReply, FitsFrame}
use Rattle.wire_values.specs.Carried.{FitsPost, FitsStep, FitsRequest, FitsCall, FitsLane, FitsSavedChannel, FitsSaved}
use Rattle.box_world.proofs.PartsFit.{Fits, AllFit, int_fits, long_fits, text_fits, word_fits, parts_fit, parts_short, at_fits, each_fit, list_fits, either}

module _ (ts : ValueViews) (f : AllFit ts) where
  text_at : (i : ℕ) → IsText (text_of (at i ts))
  text_at i = text_fits (at i ts) (at_fits i ts f)

  word_at : (i : ℕ) → IsWord (word_of (at i ts))
  word_at i = word_fits (at i ts) (at_fits i ts f)

  ids_at : (i : ℕ) → IsList IsInt (ids_in (at i ts))
  ids_at i = list_fits IsInt int_of int_fits (at i ts) (at_fits i ts f)

  bodies_at : (i : ℕ) → IsList IsText (bodies_in (at i ts))
  bodies_at i = list_fits IsText text_of text_fits (at i ts) (at_fits i ts f)

  deletion_at : (i : ℕ) → FitsEvent (deletion (ids_in (at i ts)))
  deletion_at i = either FitsEvent (has_ids (length (ids_in (at i ts)))) (deleted (ids_in (at i ts))) (read (pos 0)) (ids_at i) (0, omega arith, refl)

  -- ---- updates

  update_fits : (k : ℕ) → FitsUpdate (update_at k ts)
  update_fits k =
      let long = λ (i : ℕ). long_fits (at i ts) (at_fits i ts f) in
      let signed = λ (i : ℕ). int_fits (at i ts) (at_fits i ts f) in
      either FitsUpdate (k == UPDATE_NEW_MESSAGE) _ _ (text_at 0, word_at 1)
      (either FitsUpdate (k == UPDATE_EDIT_MESSAGE) _ _ (text_at 0, word_at 1)
      (either FitsUpdate (k == UPDATE_DELETE_MESSAGES) _ _ (deletion_at 0, word_at 1)
      (either FitsUpdate (k == UPDATE_NEW_ENCRYPTED_MESSAGE) _ _ (text_at 0, word_at 1)
      (either FitsUpdate (k == UPDATE_NEW_CHANNEL_MESSAGE) _ _ (long 0, text_at 1, word_at 2)
      (either FitsUpdate (k == UPDATE_EDIT_CHANNEL_MESSAGE) _ _ (long 0, text_at 1, word_at 2)
      (either FitsUpdate (k == UPDATE_DELETE_CHANNEL_MESSAGES) _ _ (long 0, deletion_at 1, word_at 2)
      (either FitsUpdate (k == UPDATE_CHANNEL_TOO_LONG) _ _ (long 0)
      (either FitsUpdate (k == UPDATE_READ_HISTORY) _ _ (signed 0, word_at 1)
      (either FitsUpdate (k == UPDATE_READ_CHANNEL_HISTORY) _ _ (long 0, signed 1, word_at 2) (text_at 0, text_at 1))))))))))

  other_fits : (k : ℕ) → FitsEvent (other_at k ts)
  other_fits k = either FitsEvent (k == UPDATE_EDIT_MESSAGE) _ _ (text_at 0) (either FitsEvent (k == UPDATE_DELETE_MESSAGES) _ _ (deletion_at 0) (int_fits (at 0 ts) (at_fits 0 ts f)))

update_in_fits : (t : ValueView) → Fits t → FitsUpdate (update_in t)
update_in_fits t f = update_fits (parts_of t) (parts_fit t f) (entry_of t)

placed_in_fits : (t : ValueView) → Fits t → FitsPlaced (placed_in t)
placed_in_fits t f = (other_fits (parts_of t) (parts_fit t f) (entry_of t), word_at (parts_of t) (parts_fit t f) 1)

setting_in_fits : (t : ValueView) → Fits t → FitsSetting (setting_in t)
setting_in_fits t f = (text_at (parts_of t) (parts_fit t f) 0, text_at (parts_of t) (parts_fit t f) 1)

-- ---- frames

updates_fit : (t : ValueView) → Fits t → IsList FitsUpdate (each update_in (parts_of t))
updates_fit t f = list_fits FitsUpdate update_in update_in_fits t f

start_fits : (start seq : ℕ) → IsWord start → IsWord (start_of start seq)
start_fits start seq f = either IsWord (seq == 0) 0 start (omega arith) f

push_fits : (k : ℕ) (ts : ValueViews) → AllFit ts → FitsPush (push_at k ts)
push_fits k ts f =
    let us = updates_fit (at 0 ts) (at_fits 0 ts f) in
    either FitsPush (k == UPDATES_TOO_LONG) push.TooLong _ tt
    (either FitsPush (k == UPDATES) _ _ (us, word_at ts f 1, word_at ts f 2, word_at ts f 2) (us, word_at ts f 1, start_fits (word_of (at 2 ts)) (word_of (at 3 ts)) (word_at ts f 2), word_at ts f 3))

state_fits : (ts : ValueViews) → AllFit ts → FitsState (state_at ts)
state_fits ts f = (word_at ts f 0, word_at ts f 1, word_at ts f 2, word_at ts f 3)

kept_step : (b : Bool) (t : ValueView) (us : ValueViews) → Fits t → AllFit us → AllFit (if b then value t us else us)
kept_step true t us f fs = (f, fs)
kept_step false t us f fs = fs

kept_fit : (keep : ValueView → Bool) (ts : ValueViews) → AllFit ts → AllFit (kept keep ts)
kept_fit keep no_values f = tt
kept_fit keep (value t ts) f = kept_step (keep t) t (kept keep ts) f.0 (kept_fit keep ts f.1)

split_step : (b : Bool) (t : ValueView) (us vs : ValueViews) (n : ℕ) → count us + count vs ≡ n → count (if not b then value t us else us) + count (if b then value t vs else vs) ≡ suc n
split_step true t us vs n e = omega (arith, e)
split_step false t us vs n e = omega (arith, e)

-- each is one of the two
split_count : (ts : ValueViews) → count (others_of ts) + count (settings_of ts) ≡ count ts
split_count no_values = refl
split_count (value t ts) = split_step (is_setting t) t (others_of ts) (settings_of ts) (count ts) (split_count ts)

difference_fits : (k : ℕ) (ts : ValueViews) → AllFit ts → FitsReply (difference_at k ts)
difference_fits k ts f =
    let us : ValueViews = parts_of (at 2 ts) in
    let here : Fits (at 2 ts) = at_fits 2 ts f in
    let fits : AllFit us = parts_fit (at 2 ts) here in
    let short = parts_short (at 2 ts) here in
    let state : FitsState (state_at (parts_of (at 3 ts))) = state_fits (parts_of (at 3 ts)) (parts_fit (at 3 ts) (at_fits 3 ts f)) in
    let all = split_count us in
    let a = length_each placed_in (others_of us) in
    let b = length_each setting_in (settings_of us) in
    let c = length_each placed_in us in
    either FitsReply (k == DIFFERENCE_EMPTY) _ _ (word_at ts f 0, word_at ts f 1)
    (either FitsReply (k == DIFFERENCE) _ _
    (bodies_at ts f 0, bodies_at ts f 1, each_fit FitsPlaced placed_in placed_in_fits (others_of us) (kept_fit (λ t. not (is_setting t)) us fits), each_fit FitsSetting setting_in setting_in_fits (settings_of us) (kept_fit is_setting us fits), omega (arith, short, all, a, b), state)
    (bodies_at ts f 0, bodies_at ts f 1, each_fit FitsPlaced placed_in placed_in_fits us fits, All-nil FitsSetting, omega (arith, short, c), state))

channel_fits : (k : ℕ) (ts : ValueViews) → AllFit ts → FitsChannelReply (channel_reply_at k ts)
channel_fits k ts f =
    let others = list_fits FitsPlaced placed_in placed_in_fits (at 4 ts) (at_fits 4 ts f) in
    either FitsChannelReply (k == CHANNEL_DIFFERENCE_EMPTY) (channel.Empty _ (is_final (at 0 ts))) _ (word_at ts f 2)
    (either FitsChannelReply (k == CHANNEL_DIFFERENCE) (channel.Part _ _ _ (is_final (at 0 ts))) (channel.TooLong _ _ (is_final (at 0 ts))) (word_at ts f 2, bodies_at ts f 3, others) (word_at ts f 2, bodies_at ts f 3))

frame_fits_at : (k : ℕ) (ts : ValueViews) → AllFit ts → FitsFrame (frame_at k ts)
frame_fits_at k ts f =
    let n = word_at ts f 0 in
    let inner : AllFit (parts_of (at 1 ts)) = parts_fit (at 1 ts) (at_fits 1 ts f) in
    either FitsFrame (k == STATE_REPLY) _ _ (n, state_fits (parts_of (at 1 ts)) inner)
    (either FitsFrame (k == DIFFERENCE_REPLY) _ _ (n, difference_fits (entry_of (at 1 ts)) (parts_of (at 1 ts)) inner)
    (either FitsFrame (k == CHANNEL_REPLY) _ _ (n, channel_fits (entry_of (at 1 ts)) (parts_of (at 1 ts)) inner)
    (either FitsFrame (k == RECEIPT_REPLY) _ _ (n, state_fits (parts_of (at 1 ts)) inner)
    (either FitsFrame (k == ERROR_REPLY) _ _ (n, (int_fits (at 1 ts) (at_fits 1 ts f), text_at ts f 2)) (push_fits (entry_of (at 0 ts)) (parts_of (at 0 ts)) (parts_fit (at 0 ts) (at_fits 0 ts f)))))))

pub frame_in_fits : (t : ValueView) → Fits t → FitsFrame (frame_in t)
frame_in_fits t f = frame_fits_at (entry_of t) (parts_of t) (parts_fit t f)

-- ---- posts, calls and steps

post_fits : (k : ℕ) (ts : ValueViews) → AllFit ts → FitsPost (post_at k ts)
post_fits k ts f =
    let long = long_fits (at 0 ts) (at_fits 0 ts f) in
    let signed = λ (i : ℕ). int_fits (at i ts) (at_fits i ts f) in
    either FitsPost (k == POST_MESSAGE) _ _ (text_at ts f 0)
    (either FitsPost (k == POST_EDIT) _ _ (text_at ts f 0)
    (either FitsPost (k == POST_DELETE) _ _ (ids_at ts f 0)
    (either FitsPost (k == POST_SECRET) _ _ (text_at ts f 0)
    (either FitsPost (k == POST_CHANNEL_MESSAGE) _ _ (long, text_at ts f 1)
    (either FitsPost (k == POST_CHANNEL_EDIT) _ _ (long, text_at ts f 1)
    (either FitsPost (k == POST_CHANNEL_DELETE) _ _ (long, ids_at ts f 1)
    (either FitsPost (k == POST_SETTING) _ _ (text_at ts f 0, text_at ts f 1)
    (either FitsPost (k == POST_READ) _ _ (signed 0) (long, signed 1)))))))))

post_in_fits : (t : ValueView) → Fits t → FitsPost (post_in t)
post_in_fits t f = post_fits (entry_of t) (parts_of t) (parts_fit t f)

request_fits : (k : ℕ) (ts : ValueViews) → AllFit ts → FitsRequest (request_at k ts)
request_fits k ts f =
    let long = long_fits (at 0 ts) (at_fits 0 ts f) in
    let signed = λ (i : ℕ). int_fits (at i ts) (at_fits i ts f) in
    either FitsRequest (k == GET_STATE) request.State _ tt
    (either FitsRequest (k == GET_DIFFERENCE) _ _ (signed 0, signed 1, word_at ts f 2)
    (either FitsRequest (k == GET_CHANNEL_DIFFERENCE) _ _ (long, signed 1) (long, list_fits FitsPost post_in post_in_fits (at 1 ts) (at_fits 1 ts f))))

pub call_in_fits : (t : ValueView) → Fits t → FitsCall (call_in t)
call_in_fits t f =
    let ts : ValueViews = parts_of t in
    let fs : AllFit ts = parts_fit t f in
    (word_at ts fs 0, request_fits (entry_of (at 1 ts)) (parts_of (at 1 ts)) (parts_fit (at 1 ts) (at_fits 1 ts fs)))

step_fits : (k : ℕ) (ts : ValueViews) → AllFit ts → FitsStep (step_at k ts)
step_fits k ts f =
    let long = λ (i : ℕ). long_fits (at i ts) (at_fits i ts f) in
    either FitsStep (k == STEP_POST) _ _ (long 0, list_fits FitsPost post_in post_in_fits (at 1 ts) (at_fits 1 ts f))
    (either FitsStep (k == STEP_DATE) _ _ (word_at ts f 0)
    (either FitsStep (k == STEP_SERVE) _ _ (word_at ts f 0)
    (either FitsStep (k == STEP_HEAR) _ _ (word_at ts f 0, word_at ts f 1)
    (either FitsStep (k == STEP_TICK) _ _ (word_at ts f 0)
    (either FitsStep (k == STEP_WAKE) _ _ (word_at ts f 0)
    (either FitsStep (k == STEP_WATCH) _ _ (word_at ts f 0, long 1)
    (either FitsStep (k == STEP_RESTART) _ _ (word_at ts f 0) (either FitsStep (k == STEP_TOO_LONG) step.TooLong _ tt (long 0)))))))))

pub step_in_fits : (t : ValueView) → Fits t → FitsStep (step_in t)
step_in_fits t f = step_fits (entry_of t) (parts_of t) (parts_fit t f)

-- ---- saved clients

event_fits : (k : ℕ) (ts : ValueViews) → AllFit ts → FitsEvent (event_at k ts)
event_fits k ts f = either FitsEvent (k == EVENT_NEW) _ _ (text_at ts f 0) (either FitsEvent (k == EVENT_EDIT) _ _ (text_at ts f 0) (either FitsEvent (k == EVENT_DELETE) _ _ (deletion_at ts f 0) (int_fits (at 0 ts) (at_fits 0 ts f))))

event_in_fits : (t : ValueView) → Fits t → FitsEvent (event_in t)
event_in_fits t f = event_fits (entry_of t) (parts_of t) (parts_fit t f)

lane_fits : (ts : ValueViews) → AllFit ts → FitsLane (lane_at ts)
lane_fits ts f = (word_at ts f 0, word_at ts f 1, list_fits FitsEvent event_in event_in_fits (at 2 ts) (at_fits 2 ts f))

saved_channel_fits : (t : ValueView) → Fits t → FitsSavedChannel (saved_channel_in t)
saved_channel_fits t f =
    let ts : ValueViews = parts_of t in
    let fs : AllFit ts = parts_fit t f in
    (long_fits (at 0 ts) (at_fits 0 ts fs), lane_fits (parts_of (at 1 ts)) (parts_fit (at 1 ts) (at_fits 1 ts fs)), bodies_at ts fs 2)

pub saved_in_fits : (t : ValueView) → Fits t → FitsSaved (saved_in t)
saved_in_fits t f =
    let ts : ValueViews = parts_of t in
    let fs : AllFit ts = parts_fit t f in
    let lane = λ (i : ℕ). lane_fits (parts_of (at i ts)) (parts_fit (at i ts) (at_fits i ts fs)) in (
      word_at ts fs 1,
      lane 2,
      lane 3,
      word_at ts fs 4,
      word_at ts fs 5,
      list_fits FitsSetting setting_in setting_in_fits (at 6 ts) (at_fits 6 ts fs),
      list_fits FitsSavedChannel saved_channel_in saved_channel_fits (at 7 ts) (at_fits 7 ts fs),
    )
