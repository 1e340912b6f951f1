-- The value of a frame, and the frame of a value.
-- From "Working with Updates" (core.telegram.org/api/updates); layouts and numbers are this project's own.
use Rattle.std.specs.Prelude.{ℕ, List, [], ◌∷◌, Bool, true, false, ◌==◌, if◌then◌else◌}
use Rattle.tl_types.specs.Values.{ValueView, int, nat, text, list, node, ValueViews, no_values, values_of}
use Rattle.box_events.specs.declared.settings.Setting as settings
use Rattle.box_events.specs.declared.updates.Placed as placed
use Rattle.box_events.specs.declared.updates.Push.{Push}
use Rattle.box_events.specs.declared.updates.Push.TheVariants as push
use Rattle.box_events.specs.declared.positions.State as states
use Rattle.box_events.specs.declared.positions.Receipt as receipts
use Rattle.box_events.specs.declared.replies.ChannelReply.{ChannelReply}
use Rattle.box_events.specs.declared.replies.ChannelReply.TheVariants as channel
use Rattle.box_events.specs.declared.replies.Reply.{Reply}
use Rattle.box_events.specs.declared.replies.Reply.TheVariants as reply
use Rattle.box_events.specs.declared.replies.Frame.{Frame}
use Rattle.box_events.specs.declared.replies.Frame.TheVariants as frame
use Rattle.wire_forms.specs.Parts.{at, parts_of, entry_of, text_of, int_of, word_of, number, flag, is_final, each, row}
use Rattle.wire_forms.specs.declared.numbers.TheConstants.{UPDATES_TOO_LONG, UPDATES, UPDATES_COMBINED, STATE, DIFFERENCE_EMPTY, DIFFERENCE, DIFFERENCE_SLICE, CHANNEL_DIFFERENCE_EMPTY, CHANNEL_DIFFERENCE, CHANNEL_DIFFERENCE_TOO_LONG, PUSH, STATE_REPLY, DIFFERENCE_REPLY, CHANNEL_REPLY, RECEIPT_REPLY, ERROR_REPLY, RECEIPT}
use Rattle.wire_values.specs.Updates.{update_tree, update_in, placed_tree, placed_in, setting_tree, setting_in}
use Rattle.wire_values.specs.Others.{joined, others_of, settings_of}

-- a container of one setting or of none has no start of its own
abbrev pub push_tree : Push → ValueView
push_tree push.TooLong = node UPDATES_TOO_LONG no_values
push_tree (push.Container us date start seq) =
    if start == seq
    then node UPDATES (values_of (list (row update_tree us) ∷ number date ∷ number seq ∷ []))
    else node UPDATES_COMBINED (values_of (list (row update_tree us) ∷ number date ∷ number start ∷ number seq ∷ []))

-- a state
abbrev pub state_tree : states.State → ValueView
state_tree s = node STATE (values_of (number s.pts ∷ number s.qts ∷ number s.date ∷ number s.seq ∷ []))

-- a receipt
abbrev pub receipt_tree : receipts.Receipt → ValueView
receipt_tree r = node RECEIPT (values_of (number r.pts ∷ number r.qts ∷ number r.date ∷ number r.seq ∷ []))

-- a list of bodies
abbrev pub bodies_tree : List (List ℕ) → ValueView
bodies_tree bodies = list (row text bodies)

-- a difference that isn't the last is a slice; the settings stand after the other events
abbrev pub difference_tree : List (List ℕ) → List (List ℕ) → List placed.Placed → List settings.Setting → states.State → Bool → ValueView
difference_tree news secrets others settings state last =
    node (if last then DIFFERENCE else DIFFERENCE_SLICE)
    (values_of (bodies_tree news ∷ bodies_tree secrets ∷ list (joined (row placed_tree others) (row setting_tree settings)) ∷ state_tree state ∷ []))

-- the flags, of which bit 0 says that the answer is the last
abbrev pub bits : Bool → ValueView
bits last = nat (if last then 1 else 0)

-- what is answered about a channel
abbrev pub channel_reply_tree : ChannelReply → ValueView
channel_reply_tree (channel.Empty pts last) = node CHANNEL_DIFFERENCE_EMPTY (values_of (bits last ∷ flag last ∷ number pts ∷ []))
channel_reply_tree (channel.Part pts news others last) =
    node CHANNEL_DIFFERENCE (values_of (bits last ∷ flag last ∷ number pts ∷ bodies_tree news ∷ list (row placed_tree others) ∷ []))
channel_reply_tree (channel.TooLong pts recent last) =
    node CHANNEL_DIFFERENCE_TOO_LONG (values_of (bits last ∷ flag last ∷ number pts ∷ bodies_tree recent ∷ []))

-- the reply to the request with number n
abbrev pub reply_tree : ℕ → Reply → ValueView
reply_tree n (reply.State s) = node STATE_REPLY (values_of (number n ∷ state_tree s ∷ []))
reply_tree n (reply.Empty date seq) =
    node DIFFERENCE_REPLY (values_of (number n ∷ node DIFFERENCE_EMPTY (values_of (number date ∷ number seq ∷ [])) ∷ []))
reply_tree n (reply.Difference news secrets others settings state last) =
    node DIFFERENCE_REPLY (values_of (number n ∷ difference_tree news secrets others settings state last ∷ []))
reply_tree n (reply.Channel c) = node CHANNEL_REPLY (values_of (number n ∷ channel_reply_tree c ∷ []))
reply_tree n (reply.Receipt r) = node RECEIPT_REPLY (values_of (number n ∷ receipt_tree r ∷ []))
reply_tree n (reply.Error code message) = node ERROR_REPLY (values_of (number n ∷ int code ∷ text message ∷ []))

-- a frame
abbrev pub frame_tree : Frame → ValueView
frame_tree (frame.Push p) = node PUSH (values_of (push_tree p ∷ []))
frame_tree (frame.Reply n r) = reply_tree n r

-- ---- back: the last form of each type stands for whatever else there is

-- where the seq is 0 the start is as well
abbrev pub start_of : ℕ → ℕ → ℕ
start_of start seq = if seq == 0 then 0 else start

-- the push of a record of form k
abbrev pub push_at : ℕ → ValueViews → Push
push_at k ts =
    if k == UPDATES_TOO_LONG then push.TooLong
    else if k == UPDATES then push.Container (each update_in (parts_of (at 0 ts))) (word_of (at 1 ts)) (word_of (at 2 ts)) (word_of (at 2 ts))
    else push.Container (each update_in (parts_of (at 0 ts))) (word_of (at 1 ts)) (start_of (word_of (at 2 ts)) (word_of (at 3 ts))) (word_of (at 3 ts))

-- the state of a record's fields
abbrev pub state_at : ValueViews → states.State
state_at ts = record { pts = word_of (at 0 ts); qts = word_of (at 1 ts); date = word_of (at 2 ts); seq = word_of (at 3 ts) }

-- the receipt of a record's fields
abbrev pub receipt_at : ValueViews → receipts.Receipt
receipt_at ts = record { pts = word_of (at 0 ts); qts = word_of (at 1 ts); date = word_of (at 2 ts); seq = word_of (at 3 ts) }

-- the bodies in a list
abbrev pub bodies_in : ValueView → List (List ℕ)
bodies_in t = each text_of (parts_of t)

-- only the last difference has settings
abbrev pub difference_at : ℕ → ValueViews → Reply
difference_at k ts =
    if k == DIFFERENCE_EMPTY then reply.Empty (word_of (at 0 ts)) (word_of (at 1 ts))
    else if k == DIFFERENCE
    then reply.Difference (bodies_in (at 0 ts)) (bodies_in (at 1 ts)) (each placed_in (others_of (parts_of (at 2 ts)))) (each setting_in (settings_of (parts_of (at 2 ts)))) (state_at (parts_of (at 3 ts))) true
    else reply.Difference (bodies_in (at 0 ts)) (bodies_in (at 1 ts)) (each placed_in (parts_of (at 2 ts))) [] (state_at (parts_of (at 3 ts))) false

-- what a record of form k answers about a channel
abbrev pub channel_reply_at : ℕ → ValueViews → ChannelReply
channel_reply_at k ts =
    if k == CHANNEL_DIFFERENCE_EMPTY then channel.Empty (word_of (at 2 ts)) (is_final (at 0 ts))
    else if k == CHANNEL_DIFFERENCE
    then channel.Part (word_of (at 2 ts)) (bodies_in (at 3 ts)) (each placed_in (parts_of (at 4 ts))) (is_final (at 0 ts))
    else channel.TooLong (word_of (at 2 ts)) (bodies_in (at 3 ts)) (is_final (at 0 ts))

-- the frame of a record of form k
abbrev pub frame_at : ℕ → ValueViews → Frame
frame_at k ts =
    if k == STATE_REPLY then frame.Reply (word_of (at 0 ts)) (reply.State (state_at (parts_of (at 1 ts))))
    else if k == DIFFERENCE_REPLY then frame.Reply (word_of (at 0 ts)) (difference_at (entry_of (at 1 ts)) (parts_of (at 1 ts)))
    else if k == CHANNEL_REPLY then frame.Reply (word_of (at 0 ts)) (reply.Channel (channel_reply_at (entry_of (at 1 ts)) (parts_of (at 1 ts))))
    else if k == RECEIPT_REPLY then frame.Reply (word_of (at 0 ts)) (reply.Receipt (receipt_at (parts_of (at 1 ts))))
    else if k == ERROR_REPLY then frame.Reply (word_of (at 0 ts)) (reply.Error (int_of (at 1 ts)) (text_of (at 2 ts)))
    else frame.Push (push_at (entry_of (at 0 ts)) (parts_of (at 0 ts)))

-- the frame of a value
abbrev pub frame_in : ValueView → Frame
frame_in t = frame_at (entry_of t) (parts_of t)
