-- The answers of a sound server stay below the limit.
use Rattle.std.specs.Prelude.{◌&&◌, ltb, pos, negsuc, reverse}
use Rattle.std.proofs.Common.{◌≡◌, ℕ, ◌+◌, ◌*◌, ◌-◌, ◌≤◌, ℤ, List, [], ◌∷◌, length, Option, Some, None, Bool, true, false, refl, codes, arith}
use Rattle.std.proofs.lemmas.List.{length-reverse}
use Rattle.std.proofs.lemmas.List.Sorted.{sum_by-IsPermutation, IsPermutation-reverse}
use Rattle.tl_types.specs.Values.{text}
use Rattle.box_events.specs.declared.limits.TheConstants.{MAX_KEYS, MAX_KEY_BYTES, MAX_VALUE_BYTES, RUN_BYTES, RUN_EVENTS, RECENT_BYTES, RECENT_EVENTS}
use Rattle.box_events.specs.declared.positions.State as states
use Rattle.box_events.specs.declared.positions.Receipt as receipts
use Rattle.box_events.specs.declared.requests.Request.TheVariants.{State as StateRequest, Difference as DifferenceRequest, Channel as ChannelRequest, Post}
use Rattle.box_events.specs.declared.settings.Setting.{Setting}
use Rattle.box_events.specs.declared.updates.Placed.{Placed}
use Rattle.box_events.specs.declared.replies.ChannelReply.TheVariants as channel
use Rattle.box_events.specs.declared.replies.Reply.TheVariants as reply
use Rattle.box_events.specs.declared.replies.Frame.TheVariants.{Reply}
use Rattle.box_events.specs.Events.{EventView}
use Rattle.box_events.specs.Boxes.{ending}
use Rattle.box_events.specs.Weaving.{bodies, others_from}
use Rattle.box_server.specs.Servers.{ChannelBox, ServerState, channel_in, channel_end, state_of}
use Rattle.box_server.specs.Sound.{IsSound}
use Rattle.box_server.specs.Entries.{bytes_of}
use Rattle.box_server.specs.LastEntries.{changed_since}
use Rattle.box_server.specs.Runs.{events_after, limited, run_of, recent_of}
use Rattle.box_server.specs.Answers.{answer, is_whole, is_far, last_by, carried, reached, difference_by, difference_of, channel_part, channel_by, channel_difference, no_position}
use Rattle.wire_forms.specs.declared.form.Cell.TheVariants.{Body, One}
use Rattle.wire_forms.specs.declared.numbers.TheConstants.{UPDATE_TYPE}
use Rattle.wire_forms.specs.Forms.{forms}
use Rattle.wire_forms.specs.Parts.{row}
use Rattle.wire_values.specs.Updates.{placed_tree, setting_tree}
use Rattle.wire_values.specs.Others.{joined}
use Rattle.box_world.specs.Sizes.{frame_size, sizes_of}
use Rattle.box_world.specs.Sums.{IsBelow, most_of_answer, most_of_run}
use Rattle.box_world.specs.FrameLaws.{AnswersAreBelow}
use Rattle.box_world.proofs.PartSizes.{IsSmallSetting, joined_size, limited_length, limited_sum, run_size, settings_size, text_size, texts_size}
use Rattle.box_world.proofs.ChangedSettings.{few_changed, all_changed}

-- ---- parts

-- what is carried of a box
carried_size : (p : ℕ) (es : List EventView) → sizes_of Body (row text (bodies (run_of es))) + sizes_of (One UPDATE_TYPE) (row placed_tree (others_from p (run_of es))) ≤ most_of_run
carried_size p es =
    let all = run_size p (run_of es) in
    let sum = limited_sum bytes_of RUN_EVENTS RUN_BYTES es in
    let few = limited_length bytes_of RUN_EVENTS RUN_BYTES es in
    omega (arith, all, sum, few)

changed_size : (s : ServerState) (date : ℕ) → IsSound s → sizes_of (One UPDATE_TYPE) (row setting_tree (changed_since s.settings date)) ≤ (18 + MAX_KEY_BYTES + MAX_VALUE_BYTES) * MAX_KEYS
changed_size s date h =
    let all = settings_size (changed_since s.settings date) (all_changed IsSmallSetting s.settings date h.sizes) in
    let few = few_changed s.settings date in
    let keys = h.keys in
    omega (arith, all, few, keys)

recent_size : (es : List EventView) → sizes_of Body (row text (recent_of es)) ≤ RECENT_BYTES + 7 * RECENT_EVENTS
recent_size es =
    let turned : List (List ℕ) = limited length RECENT_EVENTS RECENT_BYTES (reverse (bodies es)) in
    let all = texts_size (reverse turned) in
    let same = sum_by-IsPermutation length turned (reverse turned) (IsPermutation-reverse turned) in
    let sum = limited_sum length RECENT_EVENTS RECENT_BYTES (reverse (bodies es)) in
    let long = length-reverse turned in
    let few = limited_length length RECENT_EVENTS RECENT_BYTES (reverse (bodies es)) in
    omega (arith, all, same, sum, long, few)

-- ---- whole frames

state_size : (n : ℕ) (s : states.State) → frame_size (Reply n (reply.State s)) ≡ 24
unfolding forms
state_size n s = refl

pub receipt_size : (n : ℕ) (r : receipts.Receipt) → frame_size (Reply n (reply.Receipt r)) ≡ 24
unfolding forms
receipt_size n r = refl

empty_size : (n date seq : ℕ) → frame_size (Reply n (reply.Empty date seq)) ≡ 20
unfolding forms
empty_size n date seq = refl

pub error_size : (n : ℕ) (code : ℤ) (message : List ℕ) → frame_size (Reply n (reply.Error code message)) ≤ length message + 19
unfolding forms
error_size n code message = let t = text_size message in omega (arith, t)

difference_size : (n : ℕ) (news secrets : List (List ℕ)) (others : List Placed) (xs : List Setting) (s : states.State) (last : Bool)
    → frame_size (Reply n (reply.Difference news secrets others xs s last)) ≡ 56 + (sizes_of Body (row text news) + sizes_of Body (row text secrets) + sizes_of (One UPDATE_TYPE) (joined (row placed_tree others) (row setting_tree xs)))
unfolding forms
difference_size n news secrets others xs s true = omega arith
difference_size n news secrets others xs s false = omega arith

channel_empty_size : (n pts : ℕ) (last : Bool) → frame_size (Reply n (reply.Channel (channel.Empty pts last))) ≡ 20
unfolding forms
channel_empty_size n pts true = refl
channel_empty_size n pts false = refl

channel_part_size : (n pts : ℕ) (news : List (List ℕ)) (others : List Placed) (last : Bool)
    → frame_size (Reply n (reply.Channel (channel.Part pts news others last))) ≡ 36 + (sizes_of Body (row text news) + sizes_of (One UPDATE_TYPE) (row placed_tree others))
unfolding forms
channel_part_size n pts news others true = omega arith
channel_part_size n pts news others false = omega arith

channel_far_size : (n pts : ℕ) (recent : List (List ℕ)) (last : Bool) → frame_size (Reply n (reply.Channel (channel.TooLong pts recent last))) ≡ 28 + sizes_of Body (row text recent)
unfolding forms
channel_far_size n pts recent true = omega arith
channel_far_size n pts recent false = omega arith

-- ---- answers

below : (size : ℕ) → size ≤ most_of_answer → IsBelow most_of_answer size
below size le = record { sum = le; limit = omega (arith, le) }

refused : (n : ℕ) → IsBelow most_of_answer (frame_size (Reply n no_position))
refused n = let e = error_size n (pos 400) (codes "PERSISTENT_TIMESTAMP_INVALID") in below _ (omega (arith, e))

last_below : (b : Bool) (s : ServerState) (n p date : ℕ) (es fs : List EventView) → IsSound s → IsBelow most_of_answer (frame_size (Reply n (last_by b s p (run_of es) (run_of fs) (changed_since s.settings date))))
last_below true s n p date es fs h = let e = empty_size n s.date (length s.settings) in below _ (omega (arith, e))
last_below false s n p date es fs h =
    let xs : List Setting = changed_since s.settings date in
    let e = difference_size n (bodies (run_of es)) (bodies (run_of fs)) (others_from p (run_of es)) xs (state_of s) true in
    let j = joined_size (One UPDATE_TYPE) (row placed_tree (others_from p (run_of es))) (row setting_tree xs) in
    let news = carried_size p es in
    let secrets = carried_size 0 fs in
    let changed = changed_size s date h in
    below _ (omega (arith, e, j, news, secrets, changed))

carried_below : (b : Bool) (s : ServerState) (n p q date : ℕ) (es fs : List EventView) → IsSound s → IsBelow most_of_answer (frame_size (Reply n (carried b s p q date (run_of es) (run_of fs))))
carried_below true s n p q date es fs h = last_below _ s n p date es fs h
carried_below false s n p q date es fs h =
    let e = difference_size n (bodies (run_of es)) (bodies (run_of fs)) (others_from p (run_of es)) [] (reached s p q (run_of es) (run_of fs)) false in
    let j = joined_size (One UPDATE_TYPE) (row placed_tree (others_from p (run_of es))) (row setting_tree []) in
    let news = carried_size p es in
    let secrets = carried_size 0 fs in
    below _ (omega (arith, e, j, news, secrets))

difference_below : (s : ServerState) (n p q date : ℕ) (a b : Option (List EventView)) → IsSound s → IsBelow most_of_answer (frame_size (Reply n (difference_by s p q date a b)))
difference_below s n p q date None b h = refused n
difference_below s n p q date (Some es) None h = refused n
difference_below s n p q date (Some es) (Some fs) h = carried_below (is_whole es && is_whole fs) s n p q date es fs h

differences_below : (s : ServerState) (n : ℕ) (pts qts : ℤ) (date : ℕ) → IsSound s → IsBelow most_of_answer (frame_size (Reply n (difference_of s pts qts date)))
differences_below s n (negsuc p) qts date h = refused n
differences_below s n (pos p) (negsuc q) date h = refused n
differences_below s n (pos p) (pos q) date h = difference_below s n p q date (events_after s.common p) (events_after s.secret q) h

part_below : (n p : ℕ) (o : Option (List EventView)) → IsBelow most_of_answer (frame_size (Reply n (channel_part p o)))
part_below n p None = refused n
part_below n p (Some []) = let e = channel_empty_size n p true in below _ (omega (arith, e))
part_below n p (Some (x ∷ xs)) =
    let run : List EventView = run_of (x ∷ xs) in
    let e = channel_part_size n (p + ending run) (bodies run) (others_from p run) (is_whole (x ∷ xs)) in
    let all = carried_size p (x ∷ xs) in
    below _ (omega (arith, e, all))

channel_below : (past far : Bool) (c : ChannelBox) (n p : ℕ) → IsBelow most_of_answer (frame_size (Reply n (channel_by past far c p)))
channel_below true far c n p = refused n
channel_below false true c n p =
    let e = channel_far_size n (channel_end c) (recent_of c.events) true in
    let all = recent_size c.events in
    below _ (omega (arith, e, all))
channel_below false false c n p = part_below n p (events_after c.events (p - c.first))

channels_below : (c : ChannelBox) (n : ℕ) (pts : ℤ) → IsBelow most_of_answer (frame_size (Reply n (channel_difference c pts)))
channels_below c n (negsuc p) = refused n
channels_below c n (pos p) = channel_below (ltb (channel_end c) p) (is_far c p) c n p

state_below : (n : ℕ) (s : states.State) → IsBelow most_of_answer (frame_size (Reply n (reply.State s)))
state_below n s = let e = state_size n s in below _ (omega (arith, e))

pub answers_below : AnswersAreBelow
unfolding answer
answers_below s n StateRequest h = state_below n (state_of s)
answers_below s n (DifferenceRequest pts qts date) h = differences_below s n pts qts date h
answers_below s n (ChannelRequest id pts) h = channels_below (channel_in s.channels id) n pts
answers_below s n (Post id posts) h = state_below n (state_of s)
