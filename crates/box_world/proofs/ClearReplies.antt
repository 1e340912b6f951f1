-- Replies whose values break no rule.
use Rattle.std.proofs.Common.{◌≡◌, ℕ, ◌+◌, ◌<◌, ◌≤◌, ◌^◌, ℤ, List, [], ◌∷◌, None, Bool, true, false, refl, ap, subst, arith}
use Rattle.std.specs.List.{All}
use Rattle.std.proofs.lemmas.List.Elements.{All-head, All-tail, All-weaker}
use Rattle.tl_types.specs.Values.{ValueView, int, text, list, node, ValueViews, no_values, value, values_of}
use Rattle.box_events.specs.declared.limits.TheConstants.{MAX_END}
use Rattle.box_events.specs.declared.positions.State as states
use Rattle.box_events.specs.declared.settings.Setting as settings
use Rattle.box_events.specs.declared.updates.Placed as placed
use Rattle.box_events.specs.declared.replies.ChannelReply.{ChannelReply}
use Rattle.box_events.specs.declared.replies.ChannelReply.TheVariants as channel
use Rattle.box_events.specs.declared.replies.Reply.TheVariants as reply
use Rattle.box_events.specs.declared.replies.Frame.{Frame as Message}
use Rattle.box_events.specs.declared.replies.Frame.TheVariants as frame
use Rattle.box_events.specs.Events.{EventView, added, edited, deleted, read, is_new}
use Rattle.wire_forms.specs.Parts.{row, number, flag, entry_of, held}
use Rattle.wire_forms.specs.declared.numbers.TheConstants.{STATE, DIFFERENCE_EMPTY, DIFFERENCE, DIFFERENCE_SLICE, CHANNEL_DIFFERENCE_EMPTY, CHANNEL_DIFFERENCE, CHANNEL_DIFFERENCE_TOO_LONG, STATE_REPLY, DIFFERENCE_REPLY, CHANNEL_REPLY, ERROR_REPLY}
use Rattle.wire_values.specs.Updates.{common_tree, placed_tree, setting_tree}
use Rattle.wire_values.specs.Others.{joined}
use Rattle.wire_values.specs.Frames.{frame_tree, state_tree, bodies_tree, bits, channel_reply_tree}
use Rattle.wire_values.specs.CarriedFrames.{IsFrame, IsOther}
use Rattle.wire_profile.specs.Ranges.{unless}
use Rattle.wire_profile.specs.Updates.{is_other, wrong_among}
use Rattle.wire_profile.specs.Causes.{broken}
use Rattle.wire_profile.specs.Clear.{IsClear, AreClear}
use Rattle.wire_profile.specs.declared.wire_fault.WireFault.TheVariants.{WrongUpdate}
use Rattle.wire_profile.specs.declared.rule.Rule.{Rule}
use Rattle.wire_profile.specs.declared.rule.Root.TheVariants.{Frame}
use Rattle.wire_profile.proofs.ClearValues.{both_none, none_of, no_cause, clear_value, clear_row}
use Rattle.box_world.specs.Fitting.{FrameFits, IsNumber}
use Rattle.box_world.proofs.ClearUpdates.{unbroken, record_clear, number_ok, date_ok, seq_ok, end_ok, texts_clear, list_then, common_clear, setting_clear}
use Rattle.box_world.proofs.Carried.{Lies}

pub frame_fits : (f : Message) → IsFrame f → IsClear Frame (frame_tree f) → FrameFits f
frame_fits f is clear = record { is = is; clear = no_cause Frame (frame_tree f) clear }

-- a reply of two fields, the first its request's number
reply_clear : (k n : ℕ) (v : ValueView) → ((rule : Rule) → broken rule k (values_of (number n ∷ v ∷ [])) ≡ None) → IsClear Frame v → IsClear Frame (node k (values_of (number n ∷ v ∷ [])))
reply_clear k n v here clear = record_clear Frame k (values_of (number n ∷ v ∷ [])) here (clear_value Frame (number n) (value v no_values) (λ rule is. refl) (clear_value Frame v no_values clear (λ rule is. refl)))

-- ---- positions

pub record InRange (s : states.State) : Type 0 where
  pub pts : s.pts ≤ MAX_END
  pub qts : s.qts ≤ MAX_END
  pub date : s.date < 2 ^ 31
  pub seq : s.seq ≤ MAX_END

state_clear : (s : states.State) → InRange s → IsClear Frame (state_tree s)
state_clear s r =
    record_clear Frame STATE (values_of (number s.pts ∷ number s.qts ∷ number s.date ∷ number s.seq ∷ []))
    (unbroken _ _ refl refl refl refl (both_none _ _ (end_ok 0 s.pts (omega arith) r.pts) (end_ok 0 s.qts (omega arith) r.qts)) (date_ok s.date r.date) refl (seq_ok s.seq r.seq)) (λ rule is. refl)

pub state_fits : (n : ℕ) (s : states.State) → IsNumber n → InRange s → FrameFits (frame.Reply n (reply.State s))
state_fits n s num r = frame_fits (frame.Reply n (reply.State s)) tt (reply_clear STATE_REPLY n (state_tree s) (unbroken _ _ refl (number_ok 1 n num.0 num.1) refl refl refl refl refl refl) (state_clear s r))

pub empty_fits : (n date seq : ℕ) → IsNumber n → date < 2 ^ 31 → seq ≤ MAX_END → FrameFits (frame.Reply n (reply.Empty date seq))
empty_fits n date seq num d s =
    frame_fits (frame.Reply n (reply.Empty date seq)) tt
    (reply_clear DIFFERENCE_REPLY n (node DIFFERENCE_EMPTY (values_of (number date ∷ number seq ∷ []))) (unbroken _ _ refl (number_ok 1 n num.0 num.1) refl refl refl refl refl refl)
    (record_clear Frame DIFFERENCE_EMPTY (values_of (number date ∷ number seq ∷ [])) (unbroken _ _ refl refl refl refl refl (date_ok date d) refl (seq_ok seq s)) (λ rule is. refl)))

pub error_fits : (n : ℕ) (code : ℤ) (message : List ℕ) → IsNumber n → FrameFits (frame.Reply n (reply.Error code message))
error_fits n code message num =
    frame_fits (frame.Reply n (reply.Error code message)) tt
    (record_clear Frame ERROR_REPLY (values_of (number n ∷ int code ∷ text message ∷ [])) (unbroken _ _ refl (number_ok 1 n num.0 num.1) refl refl refl refl refl refl) (λ rule is. refl))

-- ---- other events

other_ok : (with_settings : Bool) (e : EventView) (pts : ℕ) → is_new e ≡ false → is_other with_settings (entry_of (common_tree e pts)) ≡ true
other_ok b (added body) pts is = absurd cc
other_ok b (edited body) pts is = refl
other_ok b (deleted ids) pts is = refl
other_ok b (read id) pts is = refl

others_right : (b : Bool) (index : ℕ) (os : List placed.Placed) (rest : ValueViews) → All Lies os → ((i : ℕ) → wrong_among b i rest ≡ None) → wrong_among b index (joined (row placed_tree os) rest) ≡ None
others_right b index [] rest all more = more index
others_right b index (o ∷ os) rest all more =
    let lies : Lies o = All-head Lies o os all in
    both_none (unless (is_other b (entry_of (placed_tree o))) (WrongUpdate (held index))) (wrong_among b (index + 1) (joined (row placed_tree os) rest)) (none_of _ _ (other_ok b o.event o.pts lies.other))
    (others_right b (index + 1) os rest (All-tail Lies o os all) more)

settings_right : (index : ℕ) (xs : List settings.Setting) → wrong_among true index (row setting_tree xs) ≡ None
settings_right index [] = refl
settings_right index (x ∷ xs) = settings_right (index + 1) xs

others_clear : (os : List placed.Placed) (rest : ValueViews) → All Lies os → AreClear Frame rest → AreClear Frame (joined (row placed_tree os) rest)
others_clear [] rest all more = more
others_clear (o ∷ os) rest all more =
    let lies : Lies o = All-head Lies o os all in
    clear_value Frame (placed_tree o) (joined (row placed_tree os) rest) (common_clear o.event o.pts lies.ends) (others_clear os rest (All-tail Lies o os all) more)

joined_none : (ts : ValueViews) → joined ts no_values ≡ ts
joined_none no_values = refl
joined_none (value t ts) = ap (value t) (joined_none ts)

are_others : (os : List placed.Placed) → All Lies os → All IsOther os
are_others os all = All-weaker Lies IsOther (λ o l. (l.ends.count, l.other)) os all

-- ---- differences

bodies_then : (bodies : List (List ℕ)) (vs : ValueViews) → AreClear Frame vs → AreClear Frame (value (bodies_tree bodies) vs)
bodies_then bodies vs clear = list_then Frame (row text bodies) vs (texts_clear Frame bodies) clear

-- the fields of a difference
fields_clear : (news secrets : List (List ℕ)) (others : ValueViews) (s : states.State) → AreClear Frame others → InRange s → AreClear Frame (values_of (bodies_tree news ∷ bodies_tree secrets ∷ list others ∷ state_tree s ∷ []))
fields_clear news secrets others s clear r =
    let last : ValueViews = value (state_tree s) no_values in
    let rest : ValueViews = value (list others) last in
    bodies_then news (value (bodies_tree secrets) rest) (bodies_then secrets rest (list_then Frame others last clear (clear_value Frame (state_tree s) no_values (state_clear s r) (λ rule is. refl))))

pub last_fits : (n : ℕ) (news secrets : List (List ℕ)) (others : List placed.Placed) (xs : List settings.Setting) (s : states.State) → IsNumber n → All Lies others → InRange s → FrameFits (frame.Reply n (reply.Difference news secrets others xs s true))
last_fits n news secrets others xs s num lie r =
    let us : ValueViews = joined (row placed_tree others) (row setting_tree xs) in
    let fields : ValueViews = values_of (bodies_tree news ∷ bodies_tree secrets ∷ list us ∷ state_tree s ∷ []) in
    frame_fits (frame.Reply n (reply.Difference news secrets others xs s true)) (are_others others lie, λ e. absurd cc)
    (reply_clear DIFFERENCE_REPLY n (node DIFFERENCE fields) (unbroken _ _ refl (number_ok 1 n num.0 num.1) refl refl refl refl refl refl)
    (record_clear Frame DIFFERENCE fields (unbroken _ _ refl refl (others_right true 0 others (row setting_tree xs) lie (λ i. settings_right i xs)) refl refl refl refl refl)
    (fields_clear news secrets us s (others_clear others (row setting_tree xs) lie (clear_row Frame setting_tree setting_clear xs)) r)))

pub slice_fits : (n : ℕ) (news secrets : List (List ℕ)) (others : List placed.Placed) (s : states.State) → IsNumber n → All Lies others → InRange s → FrameFits (frame.Reply n (reply.Difference news secrets others [] s false))
slice_fits n news secrets others s num lie r =
    let us : ValueViews = joined (row placed_tree others) no_values in
    let fields : ValueViews = values_of (bodies_tree news ∷ bodies_tree secrets ∷ list us ∷ state_tree s ∷ []) in
    frame_fits (frame.Reply n (reply.Difference news secrets others [] s false)) (are_others others lie, λ e. refl)
    (reply_clear DIFFERENCE_REPLY n (node DIFFERENCE_SLICE fields) (unbroken _ _ refl (number_ok 1 n num.0 num.1) refl refl refl refl refl refl)
    (record_clear Frame DIFFERENCE_SLICE fields (unbroken _ _ refl refl (others_right false 0 others no_values lie (λ i. refl)) refl refl refl refl refl)
    (fields_clear news secrets us s (others_clear others no_values lie (λ rule is. refl)) r)))

-- ---- channels

bits_then : (last : Bool) (pts : ℕ) (vs : ValueViews) → AreClear Frame vs → AreClear Frame (value (bits last) (value (flag last) (value (number pts) vs)))
bits_then true pts vs clear = clear
bits_then false pts vs clear = clear

channel_fits : (n : ℕ) (c : ChannelReply) → IsNumber n → IsFrame (frame.Reply n (reply.Channel c)) → IsClear Frame (channel_reply_tree c) → FrameFits (frame.Reply n (reply.Channel c))
channel_fits n c num is clear = frame_fits (frame.Reply n (reply.Channel c)) is (reply_clear CHANNEL_REPLY n (channel_reply_tree c) (unbroken _ _ refl (number_ok 1 n num.0 num.1) refl refl refl refl refl refl) clear)

pub channel_empty_fits : (n pts : ℕ) (last : Bool) → IsNumber n → pts ≤ MAX_END → FrameFits (frame.Reply n (reply.Channel (channel.Empty pts last)))
channel_empty_fits n pts last num le =
    let fields : ValueViews = values_of (bits last ∷ flag last ∷ number pts ∷ []) in
    channel_fits n (channel.Empty pts last) num tt (record_clear Frame CHANNEL_DIFFERENCE_EMPTY fields (unbroken _ _ refl refl refl refl (end_ok 0 pts (omega arith) le) refl refl refl) (bits_then last pts no_values (λ rule is. refl)))

pub channel_far_fits : (n pts : ℕ) (recent : List (List ℕ)) (last : Bool) → IsNumber n → pts ≤ MAX_END → FrameFits (frame.Reply n (reply.Channel (channel.TooLong pts recent last)))
channel_far_fits n pts recent last num le =
    let fields : ValueViews = values_of (bits last ∷ flag last ∷ number pts ∷ bodies_tree recent ∷ []) in
    channel_fits n (channel.TooLong pts recent last) num tt
    (record_clear Frame CHANNEL_DIFFERENCE_TOO_LONG fields (unbroken _ _ refl refl refl refl (end_ok 0 pts (omega arith) le) refl refl refl)
    (bits_then last pts (value (bodies_tree recent) no_values) (bodies_then recent no_values (λ rule is. refl))))

pub channel_part_fits : (n pts : ℕ) (news : List (List ℕ)) (others : List placed.Placed) (last : Bool) → IsNumber n → pts ≤ MAX_END → All Lies others → FrameFits (frame.Reply n (reply.Channel (channel.Part pts news others last)))
channel_part_fits n pts news others last num le lie =
    let us : ValueViews = row placed_tree others in
    let fields : ValueViews = values_of (bits last ∷ flag last ∷ number pts ∷ bodies_tree news ∷ list us ∷ []) in
    let right : wrong_among false 0 us ≡ None = subst (λ (vs : ValueViews). wrong_among false 0 vs ≡ None) (joined_none us) (others_right false 0 others no_values lie (λ i. refl)) in
    let clear : AreClear Frame us = subst (AreClear Frame) (joined_none us) (others_clear others no_values lie (λ rule is. refl)) in
    channel_fits n (channel.Part pts news others last) num (are_others others lie)
    (record_clear Frame CHANNEL_DIFFERENCE fields (unbroken _ _ refl refl right refl (end_ok 0 pts (omega arith) le) refl refl refl)
    (bits_then last pts (value (bodies_tree news) (value (list us) no_values)) (bodies_then news (value (list us) no_values) (list_then Frame us no_values clear (λ rule is. refl)))))
