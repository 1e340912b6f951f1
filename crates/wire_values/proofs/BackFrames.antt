-- The frame of a frame's value is the frame.
use Rattle.std.proofs.Common.{◌≡◌, ℕ, List, [], Bool, true, false, refl, sym, ap, ◌∙◌}
use Rattle.std.specs.Prelude.{◌==◌, if◌then◌else◌}
use Rattle.std.specs.List.{All}
use Rattle.std.proofs.lemmas.Bool.{eqb-true}
use Rattle.tl_types.specs.Values.{ValueView, text, no_values}
use Rattle.box_events.specs.declared.settings.Setting as settings
use Rattle.box_events.specs.declared.updates.Placed as placed
use Rattle.box_events.specs.declared.updates.Update.{Update}
use Rattle.box_events.specs.declared.updates.Push.{Push}
use Rattle.box_events.specs.declared.updates.Push.TheVariants as push
use Rattle.box_events.specs.declared.positions.State as states
use Rattle.box_events.specs.declared.positions.Receipt as receipts
use Rattle.box_events.specs.declared.replies.ChannelReply.{ChannelReply}
use Rattle.box_events.specs.declared.replies.ChannelReply.TheVariants as channel
use Rattle.box_events.specs.declared.replies.Reply.{Reply}
use Rattle.box_events.specs.declared.replies.Reply.TheVariants as reply
use Rattle.box_events.specs.declared.replies.Frame.{Frame}
use Rattle.box_events.specs.declared.replies.Frame.TheVariants as frame
use Rattle.wire_forms.specs.Parts.{parts_of, entry_of, text_of, word_of, number, is_final, each, row}
use Rattle.wire_forms.proofs.Words.{by_test, by_not, again}
use Rattle.wire_forms.proofs.Records.{each_back}
use Rattle.wire_values.specs.Updates.{placed_tree, placed_in, setting_tree, setting_in}
use Rattle.wire_values.specs.Others.{joined, others_of, settings_of}
use Rattle.wire_values.specs.Frames.{push_tree, push_at, state_tree, state_at, receipt_tree, receipt_at, bodies_tree, bodies_in, difference_tree, difference_at, bits, channel_reply_tree, channel_reply_at, reply_tree, frame_tree, frame_in, start_of}
use Rattle.wire_values.specs.CarriedFrames.{IsUpdate, IsOther, IsPush, IsReply, IsFrame}
use Rattle.wire_values.proofs.BackUpdates.{updates_back, placed_all_back, settings_back, others_apart, settings_apart, others_alone}

-- ---- pushes

start_stays : (start seq : ℕ) (b : Bool) → (seq == 0) ≡ b → (seq ≡ 0 → start ≡ 0) → start_of start seq ≡ start
start_stays start seq true e rule = by_test (seq == 0) 0 start e ∙ sym (rule (eqb-true seq 0 e))
start_stays start seq false e rule = ap (λ (b : Bool). if b then 0 else start) e

abbrev push_in : ValueView → Push
push_in t = push_at (entry_of t) (parts_of t)

container_back : (us : List Update) (date start seq : ℕ) (b : Bool) → (start == seq) ≡ b → All IsUpdate us → (seq ≡ 0 → start ≡ 0) → push_in (push_tree (push.Container us date start seq)) ≡ push.Container us date start seq
container_back us date start seq true e all rule =
    ap push_in (by_test (start == seq) _ _ e)
    ∙ ap (λ (l : List Update). push.Container l (word_of (number date)) (word_of (number seq)) (word_of (number seq))) (updates_back us all)
    ∙ ap (λ (n : ℕ). push.Container us n (word_of (number seq)) (word_of (number seq))) (again date)
    ∙ ap (λ (n : ℕ). push.Container us date n n) (again seq)
    ∙ ap (λ (n : ℕ). push.Container us date n seq) (sym (eqb-true start seq e))
container_back us date start seq false e all rule =
    ap push_in (by_not (start == seq) _ _ e)
    ∙ ap (λ (l : List Update). push.Container l (word_of (number date)) (start_of (word_of (number start)) (word_of (number seq))) (word_of (number seq))) (updates_back us all)
    ∙ ap (λ (n : ℕ). push.Container us n (start_of (word_of (number start)) (word_of (number seq))) (word_of (number seq))) (again date)
    ∙ ap (λ (n : ℕ). push.Container us date (start_of n (word_of (number seq))) (word_of (number seq))) (again start)
    ∙ ap (λ (n : ℕ). push.Container us date (start_of start n) n) (again seq)
    ∙ ap (λ (n : ℕ). push.Container us date n seq) (start_stays start seq (seq == 0) refl rule)

pub push_back : (p : Push) → IsPush p → push_in (push_tree p) ≡ p
push_back push.TooLong is = refl
push_back (push.Container us date start seq) is = container_back us date start seq (start == seq) refl is.0 is.1

-- ---- states and receipts

abbrev state_with : ℕ → ℕ → ℕ → ℕ → states.State
state_with pts qts date seq = record { pts = pts; qts = qts; date = date; seq = seq }

pub state_back : (s : states.State) → state_at (parts_of (state_tree s)) ≡ s
state_back s =
    ap (λ (n : ℕ). state_with n (word_of (number s.qts)) (word_of (number s.date)) (word_of (number s.seq))) (again s.pts)
    ∙ ap (λ (n : ℕ). state_with s.pts n (word_of (number s.date)) (word_of (number s.seq))) (again s.qts)
    ∙ ap (λ (n : ℕ). state_with s.pts s.qts n (word_of (number s.seq))) (again s.date)
    ∙ ap (state_with s.pts s.qts s.date) (again s.seq)

abbrev receipt_with : ℕ → ℕ → ℕ → ℕ → receipts.Receipt
receipt_with pts qts date seq = record { pts = pts; qts = qts; date = date; seq = seq }

pub receipt_back : (r : receipts.Receipt) → receipt_at (parts_of (receipt_tree r)) ≡ r
receipt_back r =
    ap (λ (n : ℕ). receipt_with n (word_of (number r.qts)) (word_of (number r.date)) (word_of (number r.seq))) (again r.pts)
    ∙ ap (λ (n : ℕ). receipt_with r.pts n (word_of (number r.date)) (word_of (number r.seq))) (again r.qts)
    ∙ ap (λ (n : ℕ). receipt_with r.pts r.qts n (word_of (number r.seq))) (again r.date)
    ∙ ap (receipt_with r.pts r.qts r.date) (again r.seq)

-- ---- differences

pub bodies_back : (bodies : List (List ℕ)) → bodies_in (bodies_tree bodies) ≡ bodies
bodies_back bodies = each_back text_of text (λ s. refl) bodies

abbrev difference_in : ValueView → Reply
difference_in t = difference_at (entry_of t) (parts_of t)

abbrev last_with : List (List ℕ) → List (List ℕ) → List placed.Placed → List settings.Setting → states.State → Reply
last_with news secrets others settings state = reply.Difference news secrets others settings state true

abbrev slice_with : List (List ℕ) → List (List ℕ) → List placed.Placed → states.State → Reply
slice_with news secrets others state = reply.Difference news secrets others [] state false

difference_back : (news secrets : List (List ℕ)) (others : List placed.Placed) (settings : List settings.Setting) (state : states.State) (last : Bool) → All IsOther others → (last ≡ false → settings ≡ [])
    → difference_in (difference_tree news secrets others settings state last) ≡ reply.Difference news secrets others settings state last
difference_back news secrets others ss state true all none =
    let us = joined (row placed_tree others) (row setting_tree ss) in
    let now = state_at (parts_of (state_tree state)) in
    ap (λ (l : List (List ℕ)). last_with l (bodies_in (bodies_tree secrets)) (each placed_in (others_of us)) (each setting_in (settings_of us)) now) (bodies_back news)
    ∙ ap (λ (l : List (List ℕ)). last_with news l (each placed_in (others_of us)) (each setting_in (settings_of us)) now) (bodies_back secrets)
    ∙ ap (λ (l : List placed.Placed). last_with news secrets l (each setting_in (settings_of us)) now) (ap (each placed_in) (others_apart others ss) ∙ placed_all_back others all)
    ∙ ap (λ (l : List settings.Setting). last_with news secrets others l now) (ap (each setting_in) (settings_apart others ss) ∙ settings_back ss)
    ∙ ap (last_with news secrets others ss) (state_back state)
difference_back news secrets others ss state false all none =
    let now = state_at (parts_of (state_tree state)) in
    ap (λ (l : List settings.Setting). difference_in (difference_tree news secrets others l state false)) (none refl)
    ∙ ap (λ (l : List (List ℕ)). slice_with l (bodies_in (bodies_tree secrets)) (each placed_in (joined (row placed_tree others) no_values)) now) (bodies_back news)
    ∙ ap (λ (l : List (List ℕ)). slice_with news l (each placed_in (joined (row placed_tree others) no_values)) now) (bodies_back secrets)
    ∙ ap (λ (l : List placed.Placed). slice_with news secrets l now) (ap (each placed_in) (others_alone others) ∙ placed_all_back others all)
    ∙ ap (slice_with news secrets others) (state_back state)
    ∙ ap (λ (l : List settings.Setting). reply.Difference news secrets others l state false) (sym (none refl))

-- ---- channels

pub last_back : (last : Bool) → is_final (bits last) ≡ last
last_back true = refl
last_back false = refl

channel_back : (c : ChannelReply) → IsReply (reply.Channel c) → channel_reply_at (entry_of (channel_reply_tree c)) (parts_of (channel_reply_tree c)) ≡ c
channel_back (channel.Empty pts last) is =
    ap (λ (n : ℕ). channel.Empty n (is_final (bits last))) (again pts) ∙ ap (channel.Empty pts) (last_back last)
channel_back (channel.Part pts news others last) is =
    ap (λ (n : ℕ). channel.Part n (bodies_in (bodies_tree news)) (each placed_in (row placed_tree others)) (is_final (bits last))) (again pts)
    ∙ ap (λ (l : List (List ℕ)). channel.Part pts l (each placed_in (row placed_tree others)) (is_final (bits last))) (bodies_back news)
    ∙ ap (λ (l : List placed.Placed). channel.Part pts news l (is_final (bits last))) (placed_all_back others is)
    ∙ ap (channel.Part pts news others) (last_back last)
channel_back (channel.TooLong pts recent last) is =
    ap (λ (n : ℕ). channel.TooLong n (bodies_in (bodies_tree recent)) (is_final (bits last))) (again pts)
    ∙ ap (λ (l : List (List ℕ)). channel.TooLong pts l (is_final (bits last))) (bodies_back recent)
    ∙ ap (channel.TooLong pts recent) (last_back last)

-- ---- frames

reply_back : (n : ℕ) (r : Reply) → IsReply r → frame_in (reply_tree n r) ≡ frame.Reply n r
reply_back n (reply.State s) is =
    ap (λ (k : ℕ). frame.Reply k (reply.State (state_at (parts_of (state_tree s))))) (again n) ∙ ap (λ (x : states.State). frame.Reply n (reply.State x)) (state_back s)
reply_back n (reply.Empty date seq) is =
    ap (λ (k : ℕ). frame.Reply k (reply.Empty (word_of (number date)) (word_of (number seq)))) (again n)
    ∙ ap (λ (k : ℕ). frame.Reply n (reply.Empty k (word_of (number seq)))) (again date)
    ∙ ap (λ (k : ℕ). frame.Reply n (reply.Empty date k)) (again seq)
reply_back n (reply.Difference news secrets others settings state last) is =
    ap (λ (k : ℕ). frame.Reply k (difference_in (difference_tree news secrets others settings state last))) (again n)
    ∙ ap (frame.Reply n) (difference_back news secrets others settings state last is.0 is.1)
reply_back n (reply.Channel c) is =
    ap (λ (k : ℕ). frame.Reply k (reply.Channel (channel_reply_at (entry_of (channel_reply_tree c)) (parts_of (channel_reply_tree c))))) (again n)
    ∙ ap (λ (x : ChannelReply). frame.Reply n (reply.Channel x)) (channel_back c is)
reply_back n (reply.Receipt r) is =
    ap (λ (k : ℕ). frame.Reply k (reply.Receipt (receipt_at (parts_of (receipt_tree r))))) (again n) ∙ ap (λ (x : receipts.Receipt). frame.Reply n (reply.Receipt x)) (receipt_back r)
reply_back n (reply.Error code message) is = ap (λ (k : ℕ). frame.Reply k (reply.Error code message)) (again n)

pub frame_back : (m : Frame) → IsFrame m → frame_in (frame_tree m) ≡ m
frame_back (frame.Push p) is = ap frame.Push (push_back p is)
frame_back (frame.Reply n r) is = reply_back n r is
