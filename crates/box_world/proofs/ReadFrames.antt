-- Frames that are read are in a client's range.
use Rattle.std.specs.Prelude.{IsTrue, ◌==◌, ◌⊎◌}
use Rattle.std.proofs.Common.{◌≡◌, ℕ, ◌<◌, ◌≤◌, List, [], ◌∷◌, length, None, Bool, true, false, refl, sym, subst, inl, inr, arith}
use Rattle.std.specs.List.{All}
use Rattle.std.proofs.lemmas.Bool.{eqb-true}
use Rattle.std.proofs.lemmas.List.Elements.{All-head, All-tail}
use Rattle.tl_types.specs.Values.{ValueView, ValueViews}
use Rattle.box_events.specs.declared.limits.TheConstants.{MAX_END}
use Rattle.box_events.specs.declared.updates.Placed.{Placed}
use Rattle.box_events.specs.declared.replies.ChannelReply.{ChannelReply}
use Rattle.box_events.specs.declared.replies.ChannelReply.TheVariants as channel
use Rattle.box_events.specs.declared.replies.Reply.{Reply}
use Rattle.box_events.specs.declared.replies.Reply.TheVariants as reply
use Rattle.box_events.specs.declared.replies.Frame.{Frame as Message}
use Rattle.box_events.specs.declared.replies.Frame.TheVariants as frame
use Rattle.box_events.specs.Refusal.{AreOthers}
use Rattle.box_events.specs.DifferenceLaws.{AreCountedOthers}
use Rattle.box_client.specs.Pushes.{settings_in}
use Rattle.box_client.specs.Ranges.{IsSeqInRange, IsPushInRange, IsReplyInRange}
use Rattle.wire_forms.specs.declared.form.Cell.{Cell}
use Rattle.wire_forms.specs.declared.form.Cell.TheVariants.{Whole, Bodies, Many, One}
use Rattle.wire_forms.specs.declared.numbers.TheConstants.{UPDATE_TYPE, UPDATES_TYPE, STATE_TYPE, DIFFERENCE_TYPE, CHANNEL_DIFFERENCE_TYPE, FRAME_TYPE}
use Rattle.wire_forms.specs.Forms.{forms, constructs, cells_of}
use Rattle.wire_forms.specs.Parts.{first, at, parts_of, entry_of, word_of, each}
use Rattle.wire_forms.specs.IsOf.{IsOf, AreOf}
use Rattle.wire_forms.proofs.Cells.{field_at, many_are}
use Rattle.wire_forms.proofs.Records.{opened, by_member}
use Rattle.wire_forms.proofs.Words.{by_not}
use Rattle.wire_profile.specs.SpelledForms.{owned}
use Rattle.wire_values.specs.Updates.{update_in}
use Rattle.wire_values.specs.Frames.{push_at, start_of, difference_at, channel_reply_at, frame_at, frame_in, frame_tree}
use Rattle.wire_values.specs.CarriedFrames.{FitsFrame, IsFrame, IsOther}
use Rattle.wire_profile.specs.Updates as checks
use Rattle.wire_profile.specs.Clear.{IsClear, AreClear}
use Rattle.wire_profile.specs.declared.rule.Rule.TheVariants.{End, Seq}
use Rattle.wire_profile.specs.declared.rule.Root.TheVariants.{Frame}
use Rattle.wire_profile.proofs.ClearValues.{clear_of, clear_here, clear_fields, clear_parts, clear_at, first_none, second_none}
use Rattle.wire_profile.proofs.RuleFacts.{Pack, end_is, container_is}
use Rattle.box_wire.specs.Kinds.{frames}
use Rattle.box_wire.proofs.FrameLaws.{frame_laws}
use Rattle.box_world.proofs.MessagesFit.{frame_in_fits}
use Rattle.box_world.proofs.SpelledMessages.{meant_fit, read_of}
use Rattle.box_world.specs.Fitting.{IsHearable}
use Rattle.box_world.specs.FrameLaws.{ReadFramesAreTaken}
use Rattle.box_world.proofs.ReadUpdates.{Holds, updates_taken, settings_counted}

-- ---- pushes

seq_of_pack : (start seq many : ℕ) → (seq ≡ 0) ⊎ Pack many start seq → 0 < seq → IsSeqInRange start seq many
seq_of_pack start seq many (inl z) some = absurd (omega (arith, z, some))
seq_of_pack start seq many (inr p) some = record { low = p.starts; order = p.ends; limit = p.low; number = p.same }

not_none : (n : ℕ) (b : Bool) → (n == 0) ≡ b → 0 < n → b ≡ false
not_none n true is some = absurd (omega (arith, eqb-true n 0 is, some))
not_none n false is some = refl

starts : (start seq many : ℕ) → 0 < seq → IsSeqInRange start seq many → IsSeqInRange (start_of start seq) seq many
starts start seq many some r = subst (λ (n : ℕ). IsSeqInRange n seq many) (sym (by_not (seq == 0) 0 start (not_none seq (seq == 0) refl some))) r

-- of a container's list of updates, its start and its seq
packed : (us start seq : ValueView) → IsOf (Many UPDATE_TYPE) us → checks.bad_pack us start seq ≡ None → 0 < word_of seq → IsSeqInRange (word_of start) (word_of seq) (length (settings_in (each update_in (parts_of us))))
packed us start seq is none some =
    subst (λ (n : ℕ). IsSeqInRange (word_of start) (word_of seq) n) (sym (settings_counted (parts_of us) (many_are UPDATE_TYPE us is).1))
    (seq_of_pack (word_of start) (word_of seq) (checks.settings (parts_of us)) (container_is us start seq none) some)

abbrev TakenPush : ℕ → List Cell → Type 0
TakenPush k cs = (ts : ValueViews) → AreOf (first ts) cs ts → Holds k ts → AreClear Frame ts → IsPushInRange (push_at k ts)

push_forms : (k : ℕ) → IsTrue (constructs UPDATES_TYPE k) → TakenPush k (cells_of k)
unfolding forms
push_forms = by_member TakenPush UPDATES_TYPE (
  (λ ts s h c. tt),
  (
    (λ ts s h c. let us = field_at (first ts) 0 (Many UPDATE_TYPE ∷ Whole ∷ Whole ∷ []) ts s in
        (updates_taken (parts_of (at 0 ts)) (many_are UPDATE_TYPE (at 0 ts) us).1 (clear_parts Frame (at 0 ts) (clear_at Frame 0 ts c)), packed (at 0 ts) (at 2 ts) (at 2 ts) us (h Seq refl))),
    (
      (λ ts s h c. let us = field_at (first ts) 0 (Many UPDATE_TYPE ∷ Whole ∷ Whole ∷ Whole ∷ []) ts s in (
        updates_taken (parts_of (at 0 ts)) (many_are UPDATE_TYPE (at 0 ts) us).1 (clear_parts Frame (at 0 ts) (clear_at Frame 0 ts c)),
        (λ some. starts (word_of (at 2 ts)) (word_of (at 3 ts)) (length (settings_in (each update_in (parts_of (at 0 ts))))) some (packed (at 0 ts) (at 2 ts) (at 3 ts) us (h Seq refl) some)),
      )),
      tt,
    ),
  ),
)

push_taken : (t : ValueView) → IsOf (One UPDATES_TYPE) t → IsClear Frame t → IsPushInRange (push_at (entry_of t) (parts_of t))
push_taken t s c =
    let o = opened UPDATES_TYPE t s in
    let clear = subst (IsClear Frame) o.is c in
    push_forms (entry_of t) o.member (parts_of t) o.fields (clear_here Frame (entry_of t) (parts_of t) clear) (clear_fields Frame (entry_of t) (parts_of t) clear)

-- ---- positions

abbrev TakenState : ℕ → List Cell → Type 0
TakenState k cs = (ts : ValueViews) → Holds k ts → (word_of (at 0 ts) ≤ MAX_END) × (word_of (at 1 ts) ≤ MAX_END)

state_forms : (k : ℕ) → IsTrue (constructs STATE_TYPE k) → TakenState k (cells_of k)
unfolding forms
state_forms = by_member TakenState STATE_TYPE ((λ ts h. ((end_is 0 (at 0 ts) (first_none _ _ (h End refl))).1, (end_is 0 (at 1 ts) (second_none _ _ (h End refl))).1)), tt)

state_taken : (t : ValueView) → IsOf (One STATE_TYPE) t → IsClear Frame t → (word_of (at 0 (parts_of t)) ≤ MAX_END) × (word_of (at 1 (parts_of t)) ≤ MAX_END)
state_taken t s c =
    let o = opened STATE_TYPE t s in
    state_forms (entry_of t) o.member (parts_of t) (clear_here Frame (entry_of t) (parts_of t) (subst (IsClear Frame) o.is c))

-- ---- replies: their positions are numbers of boxes

abbrev ChannelBounds : ChannelReply → Type 0
ChannelBounds (channel.Empty pts last) = pts ≤ MAX_END
ChannelBounds (channel.Part pts news others last) = pts ≤ MAX_END
ChannelBounds (channel.TooLong pts recent last) = pts ≤ MAX_END

abbrev Bounds : Reply → Type 0
Bounds (reply.Difference news secrets others xs state last) = (state.pts ≤ MAX_END) × (state.qts ≤ MAX_END)
Bounds (reply.Channel c) = ChannelBounds c
Bounds r = Unit {0}

abbrev FrameBounds : Message → Type 0
FrameBounds (frame.Push p) = IsPushInRange p
FrameBounds (frame.Reply n r) = Bounds r

abbrev TakenDifference : ℕ → List Cell → Type 0
TakenDifference k cs = (ts : ValueViews) → AreOf (first ts) cs ts → AreClear Frame ts → Bounds (difference_at k ts)

difference_forms : (k : ℕ) → IsTrue (constructs DIFFERENCE_TYPE k) → TakenDifference k (cells_of k)
unfolding forms
difference_forms = by_member TakenDifference DIFFERENCE_TYPE (
  (λ ts s c. tt),
  (
    (λ ts s c. state_taken (at 3 ts) (field_at (first ts) 3 (Bodies ∷ Bodies ∷ Many UPDATE_TYPE ∷ One STATE_TYPE ∷ []) ts s) (clear_at Frame 3 ts c)),
    (
      (λ ts s c. state_taken (at 3 ts) (field_at (first ts) 3 (Bodies ∷ Bodies ∷ Many UPDATE_TYPE ∷ One STATE_TYPE ∷ []) ts s) (clear_at Frame 3 ts c)),
      tt,
    ),
  ),
)

difference_taken : (t : ValueView) → IsOf (One DIFFERENCE_TYPE) t → IsClear Frame t → Bounds (difference_at (entry_of t) (parts_of t))
difference_taken t s c =
    let o = opened DIFFERENCE_TYPE t s in
    difference_forms (entry_of t) o.member (parts_of t) o.fields (clear_fields Frame (entry_of t) (parts_of t) (subst (IsClear Frame) o.is c))

abbrev TakenChannel : ℕ → List Cell → Type 0
TakenChannel k cs = (ts : ValueViews) → Holds k ts → ChannelBounds (channel_reply_at k ts)

channel_forms : (k : ℕ) → IsTrue (constructs CHANNEL_DIFFERENCE_TYPE k) → TakenChannel k (cells_of k)
unfolding forms
channel_forms = by_member TakenChannel CHANNEL_DIFFERENCE_TYPE ((λ ts h. (end_is 0 (at 2 ts) (h End refl)).1), ((λ ts h. (end_is 0 (at 2 ts) (h End refl)).1), ((λ ts h. (end_is 0 (at 2 ts) (h End refl)).1), tt)))

channel_taken : (t : ValueView) → IsOf (One CHANNEL_DIFFERENCE_TYPE) t → IsClear Frame t → ChannelBounds (channel_reply_at (entry_of t) (parts_of t))
channel_taken t s c =
    let o = opened CHANNEL_DIFFERENCE_TYPE t s in
    channel_forms (entry_of t) o.member (parts_of t) (clear_here Frame (entry_of t) (parts_of t) (subst (IsClear Frame) o.is c))

-- ---- frames

abbrev TakenFrame : ℕ → List Cell → Type 0
TakenFrame k cs = (ts : ValueViews) → AreOf (first ts) cs ts → AreClear Frame ts → FrameBounds (frame_at k ts)

frame_forms : (k : ℕ) → IsTrue (constructs FRAME_TYPE k) → TakenFrame k (cells_of k)
unfolding forms
frame_forms = by_member TakenFrame FRAME_TYPE (
  (λ ts s c. push_taken (at 0 ts) (field_at (first ts) 0 (One UPDATES_TYPE ∷ []) ts s) (clear_at Frame 0 ts c)),
  (
    (λ ts s c. tt),
    (
      (λ ts s c. difference_taken (at 1 ts) (field_at (first ts) 1 (Whole ∷ One DIFFERENCE_TYPE ∷ []) ts s) (clear_at Frame 1 ts c)),
      (
        (λ ts s c. channel_taken (at 1 ts) (field_at (first ts) 1 (Whole ∷ One CHANNEL_DIFFERENCE_TYPE ∷ []) ts s) (clear_at Frame 1 ts c)),
        (
          (λ ts s c. tt),
          (
            (λ ts s c. tt),
            tt,
          ),
        ),
      ),
    ),
  ),
)

frame_bounds : (t : ValueView) → IsOf (One FRAME_TYPE) t → IsClear Frame t → FrameBounds (frame_in t)
frame_bounds t s c =
    let o = opened FRAME_TYPE t s in
    frame_forms (entry_of t) o.member (parts_of t) o.fields (clear_fields Frame (entry_of t) (parts_of t) (subst (IsClear Frame) o.is c))

others_are : (os : List Placed) → All IsOther os → AreOthers os × AreCountedOthers os
others_are [] all = (tt, tt)
others_are (o ∷ os) all =
    let one : IsOther o = All-head IsOther o os all in
    let rest = others_are os (All-tail IsOther o os all) in
    ((one.1, rest.0), (one.0.0, rest.1))

-- a reply that is its value's again, with parts that have a spelling, and within these bounds
in_range : (r : Reply) (n : ℕ) → IsFrame (frame.Reply n r) → FitsFrame (frame.Reply n r) → Bounds r → IsReplyInRange r
in_range (reply.State s) n is fits bounds = tt
in_range (reply.Empty date seq) n is fits bounds = tt
in_range (reply.Difference news secrets others xs state last) n is fits bounds =
    let os = others_are others is.0 in
    (bounds.0, bounds.1, fits.1.0.0, fits.1.1.0, os.0, os.1)
in_range (reply.Channel (channel.Empty pts last)) n is fits bounds = bounds
in_range (reply.Channel (channel.Part pts news others last)) n is fits bounds =
    let os = others_are others is in
    (bounds, fits.1.1.0, os.0, os.1)
in_range (reply.Channel (channel.TooLong pts recent last)) n is fits bounds = bounds
in_range (reply.Receipt r) n is fits bounds = tt
in_range (reply.Error code message) n is fits bounds = tt

hearable : (f : Message) → IsFrame f → FitsFrame f → FrameBounds f → IsHearable f
hearable (frame.Push p) is fits bounds = bounds
hearable (frame.Reply n r) is fits bounds = in_range r n is fits bounds

pub frames_taken : ReadFramesAreTaken
frames_taken p good f b is means =
    let r = read_of frames frame_tree frame_in IsFrame frame_laws p good f b is means in
    let fits : FitsFrame f = meant_fit frames frame_tree frame_in IsFrame frame_laws FitsFrame frame_in_fits p good f b is means in
    hearable f is fits (subst FrameBounds r.message (frame_bounds (owned p means.v) r.kind_is (clear_of Frame (owned p means.v) r.clear)))
