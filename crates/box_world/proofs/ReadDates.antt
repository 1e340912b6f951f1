-- Frames and saved clients that are read have dates below 2^31.
use Rattle.std.specs.Prelude.{IsTrue}
use Rattle.std.proofs.Common.{◌≡◌, ℕ, ◌<◌, ◌≤◌, ◌^◌, ◌-◌, List, [], ◌∷◌, None, refl, subst, arith}
use Rattle.tl_types.specs.Values.{ValueView, ValueViews}
use Rattle.box_events.specs.declared.saved.Saved.{Saved}
use Rattle.wire_forms.specs.declared.form.Cell.{Cell}
use Rattle.wire_forms.specs.declared.form.Cell.TheVariants.{Whole, Bodies, Many, One}
use Rattle.wire_forms.specs.declared.numbers.TheConstants.{UPDATE_TYPE, UPDATES_TYPE, STATE_TYPE, DIFFERENCE_TYPE, FRAME_TYPE, CLIENT_TYPE}
use Rattle.wire_forms.specs.Forms.{forms, constructs, cells_of}
use Rattle.wire_forms.specs.Parts.{first, at, parts_of, entry_of, word_of}
use Rattle.wire_forms.specs.IsOf.{IsOf, AreOf}
use Rattle.wire_forms.proofs.Cells.{field_at}
use Rattle.wire_forms.proofs.Records.{opened, by_member}
use Rattle.wire_profile.specs.SpelledForms.{owned}
use Rattle.wire_values.specs.Frames.{push_at, difference_at, frame_at, frame_in, frame_tree}
use Rattle.wire_values.specs.SavedClients.{saved_at, saved_in, saved_tree}
use Rattle.wire_values.specs.Carried.{IsSaved}
use Rattle.wire_values.specs.CarriedFrames.{IsFrame}
use Rattle.wire_profile.specs.Causes.{is_for, broken}
use Rattle.wire_profile.specs.Clear.{IsClear, AreClear}
use Rattle.wire_profile.specs.declared.rule.Rule.{Rule}
use Rattle.wire_profile.specs.declared.rule.Rule.TheVariants.{Date}
use Rattle.wire_profile.specs.declared.rule.Root.TheVariants.{Frame, Saved as SavedRoot}
use Rattle.wire_profile.proofs.ClearValues.{clear_of, clear_here, clear_fields, clear_at}
use Rattle.wire_profile.proofs.RuleFacts.{date_is}
use Rattle.box_wire.specs.Kinds.{frames, saved_clients}
use Rattle.box_wire.proofs.FrameLaws.{frame_laws}
use Rattle.box_wire.proofs.SavedLaws.{saved_laws}
use Rattle.box_world.proofs.SpelledMessages.{read_of}
use Rattle.box_world.specs.Dated.{IsDatedFrame, IsDatedPush, IsDatedReply}
use Rattle.box_world.specs.FrameLaws.{ReadClientsAreDated, ReadFramesAreDated}
use Rattle.box_world.proofs.ReadUpdates.{Holds}

low_date : (n : ℕ) → n ≤ 2 ^ 31 - 1 → n < 2 ^ 31
low_date n le = omega (arith, le)

-- ---- pushes

abbrev DatedPush : ℕ → List Cell → Type 0
DatedPush k cs = (ts : ValueViews) → Holds k ts → IsDatedPush (push_at k ts)

push_forms : (k : ℕ) → IsTrue (constructs UPDATES_TYPE k) → DatedPush k (cells_of k)
unfolding forms
push_forms = by_member DatedPush UPDATES_TYPE ((λ ts h. tt), ((λ ts h. low_date (word_of (at 1 ts)) (date_is (at 1 ts) (h Date refl))), ((λ ts h. low_date (word_of (at 1 ts)) (date_is (at 1 ts) (h Date refl))), tt)))

push_dated : (t : ValueView) → IsOf (One UPDATES_TYPE) t → IsClear Frame t → IsDatedPush (push_at (entry_of t) (parts_of t))
push_dated t s c =
    let o = opened UPDATES_TYPE t s in
    push_forms (entry_of t) o.member (parts_of t) (clear_here Frame (entry_of t) (parts_of t) (subst (IsClear Frame) o.is c))

-- ---- differences

abbrev DatedState : ℕ → List Cell → Type 0
DatedState k cs = (ts : ValueViews) → Holds k ts → word_of (at 2 ts) < 2 ^ 31

state_forms : (k : ℕ) → IsTrue (constructs STATE_TYPE k) → DatedState k (cells_of k)
unfolding forms
state_forms = by_member DatedState STATE_TYPE ((λ ts h. low_date (word_of (at 2 ts)) (date_is (at 2 ts) (h Date refl))), tt)

state_dated : (t : ValueView) → IsOf (One STATE_TYPE) t → IsClear Frame t → word_of (at 2 (parts_of t)) < 2 ^ 31
state_dated t s c =
    let o = opened STATE_TYPE t s in
    state_forms (entry_of t) o.member (parts_of t) (clear_here Frame (entry_of t) (parts_of t) (subst (IsClear Frame) o.is c))

abbrev difference_cells : List Cell
difference_cells = Bodies ∷ Bodies ∷ Many UPDATE_TYPE ∷ One STATE_TYPE ∷ []

abbrev DatedDifference : ℕ → List Cell → Type 0
DatedDifference k cs = (ts : ValueViews) → AreOf (first ts) cs ts → Holds k ts → AreClear Frame ts → IsDatedReply (difference_at k ts)

difference_forms : (k : ℕ) → IsTrue (constructs DIFFERENCE_TYPE k) → DatedDifference k (cells_of k)
unfolding forms
difference_forms = by_member DatedDifference DIFFERENCE_TYPE (
  (λ ts s h c. low_date (word_of (at 0 ts)) (date_is (at 0 ts) (h Date refl))),
  (
    (λ ts s h c. state_dated (at 3 ts) (field_at (first ts) 3 difference_cells ts s) (clear_at Frame 3 ts c)),
    (
      (λ ts s h c. state_dated (at 3 ts) (field_at (first ts) 3 difference_cells ts s) (clear_at Frame 3 ts c)),
      tt,
    ),
  ),
)

difference_dated : (t : ValueView) → IsOf (One DIFFERENCE_TYPE) t → IsClear Frame t → IsDatedReply (difference_at (entry_of t) (parts_of t))
difference_dated t s c =
    let o = opened DIFFERENCE_TYPE t s in
    let clear = subst (IsClear Frame) o.is c in
    difference_forms (entry_of t) o.member (parts_of t) o.fields (clear_here Frame (entry_of t) (parts_of t) clear) (clear_fields Frame (entry_of t) (parts_of t) clear)

-- ---- frames

abbrev DatedFrame : ℕ → List Cell → Type 0
DatedFrame k cs = (ts : ValueViews) → AreOf (first ts) cs ts → AreClear Frame ts → IsDatedFrame (frame_at k ts)

frame_forms : (k : ℕ) → IsTrue (constructs FRAME_TYPE k) → DatedFrame k (cells_of k)
unfolding forms
frame_forms = by_member DatedFrame FRAME_TYPE (
  (λ ts s c. push_dated (at 0 ts) (field_at (first ts) 0 (One UPDATES_TYPE ∷ []) ts s) (clear_at Frame 0 ts c)),
  (
    (λ ts s c. tt),
    (
      (λ ts s c. difference_dated (at 1 ts) (field_at (first ts) 1 (Whole ∷ One DIFFERENCE_TYPE ∷ []) ts s) (clear_at Frame 1 ts c)),
      (
        (λ ts s c. tt),
        (
          (λ ts s c. tt),
          (
            (λ ts s c. tt),
            tt,
          ),
        ),
      ),
    ),
  ),
)

frame_dated : (t : ValueView) → IsOf (One FRAME_TYPE) t → IsClear Frame t → IsDatedFrame (frame_in t)
frame_dated t s c =
    let o = opened FRAME_TYPE t s in
    frame_forms (entry_of t) o.member (parts_of t) o.fields (clear_fields Frame (entry_of t) (parts_of t) (subst (IsClear Frame) o.is c))

pub frames_dated : ReadFramesAreDated
frames_dated p good f b is means =
    let r = read_of frames frame_tree frame_in IsFrame frame_laws p good f b is means in
    subst IsDatedFrame r.message (frame_dated (owned p means.v) r.kind_is (clear_of Frame (owned p means.v) r.clear))

-- ---- saved clients

abbrev HoldsSaved : ℕ → ValueViews → Type 0
HoldsSaved k ts = (rule : Rule) → IsTrue (is_for SavedRoot rule) → broken rule k ts ≡ None

abbrev DatedClient : ℕ → List Cell → Type 0
DatedClient k cs = (ts : ValueViews) → HoldsSaved k ts → (saved_at ts).date < 2 ^ 31

client_forms : (k : ℕ) → IsTrue (constructs CLIENT_TYPE k) → DatedClient k (cells_of k)
unfolding forms
client_forms = by_member DatedClient CLIENT_TYPE ((λ ts h. low_date (word_of (at 4 ts)) (date_is (at 4 ts) (h Date refl))), tt)

client_dated : (t : ValueView) → IsOf (One CLIENT_TYPE) t → IsClear SavedRoot t → (saved_in t).date < 2 ^ 31
client_dated t s c =
    let o = opened CLIENT_TYPE t s in
    client_forms (entry_of t) o.member (parts_of t) (clear_here SavedRoot (entry_of t) (parts_of t) (subst (IsClear SavedRoot) o.is c))

pub clients_dated : ReadClientsAreDated
clients_dated p good s b is means =
    let r = read_of saved_clients saved_tree saved_in IsSaved saved_laws p good s b is means in
    subst (λ (x : Saved). x.date < 2 ^ 31) r.message (client_dated (owned p means.v) r.kind_is (clear_of SavedRoot (owned p means.v) r.clear))
