-- A frame's value is the value that it was read of, made normal.
use Rattle.std.proofs.Common.{◌≡◌, ℕ, List, [], ◌∷◌, Bool, true, false, refl, sym, ap, ◌∙◌, subst}
use Rattle.std.specs.Prelude.{IsTrue, ◌==◌, ◌||◌, if◌then◌else◌}
use Rattle.std.proofs.lemmas.Bool.{eqb-true, eq-eqb}
use Rattle.tl_types.specs.Values.{ValueView, list, node, ValueViews, no_values, value, values_of}
use Rattle.box_events.specs.declared.updates.Update.{Update}
use Rattle.box_events.specs.declared.updates.Push.TheVariants as push
use Rattle.wire_forms.specs.declared.form.Cell.{Cell}
use Rattle.wire_forms.specs.declared.form.Cell.TheVariants.{Whole, Signed, Key, Bodies, Flags, Final, Many, One, Bare}
use Rattle.wire_forms.specs.declared.numbers.TheConstants.{UPDATE_TYPE, UPDATES_TYPE, STATE_TYPE, DIFFERENCE_TYPE, CHANNEL_DIFFERENCE_TYPE, FRAME_TYPE, UPDATES_TOO_LONG, UPDATES, UPDATES_COMBINED, STATE, DIFFERENCE_EMPTY, DIFFERENCE, DIFFERENCE_SLICE, CHANNEL_DIFFERENCE_EMPTY, CHANNEL_DIFFERENCE, CHANNEL_DIFFERENCE_TOO_LONG, PUSH, STATE_REPLY, DIFFERENCE_REPLY, CHANNEL_REPLY, RECEIPT_REPLY, ERROR_REPLY, RECEIPT}
use Rattle.wire_forms.specs.Forms.{forms, constructs, cells_of}
use Rattle.wire_forms.specs.Parts.{first, rest, at, parts_of, entry_of, word_of, number, flag, is_final, each, row}
use Rattle.wire_forms.specs.IsOf.{IsOf, AreOf}
use Rattle.wire_forms.proofs.Words.{by_test}
use Rattle.wire_forms.proofs.Cells.{fields_are, field_at}
use Rattle.wire_forms.proofs.Records.{opened, opened_bare, by_member}
use Rattle.wire_values.specs.Updates.{update_tree, update_in, setting_tree, setting_in}
use Rattle.wire_values.specs.Others.{joined, others_of, settings_of}
use Rattle.wire_values.specs.Frames.{push_tree, push_at, state_tree, state_at, receipt_tree, receipt_at, bodies_tree, bodies_in, difference_at, bits, channel_reply_tree, channel_reply_at, reply_tree, frame_tree, frame_at, frame_in, start_of}
use Rattle.wire_values.specs.Normal.{normal_updates, normal_difference, normal_channel_reply, normal_frame_at, normal_frame}
use Rattle.wire_values.specs.Kept.{IsKept, AllKept, EachKept}
use Rattle.wire_values.proofs.KeptParts.{kept_parts, kept_at}
use Rattle.wire_values.proofs.SameUpdates.{updates_same, others_same, settings_same, all_others_same}

-- ---- pushes

container_same : (ts : ValueViews) → AreOf (first ts) (Many UPDATE_TYPE ∷ Whole ∷ Whole ∷ []) ts → EachKept ts → push_tree (push_at UPDATES ts) ≡ node UPDATES ts
container_same ts s c =
    let us = updates_same (at 0 ts) (field_at (first ts) 0 (Many UPDATE_TYPE ∷ Whole ∷ Whole ∷ []) ts s) (kept_at 0 ts c) in
    by_test (word_of (at 2 ts) == word_of (at 2 ts)) _ _ (eq-eqb _ _ refl)
    ∙ ap (λ (u : ValueViews). node UPDATES (values_of (list u ∷ number (word_of (at 1 ts)) ∷ number (word_of (at 2 ts)) ∷ []))) us
    ∙ ap (node UPDATES) (fields_are (first ts) (Many UPDATE_TYPE ∷ Whole ∷ Whole ∷ []) ts s)

-- which of the two forms it is, by the two tests
packed_by : (us : List Update) (date start seq : ℕ) (same none : Bool) → (start == seq) ≡ same → (seq == 0) ≡ none → push_tree (push.Container us date (start_of start seq) seq)
    ≡ (if same || none then node UPDATES (values_of (list (row update_tree us) ∷ number date ∷ number seq ∷ [])) else node UPDATES_COMBINED (values_of (list (row update_tree us) ∷ number date ∷ number start ∷ number seq ∷ [])))
packed_by us date start seq true true e f = by_test (start_of start seq == seq) _ _ (eq-eqb _ _ (by_test (seq == 0) 0 start f ∙ sym (eqb-true seq 0 f)))
packed_by us date start seq false true e f = by_test (start_of start seq == seq) _ _ (eq-eqb _ _ (by_test (seq == 0) 0 start f ∙ sym (eqb-true seq 0 f)))
packed_by us date start seq true false e f = by_test (start_of start seq == seq) _ _ (ap (λ (b : Bool). (if b then 0 else start) == seq) f ∙ e)
packed_by us date start seq false false e f =
    ap (λ (b : Bool). push_tree (push.Container us date (if b then 0 else start) seq)) f
    ∙ ap (λ (b : Bool). if b then node UPDATES (values_of (list (row update_tree us) ∷ number date ∷ number seq ∷ [])) else node UPDATES_COMBINED (values_of (list (row update_tree us) ∷ number date ∷ number start ∷ number seq ∷ []))) e

combined_same : (ts : ValueViews) → AreOf (first ts) (Many UPDATE_TYPE ∷ Whole ∷ Whole ∷ Whole ∷ []) ts → EachKept ts → push_tree (push_at UPDATES_COMBINED ts) ≡ normal_updates UPDATES_COMBINED ts
combined_same ts s c =
    let us = updates_same (at 0 ts) (field_at (first ts) 0 (Many UPDATE_TYPE ∷ Whole ∷ Whole ∷ Whole ∷ []) ts s) (kept_at 0 ts c) in
    let all = fields_are (first ts) (Many UPDATE_TYPE ∷ Whole ∷ Whole ∷ Whole ∷ []) ts s in
    let same = word_of (at 2 ts) == word_of (at 3 ts) in
    let none = word_of (at 3 ts) == 0 in
    packed_by (each update_in (parts_of (at 0 ts))) (word_of (at 1 ts)) (word_of (at 2 ts)) (word_of (at 3 ts)) same none refl refl
    ∙ ap (λ (u : ValueViews). if same || none then node UPDATES (values_of (list u ∷ number (word_of (at 1 ts)) ∷ number (word_of (at 3 ts)) ∷ [])) else node UPDATES_COMBINED (values_of (list u ∷ number (word_of (at 1 ts)) ∷ number (word_of (at 2 ts)) ∷ number (word_of (at 3 ts)) ∷ []))) us
    ∙ ap (λ (u : ValueViews). if same || none then node UPDATES (values_of (at 0 u ∷ at 1 u ∷ at 3 u ∷ [])) else node UPDATES_COMBINED u) all

abbrev SamePush : ℕ → List Cell → Type 0
SamePush k cs = (ts : ValueViews) → AreOf (first ts) cs ts → EachKept ts → push_tree (push_at k ts) ≡ normal_updates k ts

push_forms : (k : ℕ) → IsTrue (constructs UPDATES_TYPE k) → SamePush k (cells_of k)
unfolding forms
push_forms = by_member SamePush UPDATES_TYPE (
  (λ ts s c. ap (node UPDATES_TOO_LONG) (fields_are (first ts) [] ts s)),
  (
    container_same,
    (
      combined_same,
      tt,
    ),
  ),
)

pub push_same : (t : ValueView) → IsOf (One UPDATES_TYPE) t → AllKept t → push_tree (push_at (entry_of t) (parts_of t)) ≡ normal_updates (entry_of t) (parts_of t)
push_same t s c =
    let o = opened UPDATES_TYPE t s in
    push_forms (entry_of t) o.member (parts_of t) o.fields (kept_parts t c)

-- ---- states and receipts

pub bare_state_same : (t : ValueView) → IsOf (Bare STATE) t → state_tree (state_at (parts_of t)) ≡ t
unfolding forms
bare_state_same t s =
    let o = opened_bare STATE t s in
    ap (node STATE) (fields_are (first (parts_of t)) (Whole ∷ Whole ∷ Whole ∷ Whole ∷ []) (parts_of t) o.1) ∙ sym o.0

abbrev SameState : ℕ → List Cell → Type 0
SameState k cs = (ts : ValueViews) → AreOf (first ts) cs ts → state_tree (state_at ts) ≡ node k ts

state_forms : (k : ℕ) → IsTrue (constructs STATE_TYPE k) → SameState k (cells_of k)
unfolding forms
state_forms = by_member SameState STATE_TYPE ((λ ts s. ap (node STATE) (fields_are (first ts) (Whole ∷ Whole ∷ Whole ∷ Whole ∷ []) ts s)), tt)

pub state_same : (t : ValueView) → IsOf (One STATE_TYPE) t → state_tree (state_at (parts_of t)) ≡ t
state_same t s =
    let o = opened STATE_TYPE t s in
    state_forms (entry_of t) o.member (parts_of t) o.fields ∙ sym o.is

pub receipt_same : (t : ValueView) → IsOf (Bare RECEIPT) t → receipt_tree (receipt_at (parts_of t)) ≡ t
unfolding forms
receipt_same t s =
    let o = opened_bare RECEIPT t s in
    ap (node RECEIPT) (fields_are (first (parts_of t)) (Whole ∷ Whole ∷ Whole ∷ Whole ∷ []) (parts_of t) o.1) ∙ sym o.0

-- ---- differences

abbrev differing : ℕ → ValueView → ValueView
differing n d = node DIFFERENCE_REPLY (values_of (number n ∷ d ∷ []))

abbrev SameDifference : ℕ → List Cell → Type 0
SameDifference k cs = (ts : ValueViews) → AreOf (first ts) cs ts → IsKept k ts → EachKept ts → (n : ℕ) → reply_tree n (difference_at k ts) ≡ differing n (normal_difference k ts)

last_same : SameDifference DIFFERENCE (Bodies ∷ Bodies ∷ Many UPDATE_TYPE ∷ One STATE_TYPE ∷ [])
last_same ts s k c n =
    let cells = Bodies ∷ Bodies ∷ Many UPDATE_TYPE ∷ One STATE_TYPE ∷ [] in
    let m = field_at (first ts) 2 cells ts s in
    let os = others_same true (at 2 ts) m (kept_at 2 ts c) (k.difference refl) in
    let ss = settings_same (at 2 ts) m (kept_at 2 ts c) in
    let us = parts_of (at 2 ts) in
    ap (λ (u : ValueViews). differing n (node DIFFERENCE (values_of (bodies_tree (bodies_in (at 0 ts)) ∷ bodies_tree (bodies_in (at 1 ts)) ∷ list (joined u (row setting_tree (each setting_in (settings_of us)))) ∷ state_tree (state_at (parts_of (at 3 ts))) ∷ [])))) os
    ∙ ap (λ (u : ValueViews). differing n (node DIFFERENCE (values_of (bodies_tree (bodies_in (at 0 ts)) ∷ bodies_tree (bodies_in (at 1 ts)) ∷ list (joined (others_of us) u) ∷ state_tree (state_at (parts_of (at 3 ts))) ∷ [])))) ss
    ∙ ap (λ (u : ValueView). differing n (node DIFFERENCE (values_of (bodies_tree (bodies_in (at 0 ts)) ∷ bodies_tree (bodies_in (at 1 ts)) ∷ list (joined (others_of us) (settings_of us)) ∷ u ∷ [])))) (state_same (at 3 ts) (field_at (first ts) 3 cells ts s))
    ∙ ap (λ (u : ValueViews). differing n (node DIFFERENCE (values_of (at 0 u ∷ at 1 u ∷ list (joined (others_of us) (settings_of us)) ∷ at 3 ts ∷ [])))) (fields_are (first ts) cells ts s)

joined_none : (ts : ValueViews) → joined ts no_values ≡ ts
joined_none no_values = refl
joined_none (value t ts) = ap (value t) (joined_none ts)

slice_same : SameDifference DIFFERENCE_SLICE (Bodies ∷ Bodies ∷ Many UPDATE_TYPE ∷ One STATE_TYPE ∷ [])
slice_same ts s k c n =
    let cells = Bodies ∷ Bodies ∷ Many UPDATE_TYPE ∷ One STATE_TYPE ∷ [] in
    let os = all_others_same (at 2 ts) (field_at (first ts) 2 cells ts s) (kept_at 2 ts c) (k.slice refl) in
    ap (λ (u : ValueViews). differing n (node DIFFERENCE_SLICE (values_of (bodies_tree (bodies_in (at 0 ts)) ∷ bodies_tree (bodies_in (at 1 ts)) ∷ list u ∷ state_tree (state_at (parts_of (at 3 ts))) ∷ [])))) (joined_none _ ∙ os)
    ∙ ap (λ (u : ValueView). differing n (node DIFFERENCE_SLICE (values_of (bodies_tree (bodies_in (at 0 ts)) ∷ bodies_tree (bodies_in (at 1 ts)) ∷ list (parts_of (at 2 ts)) ∷ u ∷ [])))) (state_same (at 3 ts) (field_at (first ts) 3 cells ts s))
    ∙ ap (λ (u : ValueViews). differing n (node DIFFERENCE_SLICE u)) (fields_are (first ts) cells ts s)

difference_forms : (k : ℕ) → IsTrue (constructs DIFFERENCE_TYPE k) → SameDifference k (cells_of k)
unfolding forms
difference_forms = by_member SameDifference DIFFERENCE_TYPE (
  (λ ts s k c n. ap (λ (u : ValueViews). differing n (node DIFFERENCE_EMPTY u)) (fields_are (first ts) (Whole ∷ Whole ∷ []) ts s)),
  (
    last_same,
    (
      slice_same,
      tt,
    ),
  ),
)

difference_same : (t : ValueView) → IsOf (One DIFFERENCE_TYPE) t → AllKept t → (n : ℕ) → reply_tree n (difference_at (entry_of t) (parts_of t)) ≡ differing n (normal_difference (entry_of t) (parts_of t))
difference_same t s c n =
    let o = opened DIFFERENCE_TYPE t s in
    difference_forms (entry_of t) o.member (parts_of t) o.fields (subst AllKept o.is c).0 (kept_parts t c) n

-- ---- channels

abbrev SameChannel : ℕ → List Cell → Type 0
SameChannel k cs = (ts : ValueViews) → AreOf (first ts) cs ts → IsKept k ts → EachKept ts → channel_reply_tree (channel_reply_at k ts) ≡ normal_channel_reply k ts

part_same : SameChannel CHANNEL_DIFFERENCE (Flags ∷ Final ∷ Whole ∷ Bodies ∷ Many UPDATE_TYPE ∷ [])
part_same ts s k c =
    let cells = Flags ∷ Final ∷ Whole ∷ Bodies ∷ Many UPDATE_TYPE ∷ [] in
    let last = is_final (at 0 ts) in
    ap (λ (u : ValueViews). node CHANNEL_DIFFERENCE (values_of (bits last ∷ flag last ∷ number (word_of (at 2 ts)) ∷ bodies_tree (bodies_in (at 3 ts)) ∷ list u ∷ []))) (all_others_same (at 4 ts) (field_at (first ts) 4 cells ts s) (kept_at 4 ts c) (k.channel_difference refl))
    ∙ ap (λ (u : ValueViews). node CHANNEL_DIFFERENCE (value (bits last) (rest u))) (fields_are (first ts) cells ts s)

channel_forms : (k : ℕ) → IsTrue (constructs CHANNEL_DIFFERENCE_TYPE k) → SameChannel k (cells_of k)
unfolding forms
channel_forms = by_member SameChannel CHANNEL_DIFFERENCE_TYPE (
  (λ ts s k c. ap (λ (u : ValueViews). node CHANNEL_DIFFERENCE_EMPTY (value (bits (is_final (at 0 ts))) (rest u))) (fields_are (first ts) (Flags ∷ Final ∷ Whole ∷ []) ts s)),
  (
    part_same,
    (
      (λ ts s k c. ap (λ (u : ValueViews). node CHANNEL_DIFFERENCE_TOO_LONG (value (bits (is_final (at 0 ts))) (rest u))) (fields_are (first ts) (Flags ∷ Final ∷ Whole ∷ Bodies ∷ []) ts s)),
      tt,
    ),
  ),
)

channel_same : (t : ValueView) → IsOf (One CHANNEL_DIFFERENCE_TYPE) t → AllKept t → channel_reply_tree (channel_reply_at (entry_of t) (parts_of t)) ≡ normal_channel_reply (entry_of t) (parts_of t)
channel_same t s c =
    let o = opened CHANNEL_DIFFERENCE_TYPE t s in
    channel_forms (entry_of t) o.member (parts_of t) o.fields (subst AllKept o.is c).0 (kept_parts t c)

-- ---- frames

abbrev SameFrame : ℕ → List Cell → Type 0
SameFrame k cs = (ts : ValueViews) → AreOf (first ts) cs ts → EachKept ts → frame_tree (frame_at k ts) ≡ normal_frame_at k ts

push_frame : SameFrame PUSH (One UPDATES_TYPE ∷ [])
push_frame ts s c = ap (λ (u : ValueView). node PUSH (values_of (u ∷ []))) (push_same (at 0 ts) (field_at (first ts) 0 (One UPDATES_TYPE ∷ []) ts s) (kept_at 0 ts c))

state_frame : SameFrame STATE_REPLY (Whole ∷ Bare STATE ∷ [])
state_frame ts s c =
    ap (λ (u : ValueView). node STATE_REPLY (values_of (number (word_of (at 0 ts)) ∷ u ∷ []))) (bare_state_same (at 1 ts) (field_at (first ts) 1 (Whole ∷ Bare STATE ∷ []) ts s))
    ∙ ap (node STATE_REPLY) (fields_are (first ts) (Whole ∷ Bare STATE ∷ []) ts s)

difference_frame : SameFrame DIFFERENCE_REPLY (Whole ∷ One DIFFERENCE_TYPE ∷ [])
difference_frame ts s c =
    let cells = Whole ∷ One DIFFERENCE_TYPE ∷ [] in
    difference_same (at 1 ts) (field_at (first ts) 1 cells ts s) (kept_at 1 ts c) (word_of (at 0 ts))
    ∙ ap (λ (u : ValueViews). node DIFFERENCE_REPLY (values_of (at 0 u ∷ normal_difference (entry_of (at 1 ts)) (parts_of (at 1 ts)) ∷ []))) (fields_are (first ts) cells ts s)

channel_frame : SameFrame CHANNEL_REPLY (Whole ∷ One CHANNEL_DIFFERENCE_TYPE ∷ [])
channel_frame ts s c =
    let cells = Whole ∷ One CHANNEL_DIFFERENCE_TYPE ∷ [] in
    ap (λ (u : ValueView). node CHANNEL_REPLY (values_of (number (word_of (at 0 ts)) ∷ u ∷ []))) (channel_same (at 1 ts) (field_at (first ts) 1 cells ts s) (kept_at 1 ts c))
    ∙ ap (λ (u : ValueViews). node CHANNEL_REPLY (values_of (at 0 u ∷ normal_channel_reply (entry_of (at 1 ts)) (parts_of (at 1 ts)) ∷ []))) (fields_are (first ts) cells ts s)

receipt_frame : SameFrame RECEIPT_REPLY (Whole ∷ Bare RECEIPT ∷ [])
receipt_frame ts s c =
    ap (λ (u : ValueView). node RECEIPT_REPLY (values_of (number (word_of (at 0 ts)) ∷ u ∷ []))) (receipt_same (at 1 ts) (field_at (first ts) 1 (Whole ∷ Bare RECEIPT ∷ []) ts s))
    ∙ ap (node RECEIPT_REPLY) (fields_are (first ts) (Whole ∷ Bare RECEIPT ∷ []) ts s)

frame_forms : (k : ℕ) → IsTrue (constructs FRAME_TYPE k) → SameFrame k (cells_of k)
unfolding forms
frame_forms = by_member SameFrame FRAME_TYPE (
  push_frame,
  (
    state_frame,
    (
      difference_frame,
      (
        channel_frame,
        (
          receipt_frame,
          (
            (λ ts s c. ap (node ERROR_REPLY) (fields_are (first ts) (Whole ∷ Signed ∷ Key ∷ []) ts s)),
            tt,
          ),
        ),
      ),
    ),
  ),
)

pub frame_same : (t : ValueView) → IsOf (One FRAME_TYPE) t → AllKept t → frame_tree (frame_in t) ≡ normal_frame t
frame_same t s c =
    let o = opened FRAME_TYPE t s in
    frame_forms (entry_of t) o.member (parts_of t) o.fields (kept_parts t c)
