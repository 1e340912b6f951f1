-- An update's value is the value that it was read of.
use Rattle.std.proofs.Common.{◌≡◌, ℕ, List, [], ◌∷◌, Bool, true, false, refl, sym, ap, ◌∙◌, subst}
use Rattle.std.specs.Prelude.{IsTrue, not, ◌&&◌, ◌||◌, if◌then◌else◌}
use Rattle.tl_types.specs.Values.{ValueView, int, long, text, list, node, ValueViews, no_values, value, values_of}
use Rattle.box_events.specs.Events.{EventView}
use Rattle.wire_forms.specs.declared.form.Cell.{Cell}
use Rattle.wire_forms.specs.declared.form.Cell.TheVariants.{Whole, Signed, Long, Body, Key, Ids, Many, One}
use Rattle.wire_forms.specs.declared.numbers.TheConstants.{UPDATE_TYPE, UPDATE_NEW_MESSAGE, UPDATE_EDIT_MESSAGE, UPDATE_DELETE_MESSAGES, UPDATE_NEW_ENCRYPTED_MESSAGE, UPDATE_NEW_CHANNEL_MESSAGE, UPDATE_EDIT_CHANNEL_MESSAGE, UPDATE_DELETE_CHANNEL_MESSAGES, UPDATE_CHANNEL_TOO_LONG, UPDATE_SETTING, UPDATE_READ_HISTORY, UPDATE_READ_CHANNEL_HISTORY}
use Rattle.wire_forms.specs.Forms.{forms, constructs, cells_of}
use Rattle.wire_forms.specs.Parts.{first, at, parts_of, entry_of, text_of, int_of, long_of, word_of, number, each, row}
use Rattle.wire_forms.specs.IsOf.{IsOf, EachOf, AreOf}
use Rattle.wire_forms.proofs.Words.{clash}
use Rattle.wire_forms.proofs.Cells.{fields_are, many_are}
use Rattle.wire_forms.proofs.Records.{AllOf, opened, by_member, list_same}
use Rattle.wire_values.specs.Updates.{common_tree, channel_tree, update_tree, update_at, update_in, other_at, placed_tree, placed_in, setting_tree, setting_in, ids_in}
use Rattle.wire_values.specs.Others.{is_setting, is_other, kept, others_of, settings_of, are_others}
use Rattle.wire_values.specs.Kept.{IsKept, AllKept, EachKept}
use Rattle.wire_values.proofs.KeptParts.{kept_parts, kept_all, deletion_is, counted_ids}

-- ---- one form each

new_same : (ts : ValueViews) → AreOf (first ts) (Body ∷ Whole ∷ Whole ∷ []) ts → IsKept UPDATE_NEW_MESSAGE ts → update_tree (update_at UPDATE_NEW_MESSAGE ts) ≡ node UPDATE_NEW_MESSAGE ts
new_same ts s c =
    ap (λ (n : ℕ). node UPDATE_NEW_MESSAGE (values_of (text (text_of (at 0 ts)) ∷ number (word_of (at 1 ts)) ∷ number n ∷ []))) (sym (c.new refl))
    ∙ ap (node UPDATE_NEW_MESSAGE) (fields_are (first ts) (Body ∷ Whole ∷ Whole ∷ []) ts s)

edit_same : (ts : ValueViews) → AreOf (first ts) (Body ∷ Whole ∷ Whole ∷ []) ts → IsKept UPDATE_EDIT_MESSAGE ts → update_tree (update_at UPDATE_EDIT_MESSAGE ts) ≡ node UPDATE_EDIT_MESSAGE ts
edit_same ts s c =
    ap (λ (n : ℕ). node UPDATE_EDIT_MESSAGE (values_of (text (text_of (at 0 ts)) ∷ number (word_of (at 1 ts)) ∷ number n ∷ []))) (sym (c.edit refl))
    ∙ ap (node UPDATE_EDIT_MESSAGE) (fields_are (first ts) (Body ∷ Whole ∷ Whole ∷ []) ts s)

delete_same : (ts : ValueViews) → AreOf (first ts) (Ids ∷ Whole ∷ Whole ∷ []) ts → IsKept UPDATE_DELETE_MESSAGES ts → update_tree (update_at UPDATE_DELETE_MESSAGES ts) ≡ node UPDATE_DELETE_MESSAGES ts
delete_same ts s c =
    let many = counted_ids (at 0 ts) (word_of (at 2 ts)) (c.delete refl) in
    ap (λ (e : EventView). common_tree e (word_of (at 1 ts))) (deletion_is (ids_in (at 0 ts)) many.0)
    ∙ ap (λ (n : ℕ). node UPDATE_DELETE_MESSAGES (values_of (list (row int (ids_in (at 0 ts))) ∷ number (word_of (at 1 ts)) ∷ number n ∷ []))) many.1
    ∙ ap (node UPDATE_DELETE_MESSAGES) (fields_are (first ts) (Ids ∷ Whole ∷ Whole ∷ []) ts s)

read_same : (ts : ValueViews) → AreOf (first ts) (Signed ∷ Whole ∷ Whole ∷ []) ts → IsKept UPDATE_READ_HISTORY ts → update_tree (update_at UPDATE_READ_HISTORY ts) ≡ node UPDATE_READ_HISTORY ts
read_same ts s c =
    ap (λ (n : ℕ). node UPDATE_READ_HISTORY (values_of (int (int_of (at 0 ts)) ∷ number (word_of (at 1 ts)) ∷ number n ∷ []))) (sym (c.read refl))
    ∙ ap (node UPDATE_READ_HISTORY) (fields_are (first ts) (Signed ∷ Whole ∷ Whole ∷ []) ts s)

channel_new_same : (ts : ValueViews) → AreOf (first ts) (Long ∷ Body ∷ Whole ∷ Whole ∷ []) ts → IsKept UPDATE_NEW_CHANNEL_MESSAGE ts → update_tree (update_at UPDATE_NEW_CHANNEL_MESSAGE ts) ≡ node UPDATE_NEW_CHANNEL_MESSAGE ts
channel_new_same ts s c =
    ap (λ (n : ℕ). node UPDATE_NEW_CHANNEL_MESSAGE (values_of (long (long_of (at 0 ts)) ∷ text (text_of (at 1 ts)) ∷ number (word_of (at 2 ts)) ∷ number n ∷ []))) (sym (c.channel_new refl))
    ∙ ap (node UPDATE_NEW_CHANNEL_MESSAGE) (fields_are (first ts) (Long ∷ Body ∷ Whole ∷ Whole ∷ []) ts s)

channel_edit_same : (ts : ValueViews) → AreOf (first ts) (Long ∷ Body ∷ Whole ∷ Whole ∷ []) ts → IsKept UPDATE_EDIT_CHANNEL_MESSAGE ts → update_tree (update_at UPDATE_EDIT_CHANNEL_MESSAGE ts) ≡ node UPDATE_EDIT_CHANNEL_MESSAGE ts
channel_edit_same ts s c =
    ap (λ (n : ℕ). node UPDATE_EDIT_CHANNEL_MESSAGE (values_of (long (long_of (at 0 ts)) ∷ text (text_of (at 1 ts)) ∷ number (word_of (at 2 ts)) ∷ number n ∷ []))) (sym (c.channel_edit refl))
    ∙ ap (node UPDATE_EDIT_CHANNEL_MESSAGE) (fields_are (first ts) (Long ∷ Body ∷ Whole ∷ Whole ∷ []) ts s)

channel_delete_same : (ts : ValueViews) → AreOf (first ts) (Long ∷ Ids ∷ Whole ∷ Whole ∷ []) ts → IsKept UPDATE_DELETE_CHANNEL_MESSAGES ts → update_tree (update_at UPDATE_DELETE_CHANNEL_MESSAGES ts) ≡ node UPDATE_DELETE_CHANNEL_MESSAGES ts
channel_delete_same ts s c =
    let many = counted_ids (at 1 ts) (word_of (at 3 ts)) (c.channel_delete refl) in
    ap (λ (e : EventView). channel_tree (long_of (at 0 ts)) e (word_of (at 2 ts))) (deletion_is (ids_in (at 1 ts)) many.0)
    ∙ ap (λ (n : ℕ). node UPDATE_DELETE_CHANNEL_MESSAGES (values_of (long (long_of (at 0 ts)) ∷ list (row int (ids_in (at 1 ts))) ∷ number (word_of (at 2 ts)) ∷ number n ∷ []))) many.1
    ∙ ap (node UPDATE_DELETE_CHANNEL_MESSAGES) (fields_are (first ts) (Long ∷ Ids ∷ Whole ∷ Whole ∷ []) ts s)

channel_read_same : (ts : ValueViews) → AreOf (first ts) (Long ∷ Signed ∷ Whole ∷ Whole ∷ []) ts → IsKept UPDATE_READ_CHANNEL_HISTORY ts → update_tree (update_at UPDATE_READ_CHANNEL_HISTORY ts) ≡ node UPDATE_READ_CHANNEL_HISTORY ts
channel_read_same ts s c =
    ap (λ (n : ℕ). node UPDATE_READ_CHANNEL_HISTORY (values_of (long (long_of (at 0 ts)) ∷ int (int_of (at 1 ts)) ∷ number (word_of (at 2 ts)) ∷ number n ∷ []))) (sym (c.channel_read refl))
    ∙ ap (node UPDATE_READ_CHANNEL_HISTORY) (fields_are (first ts) (Long ∷ Signed ∷ Whole ∷ Whole ∷ []) ts s)

setting_form : (ts : ValueViews) → AreOf (first ts) (Key ∷ Body ∷ []) ts → update_tree (update_at UPDATE_SETTING ts) ≡ node UPDATE_SETTING ts
setting_form ts s = ap (node UPDATE_SETTING) (fields_are (first ts) (Key ∷ Body ∷ []) ts s)

-- ---- updates

abbrev SameUpdate : ℕ → List Cell → Type 0
SameUpdate k cs = (ts : ValueViews) → AreOf (first ts) cs ts → IsKept k ts → update_tree (update_at k ts) ≡ node k ts

update_forms : (k : ℕ) → IsTrue (constructs UPDATE_TYPE k) → SameUpdate k (cells_of k)
unfolding forms
update_forms = by_member SameUpdate UPDATE_TYPE (
  new_same,
  (
    edit_same,
    (
      delete_same,
      (
        (λ ts s c. ap (node UPDATE_NEW_ENCRYPTED_MESSAGE) (fields_are (first ts) (Body ∷ Whole ∷ []) ts s)),
        (
          channel_new_same,
          (
            channel_edit_same,
            (
              channel_delete_same,
              (
                (λ ts s c. ap (node UPDATE_CHANNEL_TOO_LONG) (fields_are (first ts) (Long ∷ []) ts s)),
                (
                  (λ ts s c. setting_form ts s),
                  (
                    read_same,
                    (
                      channel_read_same,
                      tt,
                    ),
                  ),
                ),
              ),
            ),
          ),
        ),
      ),
    ),
  ),
)

pub update_same : (t : ValueView) → IsOf (One UPDATE_TYPE) t → AllKept t → update_tree (update_in t) ≡ t
update_same t s c =
    let o = opened UPDATE_TYPE t s in
    update_forms (entry_of t) o.member (parts_of t) o.fields (subst AllKept o.is c).0 ∙ sym o.is

pub updates_same : (t : ValueView) → IsOf (Many UPDATE_TYPE) t → AllKept t → row update_tree (each update_in (parts_of t)) ≡ parts_of t
updates_same t s c = list_same (One UPDATE_TYPE) AllKept update_in update_tree update_same (parts_of t) (many_are UPDATE_TYPE t s).1 (kept_all (parts_of t) (kept_parts t c))

-- ---- a difference's other updates

abbrev SameOther : ℕ → List Cell → Type 0
SameOther k cs = (ts : ValueViews) → AreOf (first ts) cs ts → IsKept k ts → IsTrue (is_other (node k ts)) → common_tree (other_at k ts) (word_of (at 1 ts)) ≡ node k ts

other_forms : (k : ℕ) → IsTrue (constructs UPDATE_TYPE k) → SameOther k (cells_of k)
unfolding forms
other_forms = by_member SameOther UPDATE_TYPE (
  (λ ts s c e. absurd (clash e)),
  (
    (λ ts s c e. edit_same ts s c),
    (
      (λ ts s c e. delete_same ts s c),
      (
        (λ ts s c e. absurd (clash e)),
        (
          (λ ts s c e. absurd (clash e)),
          (
            (λ ts s c e. absurd (clash e)),
            (
              (λ ts s c e. absurd (clash e)),
              (
                (λ ts s c e. absurd (clash e)),
                (
                  (λ ts s c e. absurd (clash e)),
                  (
                    (λ ts s c e. read_same ts s c),
                    (
                      (λ ts s c e. absurd (clash e)),
                      tt,
                    ),
                  ),
                ),
              ),
            ),
          ),
        ),
      ),
    ),
  ),
)

placed_same : (t : ValueView) → IsOf (One UPDATE_TYPE) t → AllKept t → IsTrue (is_other t) → placed_tree (placed_in t) ≡ t
placed_same t s c e =
    let o = opened UPDATE_TYPE t s in
    other_forms (entry_of t) o.member (parts_of t) o.fields (subst AllKept o.is c).0 (subst (λ (u : ValueView). IsTrue (is_other u)) o.is e) ∙ sym o.is

abbrev SameSetting : ℕ → List Cell → Type 0
SameSetting k cs = (ts : ValueViews) → AreOf (first ts) cs ts → IsTrue (is_setting (node k ts)) → setting_tree (setting_in (node k ts)) ≡ node k ts

setting_forms : (k : ℕ) → IsTrue (constructs UPDATE_TYPE k) → SameSetting k (cells_of k)
unfolding forms
setting_forms = by_member SameSetting UPDATE_TYPE (
  (λ ts s e. absurd (clash e)),
  (
    (λ ts s e. absurd (clash e)),
    (
      (λ ts s e. absurd (clash e)),
      (
        (λ ts s e. absurd (clash e)),
        (
          (λ ts s e. absurd (clash e)),
          (
            (λ ts s e. absurd (clash e)),
            (
              (λ ts s e. absurd (clash e)),
              (
                (λ ts s e. absurd (clash e)),
                (
                  (λ ts s e. setting_form ts s),
                  (
                    (λ ts s e. absurd (clash e)),
                    (
                      (λ ts s e. absurd (clash e)),
                      tt,
                    ),
                  ),
                ),
              ),
            ),
          ),
        ),
      ),
    ),
  ),
)

setting_same : (t : ValueView) → IsOf (One UPDATE_TYPE) t → IsTrue (is_setting t) → setting_tree (setting_in t) ≡ t
setting_same t s e =
    let o = opened UPDATE_TYPE t s in
    setting_forms (entry_of t) o.member (parts_of t) o.fields (subst (λ (u : ValueView). IsTrue (is_setting u)) o.is e) ∙ sym o.is

-- those of a kind are each their own again
kept_step : {A : Type 0} (f : ValueView → A) (g : A → ValueView) (b : Bool) (t : ValueView) (ts : ValueViews) → (b ≡ true → g (f t) ≡ t) → row g (each f ts) ≡ ts → row g (each f (if b then value t ts else ts)) ≡ (if b then value t ts else ts)
kept_step f g true t ts law e = ap (λ (u : ValueView). value u (row g (each f ts))) (law refl) ∙ ap (value t) e
kept_step f g false t ts law e = e

kept_same : {A : Type 0} (P : ValueView → Type 0) (keep : ValueView → Bool) (f : ValueView → A) (g : A → ValueView) → ((t : ValueView) → IsOf (One UPDATE_TYPE) t → P t → keep t ≡ true → g (f t) ≡ t) → (ts : ValueViews) → EachOf (One UPDATE_TYPE) ts → AllOf P ts → row g (each f (kept keep ts)) ≡ kept keep ts
kept_same P keep f g law no_values s c = refl
kept_same P keep f g law (value t ts) s c = kept_step f g (keep t) t (kept keep ts) (λ e. law t s.0 c.0 e) (kept_same P keep f g law ts s.1 c.1)

-- what may stand there is another update where it is no setting
is_other_by : (o w s : Bool) → (o || (w && s)) ≡ true → not s ≡ true → o ≡ true
is_other_by true w s e n = refl
is_other_by false w true e n = absurd (clash n)
is_other_by false true false e n = absurd (clash e)
is_other_by false false false e n = absurd (clash e)

is_other_alone : (o s : Bool) → (o || (false && s)) ≡ true → o ≡ true
is_other_alone true s e = refl
is_other_alone false s e = absurd (clash e)

both : (a b : Bool) → (a && b) ≡ true → (a ≡ true) × (b ≡ true)
both true b e = (refl, e)
both false b e = absurd (clash e)

abbrev KeptOther : Bool → ValueView → Type 0
KeptOther w t = AllKept t × ((is_other t || (w && is_setting t)) ≡ true)

kept_others : (w : Bool) (ts : ValueViews) → EachKept ts → IsTrue (are_others w ts) → AllOf (KeptOther w) ts
kept_others w no_values c e = tt
kept_others w (value t ts) c e =
    let b = both (is_other t || (w && is_setting t)) (are_others w ts) e in
    ((c.0, b.0), kept_others w ts c.1 b.1)

pub others_same : (w : Bool) (t : ValueView) → IsOf (Many UPDATE_TYPE) t → AllKept t → IsTrue (are_others w (parts_of t)) → row placed_tree (each placed_in (others_of (parts_of t))) ≡ others_of (parts_of t)
others_same w t s c e =
    kept_same (KeptOther w) (λ u. not (is_setting u)) placed_in placed_tree (λ u is k n. placed_same u is k.0 (is_other_by (is_other u) w (is_setting u) k.1 n)) (parts_of t) (many_are UPDATE_TYPE t s).1 (kept_others w (parts_of t) (kept_parts t c) e)

pub settings_same : (t : ValueView) → IsOf (Many UPDATE_TYPE) t → AllKept t → row setting_tree (each setting_in (settings_of (parts_of t))) ≡ settings_of (parts_of t)
settings_same t s c = kept_same AllKept is_setting setting_in setting_tree (λ u is k e. setting_same u is e) (parts_of t) (many_are UPDATE_TYPE t s).1 (kept_all (parts_of t) (kept_parts t c))

-- where no setting may stand all are others
pub all_others_same : (t : ValueView) → IsOf (Many UPDATE_TYPE) t → AllKept t → IsTrue (are_others false (parts_of t)) → row placed_tree (each placed_in (parts_of t)) ≡ parts_of t
all_others_same t s c e =
    list_same (One UPDATE_TYPE) (KeptOther false) placed_in placed_tree (λ u is k. placed_same u is k.0 (is_other_alone (is_other u) (is_setting u) k.1)) (parts_of t) (many_are UPDATE_TYPE t s).1 (kept_others false (parts_of t) (kept_parts t c) e)
