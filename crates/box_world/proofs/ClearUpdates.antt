-- Events and settings whose values break no rule of a frame.
use Rattle.std.proofs.Common.{◌≡◌, ℕ, ◌-◌, ◌<◌, ◌≤◌, ◌^◌, ℤ, List, [], ◌∷◌, length, None, refl, sym, ◌∙◌, subst, arith}
use Rattle.std.specs.List.{All}
use Rattle.std.proofs.lemmas.List.Elements.{All-head, All-tail}
use Rattle.tl_types.specs.Values.{ValueView, int, long, text, list, node, ValueViews, value, values_of, count}
use Rattle.box_events.specs.declared.limits.TheConstants.{MAX_END, MAX_IDS}
use Rattle.box_events.specs.declared.settings.Setting as settings
use Rattle.box_events.specs.Events.{EventView, added, edited, deleted, read, count_of}
use Rattle.box_events.specs.Views.{HasCount}
use Rattle.wire_forms.specs.Parts.{row, number, word_of, held}
use Rattle.wire_forms.proofs.Records.{count_row}
use Rattle.wire_forms.proofs.Words.{again}
use Rattle.wire_forms.specs.declared.numbers.TheConstants.{UPDATE_NEW_MESSAGE, UPDATE_EDIT_MESSAGE, UPDATE_DELETE_MESSAGES, UPDATE_NEW_ENCRYPTED_MESSAGE, UPDATE_NEW_CHANNEL_MESSAGE, UPDATE_EDIT_CHANNEL_MESSAGE, UPDATE_DELETE_CHANNEL_MESSAGES, UPDATE_SETTING, UPDATE_READ_HISTORY, UPDATE_READ_CHANNEL_HISTORY}
use Rattle.wire_values.specs.Updates.{common_tree, channel_tree, setting_tree}
use Rattle.wire_profile.specs.Ranges.{bad_number, bad_end, bad_date, bad_seq, not_one, not_of_ids}
use Rattle.wire_profile.specs.Rules.{version_fault, number_fault, update_fault, count_fault, end_fault, date_fault, setting_fault, seq_fault}
use Rattle.wire_profile.specs.Causes.{broken}
use Rattle.wire_profile.specs.Clear.{IsClear, AreClear}
use Rattle.wire_profile.specs.declared.rule.Rule.{Rule}
use Rattle.wire_profile.specs.declared.rule.Rule.TheVariants.{Version, Number, Update, Count, End, Date, Setting, Seq}
use Rattle.wire_profile.specs.declared.rule.Root.{Root}
use Rattle.wire_profile.specs.declared.rule.Root.TheVariants.{Frame}
use Rattle.wire_profile.proofs.ClearValues.{clear_node, clear_value}
use Rattle.wire_profile.proofs.RuleFacts.{number_of, end_of, date_of, seq_of, one_of, ids_of}

-- ---- records

-- a record breaks no rule, its faults in the order of the rules
pub unbroken : (k : ℕ) (vs : ValueViews) → version_fault k vs ≡ None → number_fault k vs ≡ None → update_fault k vs ≡ None → count_fault k vs ≡ None → end_fault k vs ≡ None → date_fault k vs ≡ None → setting_fault k vs ≡ None
    → seq_fault k vs ≡ None → (rule : Rule) → broken rule k vs ≡ None
unbroken k vs a b c d e f g h rule = elim rule as (λ (r : Rule). broken r k vs ≡ None) [
  | Version ↦ a
  | Number ↦ b
  | Update ↦ c
  | Count ↦ d
  | End ↦ e
  | Date ↦ f
  | Setting ↦ g
  | Seq ↦ h
]

pub record_clear : (root : Root) (k : ℕ) (vs : ValueViews) → ((rule : Rule) → broken rule k vs ≡ None) → AreClear root vs → IsClear root (node k vs)
record_clear root k vs here fields = clear_node root k vs (λ rule is. here rule) fields

-- ---- numbers

pub number_ok : (least n : ℕ) → least ≤ n → n < 2 ^ 31 → bad_number least (number n) ≡ None
number_ok least n a b = number_of least (number n) (subst (λ (m : ℕ). least ≤ m) (sym (again n)) a) (subst (λ (m : ℕ). m ≤ 2 ^ 31 - 1) (sym (again n)) (omega (arith, b)))

pub date_ok : (n : ℕ) → n < 2 ^ 31 → bad_date (number n) ≡ None
date_ok n b = date_of (number n) (subst (λ (m : ℕ). m ≤ 2 ^ 31 - 1) (sym (again n)) (omega (arith, b)))

pub seq_ok : (n : ℕ) → n ≤ MAX_END → bad_seq (number n) ≡ None
seq_ok n b = seq_of (number n) (subst (λ (m : ℕ). m ≤ MAX_END) (sym (again n)) b)

-- an end that isn't below a count
pub end_ok : (least n : ℕ) → least ≤ n → n ≤ MAX_END → bad_end least (number n) ≡ None
end_ok least n a b = end_of least (number n) (subst (λ (m : ℕ). least ≤ m) (sym (again n)) a) (subst (λ (m : ℕ). m ≤ MAX_END) (sym (again n)) b)

pub count_ok : (c n : ℕ) → c ≤ n → n ≤ MAX_END → bad_end (word_of (number c)) (number n) ≡ None
count_ok c n a b = end_ok (word_of (number c)) n (subst (λ (m : ℕ). m ≤ n) (sym (again c)) a) b

pub one_ok : (pts : ValueView) → not_one pts (number 1) ≡ None
one_ok pts = one_of pts (number 1) (again 1)

held_is : (n : ℕ) → n ≤ MAX_IDS → held n ≡ n
held_is n few = omega (arith, few)

pub ids_ok : (ids : List ℤ) (pts : ValueView) → 1 ≤ length ids → length ids ≤ MAX_IDS → not_of_ids (list (row int ids)) pts (number (held (length ids))) ≡ None
ids_ok ids pts some few =
    let many : count (row int ids) ≡ length ids = count_row int ids in
    ids_of (list (row int ids)) pts (number (held (length ids))) (subst (λ (m : ℕ). 1 ≤ m) (sym many) some) (subst (λ (m : ℕ). m ≤ MAX_IDS) (sym many) few) (again (held (length ids)) ∙ held_is (length ids) few ∙ sym many)

pub held_ok : (n pts : ℕ) → n ≤ MAX_IDS → n ≤ pts → pts ≤ MAX_END → bad_end (word_of (number (held n))) (number pts) ≡ None
held_ok n pts few a b = count_ok (held n) pts (subst (λ (m : ℕ). m ≤ pts) (sym (held_is n few)) a) b

-- ---- values of rows

ints_clear : (root : Root) (ids : List ℤ) → AreClear root (row int ids)
ints_clear root [] = λ rule is. refl
ints_clear root (x ∷ xs) = clear_value root (int x) (row int xs) (λ rule is. refl) (ints_clear root xs)

pub texts_clear : (root : Root) (bodies : List (List ℕ)) → AreClear root (row text bodies)
texts_clear root [] = λ rule is. refl
texts_clear root (x ∷ xs) = clear_value root (text x) (row text xs) (λ rule is. refl) (texts_clear root xs)

pub all_clear : {A : Type 0} (root : Root) (f : A → ValueView) (P : A → Type 0) → ((x : A) → P x → IsClear root (f x)) → (xs : List A) → All P xs → AreClear root (row f xs)
all_clear root f P law [] all = λ rule is. refl
all_clear root f P law (x ∷ xs) all = clear_value root (f x) (row f xs) (law x (All-head P x xs all)) (all_clear root f P law xs (All-tail P x xs all))

-- a list, then what follows
pub list_then : (root : Root) (us vs : ValueViews) → AreClear root us → AreClear root vs → AreClear root (value (list us) vs)
list_then root us vs a b = clear_value root (list us) vs a b

-- ---- events

-- an event that ends at pts
pub record Ends (e : EventView) (pts : ℕ) : Type 0 where
  pub count : HasCount e
  pub least : count_of e ≤ pts
  pub most : pts ≤ MAX_END

pub common_clear : (e : EventView) (pts : ℕ) → Ends e pts → IsClear Frame (common_tree e pts)
common_clear (added body) pts e = record_clear Frame UPDATE_NEW_MESSAGE (values_of (text body ∷ number pts ∷ number 1 ∷ [])) (unbroken _ _ refl refl refl (one_ok (number pts)) (count_ok 1 pts e.least e.most) refl refl refl) (λ rule is. refl)
common_clear (edited body) pts e = record_clear Frame UPDATE_EDIT_MESSAGE (values_of (text body ∷ number pts ∷ number 1 ∷ [])) (unbroken _ _ refl refl refl (one_ok (number pts)) (count_ok 1 pts e.least e.most) refl refl refl) (λ rule is. refl)
common_clear (deleted ids) pts e =
    record_clear Frame UPDATE_DELETE_MESSAGES (values_of (list (row int ids) ∷ number pts ∷ number (held (length ids)) ∷ []))
    (unbroken _ _ refl refl refl (ids_ok ids (number pts) e.count.0 e.count.1) (held_ok (length ids) pts e.count.1 e.least e.most) refl refl refl)
    (list_then Frame (row int ids) (values_of (number pts ∷ number (held (length ids)) ∷ [])) (ints_clear Frame ids) (λ rule is. refl))
common_clear (read id) pts e = record_clear Frame UPDATE_READ_HISTORY (values_of (int id ∷ number pts ∷ number 1 ∷ [])) (unbroken _ _ refl refl refl (one_ok (number pts)) (count_ok 1 pts e.least e.most) refl refl refl) (λ rule is. refl)

pub channel_clear : (id : ℤ) (e : EventView) (pts : ℕ) → Ends e pts → IsClear Frame (channel_tree id e pts)
channel_clear id (added body) pts e =
    record_clear Frame UPDATE_NEW_CHANNEL_MESSAGE (values_of (long id ∷ text body ∷ number pts ∷ number 1 ∷ [])) (unbroken _ _ refl refl refl (one_ok (number pts)) (count_ok 1 pts e.least e.most) refl refl refl) (λ rule is. refl)
channel_clear id (edited body) pts e =
    record_clear Frame UPDATE_EDIT_CHANNEL_MESSAGE (values_of (long id ∷ text body ∷ number pts ∷ number 1 ∷ [])) (unbroken _ _ refl refl refl (one_ok (number pts)) (count_ok 1 pts e.least e.most) refl refl refl) (λ rule is. refl)
channel_clear id (deleted ids) pts e =
    record_clear Frame UPDATE_DELETE_CHANNEL_MESSAGES (values_of (long id ∷ list (row int ids) ∷ number pts ∷ number (held (length ids)) ∷ []))
    (unbroken _ _ refl refl refl (ids_ok ids (number pts) e.count.0 e.count.1) (held_ok (length ids) pts e.count.1 e.least e.most) refl refl refl)
    (clear_value Frame (long id) (values_of (list (row int ids) ∷ number pts ∷ number (held (length ids)) ∷ [])) (λ rule is. refl)
    (list_then Frame (row int ids) (values_of (number pts ∷ number (held (length ids)) ∷ [])) (ints_clear Frame ids) (λ rule is. refl)))
channel_clear id (read max_id) pts e =
    record_clear Frame UPDATE_READ_CHANNEL_HISTORY (values_of (long id ∷ int max_id ∷ number pts ∷ number 1 ∷ [])) (unbroken _ _ refl refl refl (one_ok (number pts)) (count_ok 1 pts e.least e.most) refl refl refl) (λ rule is. refl)

pub secret_clear : (body : List ℕ) (qts : ℕ) → 1 ≤ qts → qts ≤ MAX_END → IsClear Frame (node UPDATE_NEW_ENCRYPTED_MESSAGE (values_of (text body ∷ number qts ∷ [])))
secret_clear body qts a b = record_clear Frame UPDATE_NEW_ENCRYPTED_MESSAGE (values_of (text body ∷ number qts ∷ [])) (unbroken _ _ refl refl refl refl (end_ok 1 qts a b) refl refl refl) (λ rule is. refl)

pub setting_clear : (x : settings.Setting) → IsClear Frame (setting_tree x)
setting_clear x = record_clear Frame UPDATE_SETTING (values_of (text x.key ∷ text x.value ∷ [])) (unbroken _ _ refl refl refl refl refl refl refl refl) (λ rule is. refl)
