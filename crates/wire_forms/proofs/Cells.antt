-- What is one of a cell's is made of what it gives, and so are a form's fields.
use Rattle.std.proofs.Common.{◌≡◌, ℕ, zero, suc, List, [], ◌∷◌, refl, sym, ap, ◌∙◌}
use Rattle.tl_types.specs.Values.{ValueView, int, long, nat, text, list, ValueViews, no_values, value}
use Rattle.tl_types.specs.Conditions.{bits_of}
use Rattle.wire_forms.specs.declared.form.Cell.{Cell}
use Rattle.wire_forms.specs.declared.form.Cell.TheVariants.{Whole, Signed, Long, Body, Key, Ids, Bodies, Flags, Final, Many, One, Bare, ManyBare, Query}
use Rattle.wire_forms.specs.Parts.{first, rest, parts_of, text_of, int_of, long_of, word_of, number, flag, is_final, each, row}
use Rattle.wire_forms.specs.IsOf.{IsField, IsOf, EachOf, AreOf}
use Rattle.wire_forms.proofs.Words.{whole_again}

-- ---- one cell each

whole_is : (t : ValueView) → IsOf Whole t → number (word_of t) ≡ t
whole_is (int z) s = whole_again z s
whole_is t s = absurd s

signed_is : (t : ValueView) → IsOf Signed t → int (int_of t) ≡ t
signed_is (int z) s = refl
signed_is t s = absurd s

long_is : (t : ValueView) → IsOf Long t → long (long_of t) ≡ t
long_is (long z) s = refl
long_is t s = absurd s

body_is : (t : ValueView) → IsOf Body t → text (text_of t) ≡ t
body_is (text x) s = refl
body_is t s = absurd s

key_is : (t : ValueView) → IsOf Key t → text (text_of t) ≡ t
key_is (text x) s = refl
key_is t s = absurd s

flags_are : (t : ValueView) → IsOf Flags t → nat (bits_of t) ≡ t
flags_are (nat n) s = refl
flags_are t s = absurd s

ids_again : (ts : ValueViews) → EachOf Signed ts → row int (each int_of ts) ≡ ts
ids_again no_values s = refl
ids_again (value t ts) s = ap (λ (u : ValueView). value u (row int (each int_of ts))) (signed_is t s.0) ∙ ap (value t) (ids_again ts s.1)

bodies_again : (ts : ValueViews) → EachOf Body ts → row text (each text_of ts) ≡ ts
bodies_again no_values s = refl
bodies_again (value t ts) s = ap (λ (u : ValueView). value u (row text (each text_of ts))) (body_is t s.0) ∙ ap (value t) (bodies_again ts s.1)

ids_are : (t : ValueView) → IsOf Ids t → list (row int (each int_of (parts_of t))) ≡ t
ids_are (list ts) s = ap list (ids_again ts s.1)
ids_are t s = absurd s

bodies_are : (t : ValueView) → IsOf Bodies t → list (row text (each text_of (parts_of t))) ≡ t
bodies_are (list ts) s = ap list (bodies_again ts s.1)
bodies_are t s = absurd s

pub many_are : (h : ℕ) (t : ValueView) → IsOf (Many h) t → (list (parts_of t) ≡ t) × EachOf (One h) (parts_of t)
many_are h (list ts) s = (refl, s.1)
many_are h t s = absurd s

pub bare_are : (j : ℕ) (t : ValueView) → IsOf (ManyBare j) t → (list (parts_of t) ≡ t) × EachOf (Bare j) (parts_of t)
bare_are j (list ts) s = (refl, s.1)
bare_are j t s = absurd s

-- ---- the fields of a record, made anew of what they give

abbrev pub rebuilt_cell : ValueView → Cell → ValueView → ValueView
rebuilt_cell flags Whole t = number (word_of t)
rebuilt_cell flags Signed t = int (int_of t)
rebuilt_cell flags Long t = long (long_of t)
rebuilt_cell flags Body t = text (text_of t)
rebuilt_cell flags Key t = text (text_of t)
rebuilt_cell flags Ids t = list (row int (each int_of (parts_of t)))
rebuilt_cell flags Bodies t = list (row text (each text_of (parts_of t)))
rebuilt_cell flags Flags t = nat (bits_of t)
rebuilt_cell flags Final t = flag (is_final flags)
rebuilt_cell flags (Many h) t = list (parts_of t)
rebuilt_cell flags (One h) t = t
rebuilt_cell flags (Bare j) t = t
rebuilt_cell flags (ManyBare j) t = list (parts_of t)
rebuilt_cell flags Query t = t

abbrev pub rebuilt : ValueView → List Cell → ValueViews → ValueViews
rebuilt flags [] ts = no_values
rebuilt flags (c ∷ cs) ts = value (rebuilt_cell flags c (first ts)) (rebuilt flags cs (rest ts))

cell_is : (flags : ValueView) (c : Cell) (t : ValueView) → IsField flags c t (IsOf c t) → rebuilt_cell flags c t ≡ t
cell_is flags Whole t s = whole_is t s
cell_is flags Signed t s = signed_is t s
cell_is flags Long t s = long_is t s
cell_is flags Body t s = body_is t s
cell_is flags Key t s = key_is t s
cell_is flags Ids t s = ids_are t s
cell_is flags Bodies t s = bodies_are t s
cell_is flags Flags t s = flags_are t s
cell_is flags Final t s = sym s
cell_is flags (Many h) t s = (many_are h t s).0
cell_is flags (One h) t s = refl
cell_is flags (Bare j) t s = refl
cell_is flags (ManyBare j) t s = (bare_are j t s).0
cell_is flags Query t s = refl

pub fields_are : (flags : ValueView) (cs : List Cell) (ts : ValueViews) → AreOf flags cs ts → rebuilt flags cs ts ≡ ts
fields_are flags [] no_values s = refl
fields_are flags [] (value t ts) s = absurd s
fields_are flags (c ∷ cs) no_values s = absurd s
fields_are flags (c ∷ cs) (value t ts) s = ap (λ (u : ValueView). value u (rebuilt flags cs ts)) (cell_is flags c t s.0) ∙ ap (value t) (fields_are flags cs ts s.1)

-- the field at an index
abbrev pub FieldAt : ValueView → ℕ → List Cell → ValueViews → Type 0
FieldAt flags k [] ts = Unit {0}
FieldAt flags zero (c ∷ cs) ts = IsField flags c (first ts) (IsOf c (first ts))
FieldAt flags (suc k) (c ∷ cs) ts = FieldAt flags k cs (rest ts)

pub field_at : (flags : ValueView) (k : ℕ) (cs : List Cell) (ts : ValueViews) → AreOf flags cs ts → FieldAt flags k cs ts
field_at flags zero [] ts s = tt
field_at flags (suc k) [] ts s = tt
field_at flags zero (c ∷ cs) no_values s = absurd s
field_at flags (suc k) (c ∷ cs) no_values s = absurd s
field_at flags zero (c ∷ cs) (value t ts) s = s.0
field_at flags (suc k) (c ∷ cs) (value t ts) s = field_at flags k cs ts s.1
