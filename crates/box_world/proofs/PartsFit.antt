-- Values whose texts, numbers and lists have a spelling: each value of the forms is one, and so are the parts of the message that it holds.
use Rattle.std.specs.Prelude.{◌&&◌, nat_le, pos, slice_get, if◌then◌else◌}
use Rattle.std.proofs.Common.{◌≡◌, ℕ, zero, suc, ◌<◌, ◌≤◌, ◌^◌, List, [], ◌∷◌, length, Bool, true, false, refl, sym, ap, ◌∙◌, subst, arith}
use Rattle.std.specs.List.{All}
use Rattle.std.specs.Int.{w32, cast_unsigned}
use Rattle.std.proofs.lemmas.Int.{of_z-to_z}
use Rattle.std.proofs.lemmas.Bool.{leb-true}
use Rattle.std.proofs.lemmas.List.{length-map}
use Rattle.std.proofs.lemmas.List.Elements.{All-nil, All-cons}
use Rattle.tl_types.specs.Values.{ValueView, int, long, nat, opaque, text, truth, absent, list, node, call, ValueViews, no_values, value, count}
use Rattle.wire_forms.specs.declared.form.Cell.{Cell}
use Rattle.wire_forms.specs.declared.form.Cell.TheVariants.{Whole, Signed, Long, Body, Key, Ids, Bodies, Many, One, Bare, ManyBare, Query}
use Rattle.wire_forms.specs.Forms.{FormView, forms, cells_of, cells_in}
use Rattle.wire_forms.specs.Parts.{first, rest, at, parts_of, text_of, int_of, long_of, word_of, each, flag}
use Rattle.wire_forms.specs.IsOf.{IsInt, IsLong, IsText, IsShort, IsOf, EachOf, AreOf}
use Rattle.wire_forms.proofs.Records.{length_each}
use Rattle.box_world.proofs.Fields.{field_has}
use Rattle.wire_values.specs.CarriedFrames.{IsWord, IsList}

abbrev mutual
  pub Fits : ValueView → Type 0
  Fits (int z) = IsInt z
  Fits (long z) = IsLong z
  Fits (text s) = IsText s
  Fits (list vs) = IsShort vs × AllFit vs
  Fits (node k vs) = IsShort vs × AllFit vs
  Fits (call k vs) = IsShort vs × AllFit vs
  Fits v = Unit {0}

  pub AllFit : ValueViews → Type 0
  AllFit no_values = Unit {0}
  AllFit (value v vs) = Fits v × AllFit vs

-- ---- values of the forms

-- a form has few fields
all_few : List FormView → Bool
all_few [] = true
all_few (f ∷ fs) = nat_le (length f.parts) 100 && all_few fs

forms_few : all_few forms ≡ true
unfolding forms all_few
forms_few = refl

both_of : (a b : Bool) → (a && b) ≡ true → (a ≡ true) × (b ≡ true)
both_of true b e = (refl, e)
both_of false b e = absurd cc

few_at : (fs : List FormView) → all_few fs ≡ true → (k : ℕ) → length (cells_in (slice_get fs k)) ≤ 100
unfolding all_few
few_at [] all k = omega arith
few_at (f ∷ fs) all zero = let long = length-map f.parts (λ part. part.cell) in let few = leb-true _ _ (both_of (nat_le (length f.parts) 100) (all_few fs) all).0 in omega (arith, long, few)
few_at (f ∷ fs) all (suc k) = few_at fs (both_of (nat_le (length f.parts) 100) (all_few fs) all).1 k

few_cells : (k : ℕ) → length (cells_of k) ≤ 100
few_cells k = few_at forms forms_few k

counted : (flags : ValueView) (cs : List Cell) (vs : ValueViews) → AreOf flags cs vs → count vs ≡ length cs
counted flags [] no_values is = refl
counted flags (c ∷ cs) no_values is = absurd is
counted flags [] (value v vs) is = absurd is
counted flags (c ∷ cs) (value v vs) is = ap suc (counted flags cs vs is.1)

short_fields : (flags : ValueView) (k : ℕ) (vs : ValueViews) → AreOf flags (cells_of k) vs → IsShort vs
short_fields flags k vs is = let n = counted flags (cells_of k) vs is in let few = few_cells k in omega (arith, n, few)

flag_fits : (b : Bool) → Fits (flag b)
flag_fits true = tt
flag_fits false = tt

mutual
  pub fits_of : (t : ValueView) (c : Cell) → IsOf c t → Fits t
  fits_of (int z) Whole is = is
  fits_of (int z) Signed is = is
  fits_of (long z) Long is = is
  fits_of (text s) Body is = is
  fits_of (text s) Key is = is
  fits_of (nat n) c is = tt
  fits_of (opaque x) c is = tt
  fits_of truth c is = tt
  fits_of absent c is = tt
  fits_of (list vs) Ids is = (is.0, each_fits vs Signed is.1)
  fits_of (list vs) Bodies is = (is.0, each_fits vs Body is.1)
  fits_of (list vs) (Many h) is = (is.0, each_fits vs (One h) is.1)
  fits_of (list vs) (ManyBare j) is = (is.0, each_fits vs (Bare j) is.1)
  fits_of (node k vs) (One h) is = (short_fields (first vs) k vs is.1, fields_fit vs (first vs) (cells_of k) is.1)
  fits_of (node k vs) (Bare j) is = (short_fields (first vs) j vs is.1, fields_fit vs (first vs) (cells_of j) is.1)
  fits_of (call k vs) Query is = (short_fields (first vs) k vs is.1, fields_fit vs (first vs) (cells_of k) is.1)
  fits_of t c is = absurd is

  each_fits : (vs : ValueViews) (c : Cell) → EachOf c vs → AllFit vs
  each_fits no_values c is = tt
  each_fits (value v vs) c is = (fits_of v c is.0, each_fits vs c is.1)

  fields_fit : (vs : ValueViews) (flags : ValueView) (cs : List Cell) → AreOf flags cs vs → AllFit vs
  fields_fit no_values flags cs is = tt
  fields_fit (value v vs) flags [] is = absurd is
  fields_fit (value v vs) flags (c ∷ cs) is = (field_has (λ k w. Fits w) flag_fits flags c v (λ of. fits_of v c of) is.0, fields_fit vs flags cs is.1)

-- ---- what stands in them

no_int : IsInt (pos 0)
no_int = (0, omega arith, refl)

no_long : IsLong (pos 0)
no_long = (0, omega arith, refl)

pub int_fits : (t : ValueView) → Fits t → IsInt (int_of t)
int_fits (int z) f = f
int_fits t f = no_int

pub long_fits : (t : ValueView) → Fits t → IsLong (long_of t)
long_fits (long z) f = f
long_fits t f = no_long

no_text : IsText []
no_text = omega arith

pub text_fits : (t : ValueView) → Fits t → IsText (text_of t)
text_fits (text s) f = f
text_fits t f = no_text

pub word_fits : (t : ValueView) → Fits t → IsWord (word_of t)
word_fits t f =
    let n = int_fits t f in
    subst (λ (m : ℕ). m < 2 ^ 32) (sym (ap (cast_unsigned w32) n.2 ∙ of_z-to_z w32 n.0 n.1)) n.1

pub parts_fit : (t : ValueView) → Fits t → AllFit (parts_of t)
parts_fit (list vs) f = f.1
parts_fit (node k vs) f = f.1
parts_fit (call k vs) f = f.1
parts_fit t f = tt

none_short : IsShort no_values
none_short = omega arith

pub parts_short : (t : ValueView) → Fits t → IsShort (parts_of t)
parts_short (list vs) f = f.0
parts_short (node k vs) f = f.0
parts_short (call k vs) f = f.0
parts_short t f = none_short

first_fits : (ts : ValueViews) → AllFit ts → Fits (first ts)
first_fits no_values f = tt
first_fits (value t ts) f = f.0

rest_fit : (ts : ValueViews) → AllFit ts → AllFit (rest ts)
rest_fit no_values f = f
rest_fit (value t ts) f = f.1

pub at_fits : (i : ℕ) (ts : ValueViews) → AllFit ts → Fits (at i ts)
at_fits zero ts f = first_fits ts f
at_fits (suc i) ts f = at_fits i (rest ts) (rest_fit ts f)

-- ---- lists

pub each_fit : {A : Type 0} (P : A → Type 0) (f : ValueView → A) → ((t : ValueView) → Fits t → P (f t)) → (ts : ValueViews) → AllFit ts → All P (each f ts)
each_fit P f law no_values fits = All-nil P
each_fit P f law (value t ts) fits = All-cons P (f t) (each f ts) (law t fits.0) (each_fit P f law ts fits.1)

pub list_fits : {A : Type 0} (P : A → Type 0) (f : ValueView → A) → ((t : ValueView) → Fits t → P (f t)) → (t : ValueView) → Fits t → IsList P (each f (parts_of t))
list_fits P f law t fits = (subst (λ (n : ℕ). n < 2 ^ 31) (sym (length_each f (parts_of t))) (parts_short t fits), each_fit P f law (parts_of t) (parts_fit t fits))

-- one or another
pub either : {A : Type 0} (P : A → Type 0) (b : Bool) (x y : A) → P x → P y → P (if b then x else y)
either P true x y p q = p
either P false x y p q = q
