-- Facts of the forms' table.
use Rattle.std.proofs.Common.{◌≡◌, ℕ, zero, suc, ◌<◌, List, [], ◌∷◌, length, map, Option, Some, None, Bool, true, false, ◌&&◌, ◌||◌, refl, sym, ap, ◌∙◌, subst, arith, true≢false, eq-eqb, eqb-true}
use Rattle.std.specs.Prelude.{IsTrue, slice_get, bytes_eq, not, is_some}
use Rattle.std.proofs.lemmas.Slice.Eq.{bytes_eq-Decides}
use Rattle.wire_forms.specs.declared.form.Cell.{Cell}
use Rattle.wire_forms.specs.declared.form.Cell.TheVariants.{Whole, Signed, Long, Body, Key, Ids, Bodies, Flags, Final, Many, One, Bare, ManyBare, Query}
use Rattle.wire_forms.specs.Forms.{FormView, PartView, forms, cells_in, cells_of, is_type, makes, constructs, answers, is_function}
use Rattle.wire_profile.specs.SpelledForms.{StandsAlone}

pub clash : false ≡ true → ⊥
clash e = true≢false (sym e)

pub some_is : {A : Type 0} (x y : A) → Some x ≡ Some y → x ≡ y
some_is x y e = cc

pub both_of : (a b : Bool) → (a && b) ≡ true → (a ≡ true) × (b ≡ true)
both_of true b e = (refl, e)
both_of false b e = absurd (clash e)

pub both_true : (a b : Bool) → a ≡ true → b ≡ true → (a && b) ≡ true
both_true true b e h = h
both_true false b e h = absurd (clash e)

-- ---- a test of each form

abbrev all_pass : (FormView → Bool) → List FormView → Bool
all_pass test [] = true
all_pass test (f ∷ fs) = test f && all_pass test fs

passes_at : (test : FormView → Bool) (fs : List FormView) → all_pass test fs ≡ true → (k : ℕ) (f : FormView) → slice_get fs k ≡ Some f → test f ≡ true
passes_at test [] all k f there = absurd cc
passes_at test (g ∷ fs) all zero f there = subst (λ (h : FormView). test h ≡ true) (some_is g f there) (both_of _ _ all).0
passes_at test (g ∷ fs) all (suc k) f there = passes_at test fs (both_of _ _ all).1 k f there

-- ---- names

abbrev is_named : List ℕ → List FormView → Bool
is_named name [] = false
is_named name (f ∷ fs) = bytes_eq name f.name || is_named name fs

abbrev are_apart : List FormView → Bool
are_apart [] = true
are_apart (f ∷ fs) = not (is_named f.name fs) && are_apart fs

forms_apart : are_apart forms ≡ true
unfolding forms
forms_apart = refl

bytes_self : (xs : List ℕ) → bytes_eq xs xs ≡ true
bytes_self xs = (bytes_eq-Decides xs xs).1 refl

other_name : (f : FormView) (fs : List FormView) → is_named f.name fs ≡ false → (k : ℕ) (g : FormView) → slice_get fs k ≡ Some g → f.name ≡ g.name → ⊥
other_name f [] none k g there same = absurd cc
other_name f (h ∷ fs) none zero g there same =
    let here : bytes_eq f.name h.name ≡ true = ap (bytes_eq f.name) (ap (λ (x : FormView). x.name) (some_is h g there) ∙ sym same) ∙ bytes_self f.name in
    clash (sym none ∙ ap (λ (b : Bool). b || is_named f.name fs) here)
other_name f (h ∷ fs) none (suc k) g there same = other_name f fs (later (bytes_eq f.name h.name) (is_named f.name fs) none) k g there same
  where
    later : (a b : Bool) → (a || b) ≡ false → b ≡ false
    later true b e = absurd (true≢false e)
    later false b e = e

not_is : (b : Bool) → not b ≡ true → b ≡ false
not_is true e = absurd (clash e)
not_is false e = refl

same_name : (fs : List FormView) → are_apart fs ≡ true → (j k : ℕ) (f g : FormView) → slice_get fs j ≡ Some f → slice_get fs k ≡ Some g → f.name ≡ g.name → j ≡ k
same_name [] apart j k f g here there same = absurd cc
same_name (h ∷ fs) apart zero zero f g here there same = refl
same_name (h ∷ fs) apart zero (suc k) f g here there same =
    absurd (other_name h fs (not_is _ (both_of _ _ apart).0) k g there (ap (λ (x : FormView). x.name) (some_is h f here) ∙ same))
same_name (h ∷ fs) apart (suc j) zero f g here there same =
    absurd (other_name h fs (not_is _ (both_of _ _ apart).0) j f here (ap (λ (x : FormView). x.name) (some_is h g there) ∙ sym same))
same_name (h ∷ fs) apart (suc j) (suc k) f g here there same = ap suc (same_name fs (both_of _ _ apart).1 j k f g here there same)

-- no two forms have one name
pub one_form : (j k : ℕ) (f g : FormView) → slice_get forms j ≡ Some f → slice_get forms k ≡ Some g → f.name ≡ g.name → j ≡ k
one_form j k f g = same_name forms forms_apart j k f g

-- ---- cells

abbrev is_made : Option FormView → Bool
is_made None = false
is_made (Some f) = not f.function && is_some f.result

-- a cell that is a flag, or stands alone, among these forms
abbrev is_good : List FormView → Cell → Bool
is_good fs (Bare j) = is_made (slice_get fs j)
is_good fs (ManyBare j) = is_made (slice_get fs j)
is_good fs c = true

abbrev are_good : List FormView → List PartView → Bool
are_good fs [] = true
are_good fs (part ∷ parts) = is_good fs part.cell && are_good fs parts

good_forms : all_pass (λ f. are_good forms f.parts) forms ≡ true
unfolding forms
good_forms = refl

-- each cell is the final flag or stands alone
abbrev pub AreGood : List Cell → Type 0
AreGood [] = Unit {0}
AreGood (Final ∷ cs) = AreGood cs
AreGood (c ∷ cs) = StandsAlone c × AreGood cs

made_of : (h : ℕ) (o : Option ℕ) → o ≡ Some h → is_type h o ≡ true
made_of h None e = absurd cc
made_of h (Some g) e = eq-eqb g h (some_is g h e)

made_is : (o : Option FormView) → is_made o ≡ true → (h : ℕ) × (makes h o ≡ true)
made_is None e = absurd (clash e)
made_is (Some f) e = by f.result refl (both_of _ _ e).1
  where
    by : (o : Option ℕ) → f.result ≡ o → is_some o ≡ true → (h : ℕ) × (makes h (Some f) ≡ true)
    by None is some = absurd (clash some)
    by (Some h) is some = (h, both_true (not f.function) (is_type h f.result) (both_of _ _ e).0 (made_of h f.result is))

good_cells : (parts : List PartView) → are_good forms parts ≡ true → AreGood (map (λ part. part.cell) parts)
good_cells [] e = tt
good_cells (part ∷ parts) e = good_cell part.cell (both_of _ _ e).0 (good_cells parts (both_of _ _ e).1)
  where
    good_cell : (c : Cell) → is_good forms c ≡ true → AreGood (map (λ q. q.cell) parts) → AreGood (c ∷ map (λ q. q.cell) parts)
    good_cell Final is rest = rest
    good_cell (Bare j) is rest = (made_is (slice_get forms j) is, rest)
    good_cell (ManyBare j) is rest = (made_is (slice_get forms j) is, rest)
    good_cell Whole is rest = (tt, rest)
    good_cell Signed is rest = (tt, rest)
    good_cell Long is rest = (tt, rest)
    good_cell Body is rest = (tt, rest)
    good_cell Key is rest = (tt, rest)
    good_cell Ids is rest = (tt, rest)
    good_cell Bodies is rest = (tt, rest)
    good_cell Flags is rest = (tt, rest)
    good_cell (Many h) is rest = (tt, rest)
    good_cell (One h) is rest = (tt, rest)
    good_cell Query is rest = (tt, rest)

pub form_is_good : (k : ℕ) (f : FormView) → slice_get forms k ≡ Some f → AreGood (map (λ part. part.cell) f.parts)
form_is_good k f there = good_cells f.parts (passes_at (λ g. are_good forms g.parts) forms good_forms k f there)

-- ---- queries

abbrev pub is_query : Cell → Bool
is_query Query = true
is_query c = false

abbrev pub has_query : List PartView → Bool
has_query [] = false
has_query (part ∷ parts) = is_query part.cell || has_query parts

-- the flags come before what stands by them
abbrev pub is_flag : Cell → Bool
is_flag Final = true
is_flag c = false

abbrev pub begins_with_flag : List PartView → Bool
begins_with_flag [] = false
begins_with_flag (part ∷ parts) = is_flag part.cell

none_begin : all_pass (λ f. not (begins_with_flag f.parts)) forms ≡ true
unfolding forms
none_begin = refl

pub no_flag_first : (k : ℕ) (f : FormView) → slice_get forms k ≡ Some f → begins_with_flag f.parts ≡ false
no_flag_first k f there = not_is _ (passes_at (λ g. not (begins_with_flag g.parts)) forms none_begin k f there)

constructors_ask : all_pass (λ f. f.function || not (has_query f.parts)) forms ≡ true
unfolding forms
constructors_ask = refl

-- only functions have a query
pub no_query : (k : ℕ) (f : FormView) → slice_get forms k ≡ Some f → f.function ≡ false → has_query f.parts ≡ false
no_query k f there is = not_is _ (ap (λ (b : Bool). b || not (has_query f.parts)) (sym is) ∙ passes_at (λ g. g.function || not (has_query g.parts)) forms constructors_ask k f there)

-- ---- forms by their numbers

-- form k is f
abbrev pub IsFormAt : ℕ → FormView → Type 0
IsFormAt k f = slice_get forms k ≡ Some f

-- form k is a constructor of type h
pub record IsMemberForm (h k : ℕ) (f : FormView) : Type 0 where
  pub there : IsFormAt k f
  pub function : f.function ≡ false
  pub result : f.result ≡ Some h

type_is : (h : ℕ) (o : Option ℕ) → is_type h o ≡ true → o ≡ Some h
type_is h None e = absurd (clash e)
type_is h (Some g) e = ap Some (eqb-true g h e)

member_in : (h : ℕ) (o : Option FormView) → makes h o ≡ true → (f : FormView) × (o ≡ Some f) × (f.function ≡ false) × (f.result ≡ Some h)
member_in h None e = absurd (clash e)
member_in h (Some f) e = let both = both_of _ _ e in (f, refl, not_is _ both.0, type_is h f.result both.1)

pub member_form : (h k : ℕ) → IsTrue (constructs h k) → (f : FormView) × IsMemberForm h k f
member_form h k is = let m = member_in h (slice_get forms k) is in (m.0, record { there = m.1; function = m.2; result = m.3 })

function_in : (o : Option FormView) → answers o ≡ true → (f : FormView) × (o ≡ Some f) × (f.function ≡ true)
function_in None e = absurd (clash e)
function_in (Some f) e = (f, refl, e)

pub function_form : (k : ℕ) → IsTrue (is_function k) → (f : FormView) × IsFormAt k f × (f.function ≡ true)
function_form k is = function_in (slice_get forms k) is

there_in : {A : Type 0} (xs : List A) (k : ℕ) → k < length xs → (x : A) × (slice_get xs k ≡ Some x)
there_in [] k lt = absurd (omega arith)
there_in (x ∷ xs) zero lt = (x, refl)
there_in (x ∷ xs) (suc k) lt = there_in xs k (omega arith)

pub form_there : (k : ℕ) → k < length forms → (f : FormView) × IsFormAt k f
form_there k lt = there_in forms k lt

pub within : {A : Type 0} (xs : List A) (k : ℕ) (x : A) → slice_get xs k ≡ Some x → k < length xs
within [] k x there = absurd cc
within (y ∷ ys) zero x there = omega arith
within (y ∷ ys) (suc k) x there = let lt = within ys k x there in omega (arith, lt)

pub cells_are : (k : ℕ) (f : FormView) → IsFormAt k f → cells_of k ≡ map (λ part. part.cell) f.parts
cells_are k f there = ap cells_in there
