-- Records and calls are taken apart by their forms.
use Rattle.std.proofs.Common.{◌≡◌, ℕ, zero, suc, ◌+◌, ◌<◌, ◌^◌, List, [], ◌∷◌, length, Option, Some, None, Bool, true, false, refl, sym, ap, ◌∙◌, subst, arith}
use Rattle.std.specs.Prelude.{IsTrue, slice_get}
use Rattle.std.specs.List.{All}
use Rattle.tl_types.specs.Values.{ValueView, node, call, ValueViews, no_values, value, count}
use Rattle.wire_forms.specs.declared.form.Cell.{Cell}
use Rattle.wire_forms.specs.declared.form.Cell.TheVariants.{One, Bare, Query}
use Rattle.wire_forms.specs.Forms.{FormView, forms, cells_in, cells_of, makes, constructs, answers, is_function}
use Rattle.wire_forms.specs.Parts.{first, parts_of, entry_of, each, row}
use Rattle.wire_forms.specs.IsOf.{IsShort, IsOf, EachOf, AreOf}
use Rattle.wire_forms.proofs.Words.{clash}

-- a value of a type is a record of one of its forms
pub record IsRecord (h : ℕ) (t : ValueView) : Type 0 where
  pub is : t ≡ node (entry_of t) (parts_of t)
  pub member : IsTrue (constructs h (entry_of t))
  pub fields : AreOf (first (parts_of t)) (cells_of (entry_of t)) (parts_of t)

pub opened : (h : ℕ) (t : ValueView) → IsOf (One h) t → IsRecord h t
opened h (node k ts) s = record { is = refl; member = s.0; fields = s.1 }
opened h t s = absurd s

pub opened_bare : (j : ℕ) (t : ValueView) → IsOf (Bare j) t → (t ≡ node j (parts_of t)) × AreOf (first (parts_of t)) (cells_of j) (parts_of t)
opened_bare j (node k ts) s = (ap (λ (i : ℕ). node i ts) s.0, s.1)
opened_bare j t s = absurd s

-- a call is one of a function
pub record IsCall (t : ValueView) : Type 0 where
  pub is : t ≡ call (entry_of t) (parts_of t)
  pub member : IsTrue (is_function (entry_of t))
  pub fields : AreOf (first (parts_of t)) (cells_of (entry_of t)) (parts_of t)

pub opened_call : (t : ValueView) → IsOf Query t → IsCall t
opened_call (call k ts) s = record { is = refl; member = s.0; fields = s.1 }
opened_call t s = absurd s

-- ---- a fact about each form of a kind

abbrev pub Guarded : Bool → Type 0 → Type 0 → Type 0
Guarded true A B = A × B
Guarded false A B = B

abbrev pub ForForms : (Option FormView → Bool) → (ℕ → List Cell → Type 0) → ℕ → List FormView → Type 0
ForForms test P n [] = Unit {0}
ForForms test P n (f ∷ fs) = Guarded (test (Some f)) (P n (cells_in (Some f))) (ForForms test P (suc n) fs)

guard_here : (b : Bool) (A B : Type 0) → IsTrue b → Guarded b A B → A
guard_here true A B e g = g.0
guard_here false A B e g = absurd (clash e)

guard_later : (b : Bool) (A B : Type 0) → Guarded b A B → B
guard_later true A B g = g.1
guard_later false A B g = g

form_from : (test : Option FormView → Bool) → test None ≡ false → (P : ℕ → List Cell → Type 0) (n : ℕ) (fs : List FormView) → ForForms test P n fs → (i : ℕ) → IsTrue (test (slice_get fs i)) → (k : ℕ) → k ≡ n + i → P k (cells_in (slice_get fs i))
form_from test none P n [] all i is k e = absurd (clash (sym none ∙ is))
form_from test none P n (f ∷ fs) all zero is k e =
    let n_is : n ≡ k = omega (arith, e) in
    subst (λ (j : ℕ). P j (cells_in (Some f))) n_is (guard_here (test (Some f)) (P n (cells_in (Some f))) (ForForms test P (suc n) fs) is all)
form_from test none P n (f ∷ fs) all (suc i) is k e =
    form_from test none P (suc n) fs (guard_later (test (Some f)) (P n (cells_in (Some f))) (ForForms test P (suc n) fs) all) i is k (omega (arith, e))

-- of a type's forms
pub by_member : (P : ℕ → List Cell → Type 0) (h : ℕ) → ForForms (makes h) P 0 forms → (k : ℕ) → IsTrue (constructs h k) → P k (cells_of k)
by_member P h all k is = form_from (makes h) refl P 0 forms all k is k (omega arith)

-- of functions
pub by_function : (P : ℕ → List Cell → Type 0) → ForForms answers P 0 forms → (k : ℕ) → IsTrue (is_function k) → P k (cells_of k)
by_function P all k is = form_from answers refl P 0 forms all k is k (omega arith)

-- ---- lists

-- each element has a property
abbrev pub AllOf : (ValueView → Type 0) → ValueViews → Type 0
AllOf P no_values = Unit {0}
AllOf P (value t ts) = P t × AllOf P ts

-- elements that are each their own again
pub list_same : {A : Type 0} (c : Cell) (P : ValueView → Type 0) (f : ValueView → A) (g : A → ValueView) → ((t : ValueView) → IsOf c t → P t → g (f t) ≡ t) → (ts : ValueViews) → EachOf c ts → AllOf P ts → row g (each f ts) ≡ ts
list_same c P f g law no_values s all = refl
list_same c P f g law (value t ts) s all = ap (λ (u : ValueView). value u (row g (each f ts))) (law t s.0 all.0) ∙ ap (value t) (list_same c P f g law ts s.1 all.1)

all_first : {A : Type 0} (P : A → Type 0) (x : A) (xs : List A) → All P (x ∷ xs) → P x
all_first P x xs all = all 0 x (omega arith)

all_later : {A : Type 0} (P : A → Type 0) (x : A) (xs : List A) → All P (x ∷ xs) → All P xs
all_later P x xs all = λ k d lt. all (suc k) d (omega (arith, lt))

pub list_back : {A : Type 0} (P : A → Type 0) (f : ValueView → A) (g : A → ValueView) → ((x : A) → P x → f (g x) ≡ x) → (xs : List A) → All P xs → each f (row g xs) ≡ xs
list_back P f g law [] all = refl
list_back P f g law (x ∷ xs) all = ap (λ (y : _). y ∷ each f (row g xs)) (law x (all_first P x xs all)) ∙ ap (λ (ys : List _). x ∷ ys) (list_back P f g law xs (all_later P x xs all))

pub each_back : {A : Type 0} (f : ValueView → A) (g : A → ValueView) → ((x : A) → f (g x) ≡ x) → (xs : List A) → each f (row g xs) ≡ xs
each_back f g law [] = refl
each_back f g law (x ∷ xs) = ap (λ (y : _). y ∷ each f (row g xs)) (law x) ∙ ap (λ (ys : List _). x ∷ ys) (each_back f g law xs)

pub row_is : {A : Type 0} (P : A → Type 0) (c : Cell) (g : A → ValueView) → ((x : A) → P x → IsOf c (g x)) → (xs : List A) → All P xs → EachOf c (row g xs)
row_is P c g law [] all = tt
row_is P c g law (x ∷ xs) all = (law x (all_first P x xs all), row_is P c g law xs (all_later P x xs all))

pub count_row : {A : Type 0} (g : A → ValueView) (xs : List A) → count (row g xs) ≡ length xs
count_row g [] = refl
count_row g (x ∷ xs) = ap suc (count_row g xs)

-- a list of few elements is short
pub row_short : {A : Type 0} (g : A → ValueView) (xs : List A) → length xs < 2 ^ 31 → IsShort (row g xs)
row_short g xs few = subst (λ (n : ℕ). n < 2 ^ 31) (sym (count_row g xs)) few

pub length_each : {A : Type 0} (f : ValueView → A) (ts : ValueViews) → length (each f ts) ≡ count ts
length_each f no_values = refl
length_each f (value t ts) = ap suc (length_each f ts)
