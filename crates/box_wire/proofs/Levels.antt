-- Values of the forms have few levels.
use Rattle.std.specs.Prelude.{IsTrue, slice_get, nat_lt, nat_le, not}
use Rattle.std.proofs.Common.{◌≡◌, ℕ, zero, suc, ◌≤◌, max, List, [], ◌∷◌, map, get_or, Option, Some, None, Bool, true, false, ◌&&◌, ◌||◌, refl, sym, ap, ap₂, subst, arith}
use Rattle.std.proofs.Math.Nat.{max-le}
use Rattle.std.proofs.lemmas.Bool.{leb-true}
use Rattle.std.proofs.lemmas.Bool.Decides.{nat_tests}
use Rattle.tl_types.specs.Values.{ValueView, int, long, nat, opaque, text, truth, absent, list, node, call, ValueViews, no_values, value, depth, depth_of}
use Rattle.wire_forms.specs.declared.form.Cell.{Cell}
use Rattle.wire_forms.specs.declared.form.Cell.TheVariants.{Whole, Signed, Long, Body, Key, Ids, Bodies, Flags, Final, Many, One, Bare, ManyBare, Query}
use Rattle.wire_forms.specs.Forms.{FormView, forms, cells_of, constructs}
use Rattle.wire_forms.specs.Parts.{first, flag, is_final}
use Rattle.wire_forms.specs.IsOf.{IsField, IsOf, EachOf, AreOf}
use Rattle.wire_profile.specs.Renaming.{renamed, renamed_each}
use Rattle.wire_profile.proofs.FormTable.{member_form, cells_are, some_is, clash}

-- ---- how many levels

-- of values of each type, in the types' order
abbrev of_type : ℕ → ℕ
of_type h = get_or (2 ∷ 4 ∷ 1 ∷ 4 ∷ 4 ∷ 5 ∷ 1 ∷ 2 ∷ 4 ∷ 2 ∷ 4 ∷ 1 ∷ 5 ∷ 7 ∷ []) h 0

abbrev of_result : Option ℕ → ℕ
of_result None = 0
of_result (Some h) = of_type h

abbrev of_form : Option FormView → ℕ
of_form None = 0
of_form (Some f) = of_result f.result

abbrev pub levels_of : Cell → ℕ
levels_of Ids = 1
levels_of Bodies = 1
levels_of (Many h) = suc (of_type h)
levels_of (One h) = of_type h
levels_of (Bare k) = of_form (slice_get forms k)
levels_of (ManyBare k) = suc (of_form (slice_get forms k))
levels_of c = 0

abbrev is_constructor : Option FormView → Bool
is_constructor None = false
is_constructor (Some f) = not f.function

-- no call, and of a form alone where this is a constructor
abbrev pub is_plain : Cell → Bool
is_plain Query = false
is_plain (Bare k) = is_constructor (slice_get forms k)
is_plain (ManyBare k) = is_constructor (slice_get forms k)
is_plain c = true

-- ---- each form has fields of fewer levels than it has

abbrev pub are_under : ℕ → List Cell → Bool
are_under n [] = nat_le 1 n
are_under n (c ∷ cs) = is_plain c && (nat_lt (levels_of c) n && are_under n cs)

abbrev is_under : FormView → Bool
is_under f = f.function || are_under (of_result f.result) (map (λ part. part.cell) f.parts)

abbrev all_under : List FormView → Bool
all_under [] = true
all_under (f ∷ fs) = is_under f && all_under fs

forms_under : all_under forms ≡ true
unfolding forms
forms_under = refl

left_of : (a b : Bool) → (a && b) ≡ true → a ≡ true
left_of true b e = refl
left_of false b e = e

right_of : (a b : Bool) → (a && b) ≡ true → b ≡ true
right_of true b e = e
right_of false b e = absurd (clash e)

under_at : (fs : List FormView) → all_under fs ≡ true → (k : ℕ) (f : FormView) → slice_get fs k ≡ Some f → is_under f ≡ true
under_at [] all k f there = absurd cc
under_at (g ∷ fs) all zero f there = subst (λ (h : FormView). is_under h ≡ true) (some_is g f there) (left_of (is_under g) (all_under fs) all)
under_at (g ∷ fs) all (suc k) f there = under_at fs (right_of (is_under g) (all_under fs) all) k f there

fields_under : (f : FormView) → is_under f ≡ true → f.function ≡ false → are_under (of_result f.result) (map (λ part. part.cell) f.parts) ≡ true
fields_under f e is = subst (λ (b : Bool). (b || are_under (of_result f.result) (map (λ part. part.cell) f.parts)) ≡ true) is e

-- a constructor's cells
cells_under : (h k : ℕ) → IsTrue (constructs h k) → are_under (of_type h) (cells_of k) ≡ true
cells_under h k is =
    let f = member_form h k is in
    let under = fields_under f.0 (under_at forms forms_under k f.0 f.1.there) f.1.function in
    subst (λ (cs : List Cell). are_under (of_type h) cs ≡ true) (sym (cells_are k f.0 f.1.there))
    (subst (λ (o : Option ℕ). are_under (of_result o) (map (λ part. part.cell) (f.0).parts) ≡ true) f.1.result under)

not_true : (b : Bool) → not b ≡ true → b ≡ false
not_true false e = refl
not_true true e = absurd (clash e)

-- ---- values

flag_levels : (b : Bool) (v : ValueView) → v ≡ flag b → depth v ≤ 0
flag_levels true v is = subst (λ (u : ValueView). depth u ≤ 0) (sym is) (omega arith)
flag_levels false v is = subst (λ (u : ValueView). depth u ≤ 0) (sym is) (omega arith)

field_levels : (flags : ValueView) (c : Cell) (v : ValueView) → (IsOf c v → depth v ≤ levels_of c) → IsField flags c v (IsOf c v) → depth v ≤ levels_of c
field_levels flags Final v law is = flag_levels (is_final flags) v is
field_levels flags Whole v law is = law is
field_levels flags Signed v law is = law is
field_levels flags Long v law is = law is
field_levels flags Body v law is = law is
field_levels flags Key v law is = law is
field_levels flags Ids v law is = law is
field_levels flags Bodies v law is = law is
field_levels flags Flags v law is = law is
field_levels flags (Many h) v law is = law is
field_levels flags (One h) v law is = law is
field_levels flags (Bare j) v law is = law is
field_levels flags (ManyBare j) v law is = law is
field_levels flags Query v law is = law is

below : (a n : ℕ) → nat_lt a n ≡ true → suc a ≤ n
below a n e = grind (arith, nat_tests, e)

max_below : (a b n : ℕ) → suc a ≤ n → suc b ≤ n → suc (max a b) ≤ n
max_below a b zero p q = absurd (omega (arith, p))
max_below a b (suc m) p q = let most : max a b ≤ m = max-le (omega (arith, p)) (omega (arith, q)) in omega (arith, most)

one_below : (a b n : ℕ) → a ≤ b → nat_lt b n ≡ true → suc a ≤ n
one_below a b n le e = let lt = below b n e in omega (arith, le, lt)

bare_by : (k : ℕ) (o : Option FormView) → slice_get forms k ≡ o → is_constructor o ≡ true → are_under (of_form (slice_get forms k)) (cells_of k) ≡ true
bare_by k None at is = absurd (clash is)
bare_by k (Some f) at is =
    let under = fields_under f (under_at forms forms_under k f at) (not_true f.function is) in
    subst (λ (cs : List Cell). are_under (of_form (slice_get forms k)) cs ≡ true) (sym (cells_are k f at))
    (subst (λ (o : Option FormView). are_under (of_form o) (map (λ part. part.cell) f.parts) ≡ true) (sym at) under)

mutual
  -- a value of a cell has its levels
  pub few_levels : (t : ValueView) (c : Cell) → is_plain c ≡ true → IsOf c t → depth t ≤ levels_of c
  few_levels (int z) c plain is = omega arith
  few_levels (long z) c plain is = omega arith
  few_levels (nat n) c plain is = omega arith
  few_levels (opaque x) c plain is = omega arith
  few_levels (text x) c plain is = omega arith
  few_levels truth c plain is = omega arith
  few_levels absent c plain is = omega arith
  few_levels (list vs) Ids plain is = let less = each_levels vs Signed refl is.1 in omega (arith, less)
  few_levels (list vs) Bodies plain is = let less = each_levels vs Body refl is.1 in omega (arith, less)
  few_levels (list vs) (Many h) plain is = let less = each_levels vs (One h) refl is.1 in omega (arith, less)
  few_levels (list vs) (ManyBare j) plain is = let less = each_levels vs (Bare j) plain is.1 in omega (arith, less)
  few_levels (node k vs) (One h) plain is = fields_levels vs (first vs) (cells_of k) (of_type h) (cells_under h k is.0) is.1
  few_levels (node k vs) (Bare j) plain is = fields_levels vs (first vs) (cells_of j) (of_form (slice_get forms j)) (bare_by j (slice_get forms j) refl plain) is.1
  few_levels (call k vs) Query plain is = absurd (clash plain)
  few_levels t c plain is = absurd is

  each_levels : (vs : ValueViews) (c : Cell) → is_plain c ≡ true → EachOf c vs → depth_of vs ≤ levels_of c
  each_levels no_values c plain is = omega arith
  each_levels (value v vs) c plain is = max-le (few_levels v c plain is.0) (each_levels vs c plain is.1)

  pub fields_levels : (vs : ValueViews) (flags : ValueView) (cs : List Cell) (n : ℕ) → are_under n cs ≡ true → AreOf flags cs vs → suc (depth_of vs) ≤ n
  fields_levels no_values flags [] n under is = leb-true _ _ under
  fields_levels no_values flags (c ∷ cs) n under is = absurd is
  fields_levels (value v vs) flags [] n under is = absurd is
  fields_levels (value v vs) flags (c ∷ cs) n under is =
      let plain = left_of (is_plain c) (nat_lt (levels_of c) n && are_under n cs) under in
      let more = right_of (is_plain c) (nat_lt (levels_of c) n && are_under n cs) under in
      max_below (depth v) (depth_of vs) n
      (one_below (depth v) (levels_of c) n (field_levels flags c v (λ of. few_levels v c plain of) is.0) (left_of (nat_lt (levels_of c) n) (are_under n cs) more))
      (fields_levels vs flags cs n (right_of (nat_lt (levels_of c) n) (are_under n cs) more) is.1)

-- ---- with other numbers

mutual
  pub depth_same : (f : ℕ → ℕ) (v : ValueView) → depth (renamed f v) ≡ depth v
  depth_same f (int z) = refl
  depth_same f (long z) = refl
  depth_same f (nat n) = refl
  depth_same f (opaque x) = refl
  depth_same f (text x) = refl
  depth_same f truth = refl
  depth_same f absent = refl
  depth_same f (list vs) = ap suc (depths_same f vs)
  depth_same f (node k vs) = ap suc (depths_same f vs)
  depth_same f (call k vs) = ap suc (depths_same f vs)

  depths_same : (f : ℕ → ℕ) (vs : ValueViews) → depth_of (renamed_each f vs) ≡ depth_of vs
  depths_same f no_values = refl
  depths_same f (value v vs) = ap₂ max (depth_same f v) (depths_same f vs)
