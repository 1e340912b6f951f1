-- Types by numbers: what their lists are when types come to the end.
use Rattle.std.proofs.Common.{◌≡◌, ℕ, zero, suc, ◌+◌, ◌<◌, ◌≤◌, max, List, [], ◌∷◌, ◌++◌, length, slice_get, Some, true, false, refl, ap, ap₂, sym, ◌∙◌, subst, arith, append_assoc, length-append, if◌then◌else◌, ◌==◌}
use Rattle.std.proofs.lemmas.List.{append-nil, get_or_append_left}
use Rattle.std.proofs.lemmas.Option.{slice_get-get_or, get_or_from_slice_get}
use Rattle.tl_schema.specs.Types.{Shape, Shapes, shapes_of}
use Rattle.tl_schema.specs.Types as type
use Rattle.tl_schema.specs.Closing.{list_of_shapes}
use Rattle.tl_plan.specs.Types.{deepest, levels}
use Rattle.tl_schema.specs.Forms.{HasForm}
use Rattle.tl_plan.specs.inner.Nodes.{AreBelow, AreDistinct, Grows, HasParts, NodeView, capped, deepest_of, levels_in, first_of, key_of, levels_above, number_of, parts_of, tag_of, type_at, type_by, types_after, types_at}
use Rattle.tl_schema.specs.declared.form.TypeForm.{TypeForm}
use Rattle.tl_schema.specs.declared.form.TypeForm.TheVariants as form
use Rattle.tl_plan.proofs.TypeLists.{none_some, some_is}

-- ---- elements of lists

pub get_within : {X : Type 0} (xs ys : List X) (k : ℕ) (x : X) → slice_get xs k ≡ Some x → slice_get (xs ++ ys) k ≡ Some x
get_within [] ys k x at = absurd (none_some x at)
get_within (y ∷ xs) ys zero x at = at
get_within (y ∷ xs) ys (suc k) x at = get_within xs ys k x at

pub get_last : {X : Type 0} (xs : List X) (x : X) → slice_get (xs ++ x ∷ []) (length xs) ≡ Some x
get_last [] x = refl
get_last (y ∷ xs) x = get_last xs x

-- one of the first, or the last
pub data Pushed {X : Type 0} (xs : List X) (x : X) (k : ℕ) (y : X) : Type 0 where
  earlier : slice_get xs k ≡ Some y → Pushed xs x k y
  last : k ≡ length xs → y ≡ x → Pushed xs x k y

pub get_pushed : {X : Type 0} (xs : List X) (x : X) (k : ℕ) (y : X) → slice_get (xs ++ x ∷ []) k ≡ Some y → Pushed xs x k y
get_pushed [] x zero y at = last refl (sym (some_is x y at))
get_pushed [] x (suc k) y at = absurd (none_some y at)
get_pushed (z ∷ xs) x zero y at = earlier at
get_pushed (z ∷ xs) x (suc k) y at = later (get_pushed xs x k y at)
  where
    later : Pushed xs x k y → Pushed (z ∷ xs) x (suc k) y
    later (earlier here) = earlier here
    later (last count is) = last (ap suc count) is

pub get_type : (Ts : List Shape) (k : ℕ) → k < length Ts → slice_get Ts k ≡ Some (type_at Ts k)
get_type Ts k below = slice_get-get_or Ts k type.call below

pub type_got : (Ts : List Shape) (k : ℕ) (T : Shape) → slice_get Ts k ≡ Some T → type_at Ts k ≡ T
type_got Ts k T at = get_or_from_slice_get Ts k T type.call at

-- ---- numbers below

pub below_more : (m n : ℕ) (ks : List ℕ) → m ≤ n → AreBelow m ks → AreBelow n ks
below_more m n [] le are = tt
below_more m n (k ∷ ks) le are = let first = are.0 in (omega (arith, le, first), below_more m n ks le are.1)

pub below_push : (n : ℕ) (ks : List ℕ) (k : ℕ) → AreBelow n ks → k < n → AreBelow n (ks ++ k ∷ [])
below_push n [] k are less = (less, tt)
below_push n (j ∷ ks) k are less = (are.0, below_push n ks k are.1 less)

pub below_at : (n : ℕ) (ks : List ℕ) (i k : ℕ) → AreBelow n ks → slice_get ks i ≡ Some k → k < n
below_at n [] i k are at = absurd (none_some k at)
below_at n (j ∷ ks) zero k are at = subst (λ (x : ℕ). x < n) (some_is j k at) are.0
below_at n (j ∷ ks) (suc i) k are at = below_at n ks i k are.1 at

pub types_more : (Ts more : List Shape) (ks : List ℕ) → AreBelow (length Ts) ks → types_at (Ts ++ more) ks ≡ types_at Ts ks
types_more Ts more [] are = refl
types_more Ts more (k ∷ ks) are = ap₂ (λ (T : Shape) (Us : List Shape). T ∷ Us) (get_or_append_left Ts more type.call k are.0) (types_more Ts more ks are.1)

pub type_more : (Ts more : List Shape) (k : ℕ) → k < length Ts → type_at (Ts ++ more) k ≡ type_at Ts k
type_more Ts more k below = get_or_append_left Ts more type.call k below

-- ---- growing

pub grows_same : (Ts : List Shape) → Grows Ts Ts
grows_same Ts = record { more = []; extends = sym (append-nil Ts) }

pub grows_then : (Ts Us Vs : List Shape) → Grows Ts Us → Grows Us Vs → Grows Ts Vs
grows_then Ts Us Vs g h = record {
  more = g.more ++ h.more;
  extends = h.extends ∙ ap (λ (xs : List Shape). xs ++ h.more) g.extends ∙ append_assoc Ts g.more h.more;
}

pub grows_length : (Ts Us : List Shape) → Grows Ts Us → length Ts ≤ length Us
grows_length Ts Us g = let e : length Us ≡ length Ts + length g.more = ap length g.extends ∙ length-append Ts g.more in omega (arith, e)

pub grows_below : (Ts Us : List Shape) (ks : List ℕ) → Grows Ts Us → AreBelow (length Ts) ks → AreBelow (length Us) ks
grows_below Ts Us ks g are = below_more (length Ts) (length Us) ks (grows_length Ts Us g) are

pub grows_types : (Ts Us : List Shape) (ks : List ℕ) → Grows Ts Us → AreBelow (length Ts) ks → types_at Us ks ≡ types_at Ts ks
grows_types Ts Us ks g are = ap (λ (Vs : List Shape). types_at Vs ks) g.extends ∙ types_more Ts g.more ks are

pub grows_at : (Ts Us : List Shape) (k : ℕ) (T : Shape) → Grows Ts Us → slice_get Ts k ≡ Some T → slice_get Us k ≡ Some T
grows_at Ts Us k T g at = ap (λ (Vs : List Shape). slice_get Vs k) g.extends ∙ get_within Ts g.more k T at

-- ---- the types of nodes

pub count_after : (ns : List NodeView) (Ts : List Shape) → length (types_after Ts ns) ≡ length Ts + length ns
count_after [] Ts = omega arith
count_after (n ∷ ns) Ts =
    let here = length-append Ts (type_by n.form (types_at Ts n.parts) ∷ []) in
    let later = count_after ns (Ts ++ type_by n.form (types_at Ts n.parts) ∷ []) in
    omega (arith, here, later)

pub push_after : (ns : List NodeView) (n : NodeView) (Ts : List Shape) → types_after Ts (ns ++ n ∷ []) ≡ types_after Ts ns ++ type_by n.form (types_at (types_after Ts ns) n.parts) ∷ []
push_after [] n Ts = refl
push_after (m ∷ ns) n Ts = push_after ns n (Ts ++ type_by m.form (types_at Ts m.parts) ∷ [])

-- ---- forms and parts

pub list_again : (Ts : List Shape) → list_of_shapes (shapes_of Ts) ≡ Ts
list_again [] = refl
list_again (T ∷ Ts) = ap (λ (Us : List Shape). T ∷ Us) (list_again Ts)

abbrev tag_in : Shape → ℕ
tag_in type.int = 0
tag_in type.long = 1
tag_in type.nat = 2
tag_in (type.opaque n) = 3
tag_in type.str = 4
tag_in type.raw = 5
tag_in type.flag = 6
tag_in type.call = 7
tag_in (type.var i) = 8
tag_in (type.vector b T) = 9
tag_in (type.boxed h Ts) = 10
tag_in (type.bare i Ts) = 11

abbrev number_in : Shape → ℕ
number_in (type.opaque n) = n
number_in (type.var i) = i
number_in (type.vector b T) = if b then 1 else 0
number_in (type.boxed h Ts) = h
number_in (type.bare i Ts) = i
number_in T = 0

tag_by : (f : TypeForm) (Ts : List Shape) → tag_in (type_by f Ts) ≡ tag_of f
tag_by form.Int Ts = refl
tag_by form.Long Ts = refl
tag_by form.Nat Ts = refl
tag_by form.Double Ts = refl
tag_by form.Int128 Ts = refl
tag_by form.Int256 Ts = refl
tag_by form.Str Ts = refl
tag_by form.Raw Ts = refl
tag_by form.Flag Ts = refl
tag_by form.Call Ts = refl
tag_by (form.Var i) Ts = refl
tag_by (form.Vector b) Ts = refl
tag_by (form.Boxed h) Ts = refl
tag_by (form.Bare i) Ts = refl

number_by : (f : TypeForm) (Ts : List Shape) → number_in (type_by f Ts) ≡ number_of f
number_by form.Int Ts = refl
number_by form.Long Ts = refl
number_by form.Nat Ts = refl
number_by form.Double Ts = refl
number_by form.Int128 Ts = refl
number_by form.Int256 Ts = refl
number_by form.Str Ts = refl
number_by form.Raw Ts = refl
number_by form.Flag Ts = refl
number_by form.Call Ts = refl
number_by (form.Var i) Ts = refl
number_by (form.Vector b) Ts = refl
number_by (form.Boxed h) Ts = refl
number_by (form.Bare i) Ts = refl

no_parts : (Ts : List Shape) (ks : List ℕ) → ks ≡ [] → [] ≡ types_at Ts ks
no_parts Ts ks e = ap (types_at Ts) (sym e)

one_part : (Ts : List Shape) (ks : List ℕ) → length ks ≡ 1 → first_of (types_at Ts ks) ∷ [] ≡ types_at Ts ks
one_part Ts [] e = absurd (omega (arith, e))
one_part Ts (k ∷ []) e = refl
one_part Ts (k ∷ j ∷ ks) e = absurd (omega (arith, e))

-- a type of a form has the parts that it was made of
pub parts_by : (Ts : List Shape) (f : TypeForm) (ks : List ℕ) → HasParts f ks → parts_of (type_by f (types_at Ts ks)) ≡ types_at Ts ks
parts_by Ts form.Int ks h = no_parts Ts ks h
parts_by Ts form.Long ks h = no_parts Ts ks h
parts_by Ts form.Nat ks h = no_parts Ts ks h
parts_by Ts form.Double ks h = no_parts Ts ks h
parts_by Ts form.Int128 ks h = no_parts Ts ks h
parts_by Ts form.Int256 ks h = no_parts Ts ks h
parts_by Ts form.Str ks h = no_parts Ts ks h
parts_by Ts form.Raw ks h = no_parts Ts ks h
parts_by Ts form.Flag ks h = no_parts Ts ks h
parts_by Ts form.Call ks h = no_parts Ts ks h
parts_by Ts (form.Var i) ks h = no_parts Ts ks h
parts_by Ts (form.Vector b) ks h = one_part Ts ks h
parts_by Ts (form.Boxed i) ks h = list_again (types_at Ts ks)
parts_by Ts (form.Bare i) ks h = list_again (types_at Ts ks)

pub form_by : (f : TypeForm) (Ts : List Shape) → HasForm (type_by f Ts) f
form_by form.Int Ts = refl
form_by form.Long Ts = refl
form_by form.Nat Ts = refl
form_by form.Double Ts = refl
form_by form.Int128 Ts = refl
form_by form.Int256 Ts = refl
form_by form.Str Ts = refl
form_by form.Raw Ts = refl
form_by form.Flag Ts = refl
form_by form.Call Ts = refl
form_by (form.Var i) Ts = refl
form_by (form.Vector b) Ts = (first_of Ts, refl)
form_by (form.Boxed h) Ts = (shapes_of Ts, refl)
form_by (form.Bare i) Ts = (shapes_of Ts, refl)

-- ---- keys

abbrev form_from : ℕ → ℕ → TypeForm
form_from t n =
    if t == 0 then form.Int else if t == 1 then form.Long else if t == 2 then form.Nat else if t == 3 then (if n == 8 then form.Double else if n == 16 then form.Int128 else form.Int256)
    else if t == 4 then form.Str else if t == 5 then form.Raw else if t == 6 then form.Flag else if t == 7 then form.Call else if t == 8 then form.Var n else if t == 9 then form.Vector (n == 1)
    else if t == 10 then form.Boxed n else form.Bare n

form_again : (f : TypeForm) → form_from (tag_of f) (number_of f) ≡ f
form_again form.Int = refl
form_again form.Long = refl
form_again form.Nat = refl
form_again form.Double = refl
form_again form.Int128 = refl
form_again form.Int256 = refl
form_again form.Str = refl
form_again form.Raw = refl
form_again form.Flag = refl
form_again form.Call = refl
form_again (form.Var i) = refl
form_again (form.Vector true) = refl
form_again (form.Vector false) = refl
form_again (form.Boxed h) = refl
form_again (form.Bare i) = refl

-- one key is of one form with the same parts
pub same_key : (f g : TypeForm) (ks js : List ℕ) → key_of f ks ≡ key_of g js → (f ≡ g) × (ks ≡ js)
same_key f g ks js e =
    let tags : tag_of f ≡ tag_of g = cc in
    let numbers : number_of f ≡ number_of g = cc in
    let parts : ks ≡ js = cc in
    (sym (form_again f) ∙ ap₂ form_from tags numbers ∙ form_again g, parts)

same_numbers : (Ts : List Shape) (ks js : List ℕ) → AreDistinct Ts → AreBelow (length Ts) ks → AreBelow (length Ts) js → types_at Ts ks ≡ types_at Ts js → ks ≡ js
same_numbers Ts [] [] distinct p q e = refl
same_numbers Ts [] (j ∷ js) distinct p q e = absurd cc
same_numbers Ts (k ∷ ks) [] distinct p q e = absurd cc
same_numbers Ts (k ∷ ks) (j ∷ js) distinct p q e =
    let here : type_at Ts k ≡ type_at Ts j = cc in
    let later : types_at Ts ks ≡ types_at Ts js = cc in
    ap₂ (λ (i : ℕ) (is : List ℕ). i ∷ is) (distinct k j (type_at Ts j) (get_type Ts k p.0 ∙ ap Some here) (get_type Ts j q.0)) (same_numbers Ts ks js distinct p.1 q.1 later)

-- one type has one key
pub one_key : (Ts : List Shape) (f g : TypeForm) (ks js : List ℕ) → AreDistinct Ts → AreBelow (length Ts) ks → AreBelow (length Ts) js → HasParts f ks → HasParts g js → type_by f (types_at Ts ks) ≡ type_by g (types_at Ts js) → key_of f ks ≡ key_of g js
one_key Ts f g ks js distinct p q hf hg e =
    let tags : tag_of f ≡ tag_of g = sym (tag_by f (types_at Ts ks)) ∙ ap tag_in e ∙ tag_by g (types_at Ts js) in
    let numbers : number_of f ≡ number_of g = sym (number_by f (types_at Ts ks)) ∙ ap number_in e ∙ number_by g (types_at Ts js) in
    let parts : ks ≡ js = same_numbers Ts ks js distinct p q (sym (parts_by Ts f ks hf) ∙ ap parts_of e ∙ parts_by Ts g js hg) in
    ap₂ (λ (t : ℕ) (n : ℕ). t ∷ n ∷ ks) tags numbers ∙ ap (λ (is : List ℕ). tag_of g ∷ number_of g ∷ is) parts

-- ---- levels

pub is_there : {X : Type 0} (xs : List X) (k : ℕ) → k < length xs → (x : X) × (slice_get xs k ≡ Some x)
is_there [] k below = absurd (omega (arith, below))
is_there (x ∷ xs) zero below = (x, refl)
is_there (x ∷ xs) (suc k) below = is_there xs k (omega (arith, below))

capped_suc : (x y : ℕ) → capped x ≡ capped y → capped (suc x) ≡ capped (suc y)
capped_suc x y e = omega (arith, e)

capped_max : (x y a b : ℕ) → x ≡ capped a → capped y ≡ capped b → capped (max x y) ≡ capped (max a b)
capped_max x y a b p q = omega (arith, p, q)

module _ (Ts : List Shape) (ns : List NodeView) (each : (k : ℕ) (n : NodeView) → slice_get ns k ≡ Some n → n.levels ≡ capped (levels (type_at Ts k))) where
  levels_at : (k : ℕ) → k < length ns → levels_in (slice_get ns k) ≡ capped (levels (type_at Ts k))
  levels_at k below = let n = is_there ns k below in ap levels_in n.1 ∙ each k n.0 n.1

  deepest_is : (ks : List ℕ) → AreBelow (length ns) ks → capped (deepest_of ns ks) ≡ capped (deepest (shapes_of (types_at Ts ks)))
  deepest_is [] are = refl
  deepest_is (k ∷ ks) are =
      capped_max (levels_in (slice_get ns k)) (deepest_of ns ks) (levels (type_at Ts k)) (deepest (shapes_of (types_at Ts ks))) (levels_at k are.0) (deepest_is ks are.1)

  one_level : (ks : List ℕ) → ks ≡ [] → levels_above ns ks ≡ capped 1
  one_level ks e = ap (levels_above ns) e

  one_more : (ks : List ℕ) → AreBelow (length ns) ks → length ks ≡ 1 → levels_above ns ks ≡ capped (suc (levels (first_of (types_at Ts ks))))
  one_more [] are e = absurd (omega (arith, e))
  one_more (k ∷ []) are e = let level = levels_at k are.0 in omega (arith, level)
  one_more (k ∷ j ∷ ks) are e = absurd (omega (arith, e))

  pub levels_are : (f : TypeForm) (ks : List ℕ) → AreBelow (length ns) ks → HasParts f ks → levels_above ns ks ≡ capped (levels (type_by f (types_at Ts ks)))
  levels_are form.Int ks are h = one_level ks h
  levels_are form.Long ks are h = one_level ks h
  levels_are form.Nat ks are h = one_level ks h
  levels_are form.Double ks are h = one_level ks h
  levels_are form.Int128 ks are h = one_level ks h
  levels_are form.Int256 ks are h = one_level ks h
  levels_are form.Str ks are h = one_level ks h
  levels_are form.Raw ks are h = one_level ks h
  levels_are form.Flag ks are h = one_level ks h
  levels_are form.Call ks are h = one_level ks h
  levels_are (form.Var i) ks are h = one_level ks h
  levels_are (form.Vector b) ks are h = one_more ks are h
  levels_are (form.Boxed i) ks are h = capped_suc (deepest_of ns ks) (deepest (shapes_of (types_at Ts ks))) (deepest_is ks are)
  levels_are (form.Bare i) ks are h = capped_suc (deepest_of ns ks) (deepest (shapes_of (types_at Ts ks))) (deepest_is ks are)
