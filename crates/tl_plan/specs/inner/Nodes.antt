-- Types by numbers: each is its form, applied to types before it. This project's own.
use Rattle.std.specs.Prelude.{◌≡◌, ℕ, suc, ◌-◌, ◌<◌, ◌^◌, min, max, List, [], ◌∷◌, ◌++◌, length, map, get_or, Option, Some, None, if◌then◌else◌, slice_get}
use Rattle.tl_schema.specs.Types.{Shape, Shapes, shapes_of}
use Rattle.tl_schema.specs.Types as type
use Rattle.tl_plan.specs.Types.{arguments_of}
use Rattle.tl_schema.specs.declared.form.TypeForm.{TypeForm}
use Rattle.tl_schema.specs.declared.form.TypeForm.TheVariants as form

-- ---- lists of types

abbrev pub type_at : List Shape → ℕ → Shape
type_at Ts n = get_or Ts n type.call

abbrev pub types_at : List Shape → List ℕ → List Shape
types_at Ts ns = map (type_at Ts) ns

abbrev pub AreBelow : ℕ → List ℕ → Type 0
AreBelow n [] = Unit {0}
AreBelow n (k ∷ ks) = (k < n) × AreBelow n ks

-- no type stands there twice
abbrev pub AreDistinct : List Shape → Type 0
AreDistinct Ts = (i j : ℕ) (T : Shape) → slice_get Ts i ≡ Some T → slice_get Ts j ≡ Some T → i ≡ j

-- types came to the end
pub record Grows (old new : List Shape) : Type 0 where
  pub more : List Shape
  pub extends : new ≡ old ++ more

-- ---- one type

-- the element of a vector, or what another type is applied to
abbrev pub parts_of : Shape → List Shape
parts_of (type.vector is_boxed T) = T ∷ []
parts_of T = arguments_of T

abbrev pub first_of : List Shape → Shape
first_of [] = type.call
first_of (T ∷ Ts) = T

-- the type of this form with these parts
abbrev pub type_by : TypeForm → List Shape → Shape
type_by form.Int Ts = type.int
type_by form.Long Ts = type.long
type_by form.Nat Ts = type.nat
type_by form.Double Ts = type.opaque 8
type_by form.Int128 Ts = type.opaque 16
type_by form.Int256 Ts = type.opaque 32
type_by form.Str Ts = type.str
type_by form.Raw Ts = type.raw
type_by form.Flag Ts = type.flag
type_by form.Call Ts = type.call
type_by (form.Var i) Ts = type.var i
type_by (form.Vector is_boxed) Ts = type.vector is_boxed (first_of Ts)
type_by (form.Boxed h) Ts = type.boxed h (shapes_of Ts)
type_by (form.Bare i) Ts = type.bare i (shapes_of Ts)

-- so many parts has a type of this form
abbrev pub HasParts : TypeForm → List ℕ → Type 0
HasParts (form.Vector is_boxed) ns = length ns ≡ 1
HasParts (form.Boxed h) ns = Unit {0}
HasParts (form.Bare i) ns = Unit {0}
HasParts f ns = ns ≡ []

-- ---- keys

abbrev pub tag_of : TypeForm → ℕ
tag_of form.Int = 0
tag_of form.Long = 1
tag_of form.Nat = 2
tag_of form.Double = 3
tag_of form.Int128 = 3
tag_of form.Int256 = 3
tag_of form.Str = 4
tag_of form.Raw = 5
tag_of form.Flag = 6
tag_of form.Call = 7
tag_of (form.Var i) = 8
tag_of (form.Vector is_boxed) = 9
tag_of (form.Boxed h) = 10
tag_of (form.Bare i) = 11

abbrev pub number_of : TypeForm → ℕ
number_of form.Double = 8
number_of form.Int128 = 16
number_of form.Int256 = 32
number_of (form.Var i) = i
number_of (form.Vector is_boxed) = if is_boxed then 1 else 0
number_of (form.Boxed h) = h
number_of (form.Bare i) = i
number_of f = 0

abbrev pub key_of : TypeForm → List ℕ → List ℕ
key_of f ns = tag_of f ∷ number_of f ∷ ns

-- ---- nodes

pub record NodeView : Type 0 where
  pub form : TypeForm
  pub parts : List ℕ
  pub levels : ℕ

-- the types of the nodes, after these
abbrev pub types_after : List Shape → List NodeView → List Shape
types_after Ts [] = Ts
types_after Ts (n ∷ ns) = types_after (Ts ++ type_by n.form (types_at Ts n.parts) ∷ []) ns

abbrev pub capped : ℕ → ℕ
capped n = min n (2 ^ 32 - 1)

abbrev pub levels_in : Option NodeView → ℕ
levels_in None = 0
levels_in (Some n) = n.levels

-- the levels of the deepest of these nodes
abbrev pub deepest_of : List NodeView → List ℕ → ℕ
deepest_of ns [] = 0
deepest_of ns (k ∷ ks) = max (levels_in (slice_get ns k)) (deepest_of ns ks)

abbrev pub levels_above : List NodeView → List ℕ → ℕ
levels_above ns ks = capped (suc (deepest_of ns ks))
