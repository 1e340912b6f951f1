-- The fields of declarations, where they are there, and what a type is applied to.
use Rattle.std.proofs.Common.{◌≡◌, ℕ, ◌≤◌, List, [], ◌∷◌, length, map, Some, refl, ap, sym, ◌∙◌, Vec, Global}
use Rattle.std.specs.Prelude.{slice_get}
use Rattle.std.proofs.lemmas.Option.{slice_get_past}
use Rattle.tl_schema.specs.Types.{Shape, shapes_of}
use Rattle.tl_schema.specs.Closing.{list_of_shapes}
use Rattle.tl_schema.specs.Schemas.{Declaration}
use Rattle.tl_schema.specs.Seen.{shape, slot, declaration}
use Rattle.tl_schema.specs.declared.schema.Entry.{Entry}
use Rattle.tl_schema.specs.declared.schema.TypeRef.{TypeRef, Boxed, Bare}
use Rattle.tl_types.specs.Parts.{arguments_of, fields_in}
use Rattle.tl_types.proofs.Views.{shape-Boxed, shape-Bare}

pub fields_there : (ds : List Declaration) (i : ℕ) (e : Entry) → slice_get ds i ≡ Some (declaration e) → fields_in (slice_get ds i) ≡ map slot e.fields.items
fields_there ds i e there = ap fields_in there

pub fields_past : (ds : List Declaration) (i : ℕ) → length ds ≤ i → fields_in (slice_get ds i) ≡ []
fields_past ds i past = ap fields_in (slice_get_past ds i past)

pub list_again : (Ts : List Shape) → list_of_shapes (shapes_of Ts) ≡ Ts
list_again [] = refl
list_again (T ∷ Ts) = ap (λ (Us : List Shape). T ∷ Us) (list_again Ts)

pub boxed_arguments : (t : TypeRef) (h : ℕ) (args : Vec TypeRef Global) (ts : List TypeRef) → t ≡ Boxed h args → ts ≡ args.items → map shape ts ≡ arguments_of (shape t)
boxed_arguments t h args ts is same = ap (map shape) same ∙ sym (list_again (map shape args.items)) ∙ sym (ap arguments_of (shape-Boxed t h args is))

pub bare_arguments : (t : TypeRef) (i : ℕ) (args : Vec TypeRef Global) (ts : List TypeRef) → t ≡ Bare i args → ts ≡ args.items → map shape ts ≡ arguments_of (shape t)
bare_arguments t i args ts is same = ap (map shape) same ∙ sym (list_again (map shape args.items)) ∙ sym (ap arguments_of (shape-Bare t i args is))
