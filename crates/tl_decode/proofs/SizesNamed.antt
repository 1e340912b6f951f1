-- Sets of types that hold with each type those that it names.
use Rattle.std.proofs.Common.{◌≡◌, ◌⊎◌, ℕ, List, [], slice_get, Some, Bool}
use Rattle.tl_schema.specs.Types.{Shape, Shapes}
use Rattle.tl_schema.specs.Types as type
use Rattle.tl_schema.specs.Closing.{closed, list_of_shapes}
use Rattle.tl_schema.specs.Schemas.{Slot, Declaration, Declared}
use Rattle.tl_schema.specs.Formed.{IsFormed, IsMember, IsFunction}
use Rattle.tl_decode.specs.Sizes.{IsWidth}

-- an opaque type has one of the widths
abbrev pub HasWidth : Shape → Type 0
HasWidth (type.opaque n) = IsWidth n
HasWidth T = Unit {0}

-- the type of each field, with these in place of its variables, is in P
abbrev pub AreFieldsIn : (Shape → Type 0) → List Shape → List Slot → Type 0
AreFieldsIn P args fs = (k : ℕ) (f : Slot) → slice_get fs k ≡ Some f → P (closed args f.of)

-- the types in P are flags and formed types, and with each those are in P that it names
pub record IsClosedUnderNames (schema : Declared) (P : Shape → Type 0) : Type 0 where
  pub formed : (T : Shape) → P T → (T ≡ type.flag) ⊎ IsFormed schema T
  pub wide : (T : Shape) → P T → HasWidth T
  pub vector : (is_boxed : Bool) (item : Shape) → P (type.vector is_boxed item) → P item
  pub boxed : (h i : ℕ) (d : Declaration) (args : Shapes) → P (type.boxed h args) → IsMember schema h i d → AreFieldsIn P (list_of_shapes args) d.fields
  pub bare : (i : ℕ) (d : Declaration) (args : Shapes) → P (type.bare i args) → slice_get schema.decls i ≡ Some d → AreFieldsIn P (list_of_shapes args) d.fields
  pub call : (i : ℕ) (d : Declaration) → P type.call → IsFunction schema i d → AreFieldsIn P [] d.fields
