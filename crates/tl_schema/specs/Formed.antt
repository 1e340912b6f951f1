-- Formed types: those that have values.
-- From "TL language" and "Formal description of TL" (core.telegram.org/mtproto/TL, /mtproto/TL-formal), their boxed and bare types and type
-- expressions. That elements and arguments take bytes is this project's own.
use Rattle.std.specs.Prelude.{◌≡◌, ℕ, suc, ◌<◌, List, length, slice_get, Some, Option, None, true, false, if◌then◌else◌, ◌⊎◌}
use Rattle.tl_program.specs.Program.{DeclText}
use Rattle.tl_schema.specs.Types.{Shape, nat, flag, var, vector, boxed, bare, Shapes, no_shapes, shape}
use Rattle.tl_schema.specs.Schemas.{Slot, Declaration, Declared}
use Rattle.tl_names.specs.Writing.{At}
use Rattle.tl_names.specs.Indexes.{types_of}
use Rattle.tl_names.specs.BareFields.{TakesNone}

-- declaration i is d, a constructor of the type with the number h
pub record IsMember (schema : Declared) (h i : ℕ) (d : Declaration) : Type 0 where
  pub there : slice_get schema.decls i ≡ Some d
  pub head : d.head ≡ h
  pub known : h < length (types_of schema.program)

-- declaration i is d, a function
pub record IsFunction (schema : Declared) (i : ℕ) (d : Declaration) : Type 0 where
  pub there : slice_get schema.decls i ≡ Some d
  pub function : d.function ≡ true

-- the type with this number is applied to as many types as its constructors have variables
pub record AppliesType (schema : Declared) (h count : ℕ) : Type 0 where
  pub known : h < length (types_of schema.program)
  pub arity : (i : ℕ) (d : Declaration) → IsMember schema h i d → d.vars ≡ count

-- declaration i is a constructor, applied to as many types as it has variables
pub record AppliesBare (schema : Declared) (i count : ℕ) : Type 0 where
  pub h : ℕ
  pub d : Declaration
  pub member : IsMember schema h i d
  pub arity : d.vars ≡ count

abbrev pub count_of : Shapes → ℕ
count_of no_shapes = 0
count_of (shape s ss) = suc (count_of ss)

-- a bare constructor that takes no bytes
abbrev pub IsEmpty : Declared → Shape → Type 0
IsEmpty schema (bare i args) = TakesNone schema.program i
IsEmpty schema s = ⊥

abbrev mutual
  -- a type with values, over so many variables of its declaration: no flag stands in it, what it names is there and has so many arguments,
  -- and elements and arguments take bytes
  pub IsFormedOver : Declared → ℕ → Shape → Type 0
  IsFormedOver schema n flag = ⊥
  IsFormedOver schema n (var i) = i < n
  IsFormedOver schema n (vector is_boxed s) = IsFormedOver schema n s × (IsEmpty schema s → ⊥)
  IsFormedOver schema n (boxed h ss) = AppliesType schema h (count_of ss) × AreArguments schema n ss
  IsFormedOver schema n (bare i ss) = AppliesBare schema i (count_of ss) × AreArguments schema n ss
  IsFormedOver schema n s = Unit {0}

  -- likewise each of them, and each takes bytes
  pub AreArguments : Declared → ℕ → Shapes → Type 0
  AreArguments schema n no_shapes = Unit {0}
  AreArguments schema n (shape s ss) = IsFormedOver schema n s × (IsEmpty schema s → ⊥) × AreArguments schema n ss

-- a closed type with values
abbrev pub IsFormed : Declared → Shape → Type 0
IsFormed schema s = IsFormedOver schema 0 s

-- ---- fields

-- an earlier field is `#`, and the bit is one of its 32
abbrev pub IsCondition : List Slot → ℕ → Option (ℕ × ℕ) → Type 0
IsCondition fs k None = Unit {0}
IsCondition fs k (Some c) = (c.0 < k) × (c.1 < 32) × ((f : Slot) × (slice_get fs c.0 ≡ Some f) × (f.of ≡ nat))

-- over so many variables a field's type is formed; the fields of a function have none, its calls aside
abbrev pub field_variables : Declaration → ℕ
field_variables d = if d.function then 0 else d.vars

-- field k of declaration d has a good condition, and is a flag or has a formed type
pub record IsFormedField (schema : Declared) (d : Declaration) (k : ℕ) (f : Slot) : Type 0 where
  pub cond : IsCondition d.fields k f.cond
  pub type : (f.of ≡ flag) ⊎ IsFormedOver schema (field_variables d) f.of

-- declaration i is no line of a built-in type; the checks look at no type of such a line
abbrev pub IsOwn : Declared → ℕ → Type 0
IsOwn schema i = (t : DeclText) × At schema.program i t × (t.builtin ≡ false)

-- each field of each declaration is such, built-in types' lines aside
abbrev pub HasFormedFields : Declared → Type 0
HasFormedFields schema = (i : ℕ) (d : Declaration) (k : ℕ) (f : Slot) → IsOwn schema i → slice_get schema.decls i ≡ Some d → slice_get d.fields k ≡ Some f → IsFormedField schema d k f
