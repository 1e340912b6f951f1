-- What stands in a new schema for declarations and types of an old one. This project's own.
use Rattle.std.specs.Prelude.{ℕ, length, position, Bool, false, not, ◌&&◌, ◌||◌, ◌==◌, nat_lt, bytes_eq, Option, Some, None, unwrap_or, if◌then◌else◌, slice_get}
use Rattle.tl_names.specs.Indexes.{types_of}
use Rattle.tl_schema.specs.Types.{Shape, Shapes, no_shapes, shape, vector, boxed, bare}
use Rattle.tl_schema.specs.Schemas.{Declaration, Declared}

-- ---- declarations

-- e has the name of d, and is a function exactly where d is
abbrev pub is_namesake : Declaration → Declaration → Bool
is_namesake d e = bytes_eq d.name e.name && (if d.function then e.function else not e.function)

-- the declaration is a function or constructs a type: it is no line of a built-in type
abbrev pub is_own : Declared → Option Declaration → Bool
is_own schema None = false
is_own schema (Some e) = e.function || nat_lt e.head (length (types_of schema.program))

abbrev pub if_own : Declared → Option ℕ → Option ℕ
if_own schema None = None
if_own schema (Some j) = if is_own schema (slice_get schema.decls j) then Some j else None

abbrev pub namesake : Declared → Option Declaration → Option ℕ
namesake new None = None
namesake new (Some d) = if_own new (position (is_namesake d) new.decls)

-- the counterpart of declaration i: the new declaration of its name that is a function exactly where it is; no line of a built-in type is one
abbrev pub counterpart : Declared → Declared → ℕ → Option ℕ
counterpart old new i = namesake new (slice_get old.decls i)

-- ---- types

-- the number of the type that a declaration constructs; where there is none, the number of types
abbrev pub head_in : Declared → Option Declaration → ℕ
head_in schema None = length (types_of schema.program)
head_in schema (Some d) = d.head

abbrev pub head_at : Declared → Option ℕ → ℕ
head_at schema None = length (types_of schema.program)
head_at schema (Some j) = head_in schema (slice_get schema.decls j)

-- the first constructor of the type with the number h
abbrev pub first_constructor : Declared → ℕ → Option ℕ
first_constructor schema h = position (λ d. d.head == h) schema.decls

abbrev pub counterpart_in : Declared → Declared → Option ℕ → Option ℕ
counterpart_in old new None = None
counterpart_in old new (Some i) = counterpart old new i

-- the type that the counterpart of its first constructor constructs
abbrev pub head_image : Declared → Declared → ℕ → ℕ
head_image old new h = head_at new (counterpart_in old new (first_constructor old h))

-- the counterpart; where there is none, the number of declarations
abbrev pub entry_image : Declared → Declared → ℕ → ℕ
entry_image old new i = unwrap_or (counterpart old new i) (length new.decls)

abbrev mutual
  -- the type with counterparts in place of its constructors and types; what the language has from the start and variables stay
  pub image : Declared → Declared → Shape → Shape
  image old new (vector is_boxed T) = vector is_boxed (image old new T)
  image old new (boxed h args) = boxed (head_image old new h) (image_each old new args)
  image old new (bare i args) = bare (entry_image old new i) (image_each old new args)
  image old new T = T

  pub image_each : Declared → Declared → Shapes → Shapes
  image_each old new no_shapes = no_shapes
  image_each old new (shape T args) = shape (image old new T) (image_each old new args)
