-- The types that some types reach: breadth first, in the order of fields. This project's own.
-- Each is kept with the declaration whose field names it; where none does, the number of declarations stands in its place.
use Rattle.std.specs.Prelude.{ℕ, zero, suc, ◌+◌, List, [], ◌∷◌, ◌++◌, length, map, Option, Some, None, nat_lt, if◌then◌else◌, slice_get}
use Rattle.std.specs.List.{flat_map}
use Rattle.tl_schema.specs.Types.{Shape, vector}
use Rattle.tl_schema.specs.Closing.{closed}
use Rattle.tl_schema.specs.Schemas.{Declared}
use Rattle.tl_plan.specs.Types.{arguments_of, is_among, levels}
use Rattle.tl_plan.specs.Entries.{entries_of, fields_at}
use Rattle.tl_plan.specs.declared.fault.TheConstants.{MAX_INSTANCES, MAX_LEVELS}

-- a type, and the declaration whose field names it
pub record Named : Type 0 where
  pub of : Shape
  pub decl : ℕ

abbrev pub types_in : List Named → List Shape
types_in ns = map (λ n. n.of) ns

-- types that no field names
abbrev pub unnamed : Declared → List Shape → List Named
unnamed S Ts = map (λ T. record { of = T; decl = length S.decls }) Ts

-- the types of the fields of declaration i, with these arguments in place of its variables
abbrev pub fields_named : Declared → List Shape → ℕ → List Named
fields_named S args i = map (λ f. record { of = closed args f.of; decl = i }) (fields_at S i)

-- the types that a type names: of a vector its elements', of any other those of the fields of its declarations
abbrev pub names_of : Declared → Shape → List Named
names_of S (vector is_boxed T) = unnamed S (T ∷ [])
names_of S T = flat_map (fields_named S (arguments_of T)) (entries_of S T)

-- ---- what is reached

-- a type that doesn't stand there yet comes to the end
abbrev pub meet : List Named → Named → List Named
meet ns n = if is_among n.of (types_in ns) then ns else ns ++ n ∷ []

-- likewise each of them, in order
abbrev pub meet_all : List Named → List Named → List Named
meet_all ns [] = ns
meet_all ns (m ∷ ms) = meet_all (meet ns m) ms

abbrev pub named_by : Declared → Option Named → List Named
named_by S None = []
named_by S (Some n) = names_of S n.of

-- after n of the types, in order, have named theirs
unfoldable pub reached : Declared → List Shape → ℕ → List Named
reached S roots zero = unnamed S roots
reached S roots (suc n) = meet_all (reached S roots n) (named_by S (slice_get (reached S roots n) n))

-- one type more than a plan may have; where there are fewer, they are all that the roots reach
unfoldable pub all_reached : Declared → List Shape → List Named
all_reached S roots = reached S roots (MAX_INSTANCES + 1)

-- ---- limits

-- the declaration whose field names the first type that is too deep
abbrev pub first_too_deep : List Named → Option ℕ
first_too_deep [] = None
first_too_deep (n ∷ ns) = if nat_lt MAX_LEVELS (levels n.of) then Some n.decl else first_too_deep ns
