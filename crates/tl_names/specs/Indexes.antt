-- The numbers by which types go, and the first constructor of each.
-- From "TL language" (core.telegram.org/mtproto/TL): a type is what its constructors make. The order of the numbers is this project's own.
use Rattle.std.specs.Prelude.{ℕ, List, [], fold, length, position, slice_get, Bool, false, bytes_eq, Option, Some, None, unwrap_or}
use Rattle.std.specs.Option.{option_and_then}
use Rattle.tl_program.specs.Program.{DeclText}
use Rattle.tl_names.specs.Writing.{own_type}
use Rattle.tl_names.specs.NameLists.{with_name}

-- the types with that of one declaration more
abbrev pub with_type_of : List (List ℕ) → Option (List ℕ) → List (List ℕ)
with_type_of types None = types
with_type_of types (Some type) = with_name types type

-- the types of a program by their names, in the order of their first constructors
abbrev pub types_of : List DeclText → List (List ℕ)
types_of ds = fold (λ types d. with_type_of types (own_type d)) [] ds

abbrev pub is_type : List ℕ → Option (List ℕ) → Bool
is_type type None = false
is_type type (Some name) = bytes_eq type name

-- the index of the first constructor of this type
abbrev pub first_of : List DeclText → List ℕ → Option ℕ
first_of ds type = position (λ d. is_type type (own_type d)) ds

-- the index of the first constructor of the type with this number, or the number of declarations
abbrev pub first_numbered : List DeclText → ℕ → ℕ
first_numbered ds n = unwrap_or (option_and_then (first_of ds) (slice_get (types_of ds) n)) (length ds)
