-- The spelling of a value as a function; of what doesn't fit its type it means nothing. This project's own.
use Rattle.std.specs.Prelude.{ℕ, List, [], ◌∷◌, ◌++◌, Option, Some, None, slice_get}
use Rattle.std.specs.Int.{w32, w64, cast_unsigned}
use Rattle.tl_numbers.specs.Numbers.{word, double_word}
use Rattle.tl_schema.specs.Types.{Shape}
use Rattle.tl_schema.specs.Types as type
use Rattle.tl_schema.specs.Closing.{closed}
use Rattle.tl_schema.specs.Schemas.{Slot, Declaration}
use Rattle.tl_types.specs.Values.{ValueView, int, long, nat, opaque, text, truth, absent, list, node, call, ValueViews, no_values, value, count}
use Rattle.tl_types.specs.Parts.{arguments_of, fields_in, item_of}
use Rattle.tl_types.specs.Spelling.{vector_prefix}
use Rattle.tl_types.specs.Texts.{text_bytes}

-- the number of a declaration, where it is there
abbrev pub number_bytes : Option Declaration → List ℕ
number_bytes None = []
number_bytes (Some d) = word d.number

-- what comes before the fields of a record of declaration i
abbrev pub record_prefix : List Declaration → Shape → ℕ → List ℕ
record_prefix ds (type.boxed h args) i = number_bytes (slice_get ds i)
record_prefix ds T i = []

-- what comes before the count of a list
abbrev pub list_prefix : Shape → List ℕ
list_prefix (type.vector is_boxed T) = vector_prefix is_boxed
list_prefix T = []

-- what comes before a value's parts
abbrev pub start : List Declaration → Shape → ValueView → List ℕ
start ds T (int z) = word (cast_unsigned w32 z)
start ds T (long z) = double_word (cast_unsigned w64 z)
start ds T (nat n) = word n
start ds T (opaque s) = s
start ds T (text s) = text_bytes s
start ds T truth = []
start ds T absent = []
start ds T (list vs) = list_prefix T ++ word (count vs)
start ds T (node i vs) = record_prefix ds T i
start ds T (call i vs) = number_bytes (slice_get ds i)

abbrev mutual
  -- a value's spelling
  pub spelling : List Declaration → Shape → ValueView → List ℕ
  spelling ds T (list vs) = start ds T (list vs) ++ spelling_each ds (item_of T) vs
  spelling ds T (node i vs) = start ds T (node i vs) ++ spelling_fields ds (arguments_of T) (fields_in (slice_get ds i)) vs
  spelling ds T (call i vs) = start ds T (call i vs) ++ spelling_fields ds [] (fields_in (slice_get ds i)) vs
  spelling ds T v = start ds T v ++ []

  -- those of elements, one after the other
  pub spelling_each : List Declaration → Shape → ValueViews → List ℕ
  spelling_each ds T no_values = []
  spelling_each ds T (value v vs) = spelling ds T v ++ spelling_each ds T vs

  -- those of the values of fields, one after the other; what isn't there has no bytes
  pub spelling_fields : List Declaration → List Shape → List Slot → ValueViews → List ℕ
  spelling_fields ds args fs no_values = []
  spelling_fields ds args [] (value v vs) = []
  spelling_fields ds args (f ∷ fs) (value v vs) = spelling ds (closed args f.of) v ++ spelling_fields ds args fs vs

-- those of a value's parts
abbrev pub parts_bytes : List Declaration → Shape → ValueView → List ℕ
parts_bytes ds T (list vs) = spelling_each ds (item_of T) vs
parts_bytes ds T (node i vs) = spelling_fields ds (arguments_of T) (fields_in (slice_get ds i)) vs
parts_bytes ds T (call i vs) = spelling_fields ds [] (fields_in (slice_get ds i)) vs
parts_bytes ds T v = []
