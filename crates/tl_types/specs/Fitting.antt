-- Which values fit a closed type, and where and why another doesn't. This project's own.
-- A value fits where it has a spelling of at most so many levels.
use Rattle.std.specs.Prelude.{◌≡◌, ℕ, zero, suc, ◌-◌, ◌^◌, ℤ, pos, negsuc, List, [], ◌∷◌, ◌++◌, length, Option, Some, None, is_some, Result, Ok, Err, Bool, true, false, not, ◌&&◌, ◌||◌, ◌==◌, nat_lt, if◌then◌else◌, slice_get}
use Rattle.tl_schema.specs.Types.{Shape, flag, vector, boxed, bare}
use Rattle.tl_schema.specs.Types as type
use Rattle.tl_schema.specs.Closing.{closed}
use Rattle.tl_schema.specs.Schemas.{Slot, Declaration}
use Rattle.tl_types.specs.Values.{ValueView, int, long, nat, opaque, text, truth, list, node, call, ValueViews, no_values, value, count}
use Rattle.tl_types.specs.Conditions.{stands_by}
use Rattle.tl_types.specs.Parts.{arguments_of, fields_in, is_absent, item_of}
use Rattle.tl_types.specs.declared.misfit.MisfitCause.{MisfitCause}
use Rattle.tl_types.specs.declared.misfit.MisfitCause.TheVariants.{WrongKind, WrongConstructor, WrongCount, FlagMismatch, OutOfRange, TooDeep}
use Rattle.tl_types.specs.declared.misfit.FitFault.{FitFault}
use Rattle.tl_types.specs.declared.misfit.FitFault.TheVariants as fault

-- ---- one value, its parts aside

-- The bit that a value stands by: none, or one that is set or clear.
abbrev pub Bit : Type 0
Bit = Option Bool

abbrev pub bit_of : Option (ℕ × ℕ) → List ValueView → Bit
bit_of None before = None
bit_of (Some c) before = Some (stands_by (Some c) before)

abbrev pub is_kind : Shape → ValueView → Bool
is_kind type.int (int z) = true
is_kind type.long (long z) = true
is_kind type.nat (nat n) = true
is_kind (type.opaque k) (opaque s) = true
is_kind type.str (text s) = true
is_kind type.raw (text s) = true
is_kind flag truth = true
is_kind (vector is_boxed T) (list vs) = true
is_kind (boxed h args) (node i vs) = true
is_kind (bare j args) (node i vs) = true
is_kind type.call (call i vs) = true
is_kind T v = false

-- the value is of the type's kind; what isn't there is so where it stands by a bit
abbrev pub has_kind : Bit → Shape → ValueView → Bool
has_kind bit T v = is_kind T v || (is_some bit && is_absent v)

abbrev pub constructs : ℕ → Option Declaration → Bool
constructs h None = false
constructs h (Some d) = d.head == h

abbrev pub is_called : Option Declaration → Bool
is_called None = false
is_called (Some d) = d.function

-- declaration i is a constructor of the type, if this has any
abbrev pub is_constructor : List Declaration → Shape → ℕ → Bool
is_constructor ds (boxed h args) i = constructs h (slice_get ds i)
is_constructor ds (bare j args) i = i == j
is_constructor ds T i = true

-- a record is of a constructor of the type, a call of a function
abbrev pub has_constructor : List Declaration → Shape → ValueView → Bool
has_constructor ds T (node i vs) = is_constructor ds T i
has_constructor ds T (call i vs) = is_called (slice_get ds i)
has_constructor ds T v = true

-- the type has so many bytes, if its values are opaque
abbrev pub has_width : Shape → ℕ → Bool
has_width (type.opaque k) n = n == k
has_width T n = true

-- an opaque value has as many bytes as its type, a record or call as many values as its declaration has fields
abbrev pub has_count : List Declaration → Shape → ValueView → Bool
has_count ds T (opaque s) = has_width T (length s)
has_count ds T (node i vs) = count vs == length (fields_in (slice_get ds i))
has_count ds T (call i vs) = count vs == length (fields_in (slice_get ds i))
has_count ds T v = true

-- what stands by a bit is there exactly where it is set
abbrev pub has_flag : Bit → ValueView → Bool
has_flag None v = true
has_flag (Some true) v = not (is_absent v)
has_flag (Some false) v = is_absent v

-- one of so many numbers below 0, and as many from 0
abbrev pub is_signed : ℕ → ℤ → Bool
is_signed half (pos n) = nat_lt n half
is_signed half (negsuc n) = nat_lt n half

abbrev pub is_in_range : ValueView → Bool
is_in_range (int z) = is_signed (2 ^ 31) z
is_in_range (long z) = is_signed (2 ^ 63) z
is_in_range (nat n) = nat_lt n (2 ^ 32)
is_in_range (text s) = nat_lt (length s) (2 ^ 24)
is_in_range (list vs) = nat_lt (count vs) (2 ^ 31)
is_in_range v = true

-- a list, a record or a call
abbrev pub is_deep_value : ValueView → Bool
is_deep_value (list vs) = true
is_deep_value (node i vs) = true
is_deep_value (call i vs) = true
is_deep_value v = false

-- with n levels left there is one for it
abbrev pub has_level : ℕ → ValueView → Bool
has_level zero v = not (is_deep_value v)
has_level (suc n) v = true

-- the first cause that the value has, its parts aside
abbrev pub node_misfit : List Declaration → ℕ → Bit → Shape → ValueView → Option MisfitCause
node_misfit ds n bit T v =
    if not (has_kind bit T v) then Some WrongKind
    else if not (has_constructor ds T v) then Some WrongConstructor
    else if not (has_count ds T v) then Some WrongCount
    else if not (has_flag bit v) then Some FlagMismatch
    else if not (is_in_range v) then Some OutOfRange
    else if not (has_level n v) then Some TooDeep
    else None

-- ---- a value and its parts

-- the indices of the part in its value, that of the outermost first, and its cause
abbrev pub MisfitView : Type 0
MisfitView = List ℕ × MisfitCause

-- the misfit of part i
abbrev pub inside : ℕ → Option MisfitView → Option MisfitView
inside i None = None
inside i (Some m) = Some (i ∷ m.0, m.1)

abbrev pub or_else : Option MisfitView → Option MisfitView → Option MisfitView
or_else None later = later
or_else (Some m) later = Some m

-- this cause, or what the parts have
abbrev pub or_parts : Option MisfitCause → Option MisfitView → Option MisfitView
or_parts None parts = parts
or_parts (Some cause) parts = Some ([], cause)

abbrev mutual
  -- the first misfit of a value of this type, with n levels left: its own before its parts', and these in their order
  pub misfit : List Declaration → ℕ → Bit → Shape → ValueView → Option MisfitView
  misfit ds n bit T (list vs) = or_parts (node_misfit ds n bit T (list vs)) (each_misfit ds (n - 1) (item_of T) 0 vs)
  misfit ds n bit T (node i vs) = or_parts (node_misfit ds n bit T (node i vs)) (field_misfit ds (n - 1) (arguments_of T) [] 0 (fields_in (slice_get ds i)) vs)
  misfit ds n bit T (call i vs) = or_parts (node_misfit ds n bit T (call i vs)) (field_misfit ds (n - 1) [] [] 0 (fields_in (slice_get ds i)) vs)
  misfit ds n bit T v = or_parts (node_misfit ds n bit T v) None

  -- of elements, which are counted from i
  pub each_misfit : List Declaration → ℕ → Shape → ℕ → ValueViews → Option MisfitView
  each_misfit ds n T i no_values = None
  each_misfit ds n T i (value v vs) = or_else (inside i (misfit ds n None T v)) (each_misfit ds n T (suc i) vs)

  -- of the values of fields, which are counted from i, after fields with the values before
  pub field_misfit : List Declaration → ℕ → List Shape → List ValueView → ℕ → List Slot → ValueViews → Option MisfitView
  field_misfit ds n args before i fs no_values = None
  field_misfit ds n args before i [] (value v vs) = None
  field_misfit ds n args before i (f ∷ fs) (value v vs) =
      or_else (inside i (misfit ds n (bit_of f.cond before) (closed args f.of) v)) (field_misfit ds n args (before ++ v ∷ []) (suc i) fs vs)

-- ---- answers

-- what is answered is the misfit, if there is one; out of memory is free
abbrev pub TellsMisfit : Option MisfitView → Result (Unit {0}) FitFault → Type 0
TellsMisfit m (Ok fits) = m ≡ None
TellsMisfit m (Err (fault.Misfit told)) = m ≡ Some (told.path.items, told.cause)
TellsMisfit m (Err fault.Memory) = Unit {0}
