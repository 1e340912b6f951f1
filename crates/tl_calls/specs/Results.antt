-- The result of a call: the type that its function declares, with the results of the calls in its fields `!X` in place of its variables.
-- From "TL language" (core.telegram.org/mtproto/TL), its functions and optional arguments. Limit and causes are this project's own.
use Rattle.std.specs.Prelude.{◌≡◌, ◌⊎◌, ℕ, ◌<◌, ◌≤◌, List, [], ◌∷◌, set, replicate, Option, Some, None, Result, Ok, Err, slice_get, if◌then◌else◌}
use Rattle.tl_plan.specs.Types.{levels}
use Rattle.tl_plan.specs.declared.fault.TheConstants.{MAX_LEVELS}
use Rattle.tl_schema.specs.Types.{Shape, Shapes, no_shapes, shape}
use Rattle.tl_schema.specs.Types as type
use Rattle.tl_schema.specs.Closing.{closed}
use Rattle.tl_schema.specs.Schemas.{Slot, Declaration, Declared}
use Rattle.tl_schema.specs.Formed.{IsEmpty}
use Rattle.tl_schema.specs.Seen as seen
use Rattle.tl_schema.specs.declared.schema.TypeRef.{TypeRef}
use Rattle.tl_types.specs.Values.{ValueView, call, ValueViews, no_values, value}
use Rattle.tl_types.specs.Parts.{fields_in}
use Rattle.tl_calls.specs.declared.fault.ResultCause.{ResultCause}
use Rattle.tl_calls.specs.declared.fault.ResultCause.TheVariants.{TypeTooDeep, EmptyElement}
use Rattle.tl_calls.specs.declared.fault.ResultFault.{ResultFault}
use Rattle.tl_calls.specs.declared.fault.ResultFault.TheVariants.{Refused, Memory}

-- ---- functions

-- the declaration, if it is a function
abbrev pub if_function : Option Declaration → Option Declaration
if_function None = None
if_function (Some d) = if d.function then Some d else None

-- the function at the index, if there is one
abbrev pub function_in : List Declaration → ℕ → Option Declaration
function_in ds i = if_function (slice_get ds i)

abbrev pub vars_in : Option Declaration → ℕ
vars_in None = 0
vars_in (Some d) = d.vars

abbrev pub result_in : Option Declaration → Shape
result_in None = type.call
result_in (Some d) = d.result

-- ---- results

-- the results that are known of the variables, with this one for the variable that a field is a call of
abbrev pub with_result : Option ℕ → Shape → List Shape → List Shape
with_result None T known = known
with_result (Some i) T known = set known i T

abbrev mutual
  -- A call's result. No other value has one; a call of any function stands for it.
  pub result_type : List Declaration → ValueView → Shape
  result_type ds (call i vs) = closed (results ds (replicate (vars_in (function_in ds i)) type.call) (fields_in (function_in ds i)) vs) (result_in (function_in ds i))
  result_type ds v = type.call

  -- the results of the variables: each is that of the call in the variable's field `!X`
  pub results : List Declaration → List Shape → List Slot → ValueViews → List Shape
  results ds known fs no_values = known
  results ds known [] (value v vs) = known
  results ds known (f ∷ fs) (value v vs) = results ds (with_result f.var (result_type ds v) known) fs vs

-- ---- causes

abbrev mutual
  -- an argument or an element in the type, at any depth, is a bare constructor that takes no bytes
  pub HasEmptyArgument : Declared → Shape → Type 0
  HasEmptyArgument schema (type.vector is_boxed T) = IsEmpty schema T ⊎ HasEmptyArgument schema T
  HasEmptyArgument schema (type.boxed h args) = HasEmptyAmong schema args
  HasEmptyArgument schema (type.bare i args) = HasEmptyAmong schema args
  HasEmptyArgument schema T = ⊥

  -- one of the arguments is such, or has one in it
  pub HasEmptyAmong : Declared → Shapes → Type 0
  HasEmptyAmong schema no_shapes = ⊥
  HasEmptyAmong schema (shape T args) = IsEmpty schema T ⊎ HasEmptyArgument schema T ⊎ HasEmptyAmong schema args

-- the type has the cause; the first counts
abbrev pub ResultHas : Declared → Shape → ResultCause → Type 0
ResultHas schema T TypeTooDeep = MAX_LEVELS < levels T
ResultHas schema T EmptyElement = (levels T ≤ MAX_LEVELS) × HasEmptyArgument schema T

-- the type has none
pub record IsAnswerable (schema : Declared) (T : Shape) : Type 0 where
  pub shallow : levels T ≤ MAX_LEVELS
  pub full : HasEmptyArgument schema T → ⊥

-- the call is answered in its result
abbrev pub HasResult : Declared → ValueView → Type 0
HasResult schema v = IsAnswerable schema (result_type schema.decls v)

-- ---- answers; out of memory is free

-- the call's result, or the cause that it has
abbrev pub TellsResult : Declared → ValueView → Result TypeRef ResultFault → Type 0
TellsResult schema v (Ok of) = (seen.shape of ≡ result_type schema.decls v) × HasResult schema v
TellsResult schema v (Err (Refused cause)) = ResultHas schema (result_type schema.decls v) cause
TellsResult schema v (Err Memory) = Unit {0}

-- the first cause that the type has, or none
abbrev pub TellsCause : Declared → Shape → Option ResultCause → Type 0
TellsCause schema T (Some cause) = ResultHas schema T cause
TellsCause schema T None = IsAnswerable schema T
