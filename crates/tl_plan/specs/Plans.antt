-- Plans: the types that some types reach, each with the numbers of what it names. This project's own.
use Rattle.std.specs.Prelude.{◌≡◌, ◌⊎◌, ℕ, ◌+◌, ◌≤◌, List, [], ◌∷◌, length, map, take, true, Option, Some, None, Result, Ok, Err, nat_lt, if◌then◌else◌, slice_get}
use Rattle.tl_schema.specs.Types.{Shape, flag, vector}
use Rattle.tl_schema.specs.Closing.{closed}
use Rattle.tl_schema.specs.Schemas.{Declared}
use Rattle.tl_schema.specs.CheckedPrograms.{IsSchema}
use Rattle.tl_schema.specs.Formed.{IsFormed}
use Rattle.tl_plan.specs.Types.{arguments_of, index_of, is_among}
use Rattle.tl_plan.specs.Entries.{entries_of, fields_at}
use Rattle.tl_plan.specs.Reached.{Named, all_reached, first_too_deep, names_of, types_in}
use Rattle.tl_plan.specs.declared.fault.PlanFault.{PlanFault}
use Rattle.tl_plan.specs.declared.fault.PlanFault.TheVariants.{TypeTooDeep, TooManyInstances, Memory}
use Rattle.tl_plan.specs.declared.fault.TheConstants.{MAX_INSTANCES}

-- a declaration of an instance's type, and the instance of each of its fields
pub record MemberView : Type 0 where
  pub entry : ℕ
  pub fields : List ℕ

-- a closed type: of a vector the instance of its elements, of any other type its declarations
pub record InstanceView : Type 0 where
  pub of : Shape
  pub item : Option ℕ
  pub members : List MemberView

-- its first instances are those of the roots
pub record PlanView : Type 0 where
  pub schema : Declared
  pub roots : ℕ
  pub instances : List InstanceView

-- ---- the instances of some types, where these stand in ts

abbrev pub item_in : List Shape → Shape → Option ℕ
item_in ts (vector is_boxed T) = Some (index_of T ts)
item_in ts T = None

-- declaration i, with these arguments in place of its variables
abbrev pub member_of : Declared → List Shape → List Shape → ℕ → MemberView
member_of S ts args i = record { entry = i; fields = map (λ f. index_of (closed args f.of) ts) (fields_at S i) }

abbrev pub instance_of : Declared → List Shape → Shape → InstanceView
instance_of S ts T = record { of = T; item = item_in ts T; members = map (member_of S ts (arguments_of T)) (entries_of S T) }

abbrev pub plan_of : Declared → ℕ → List Shape → PlanView
plan_of S roots ts = record { schema = S; roots = roots; instances = map (instance_of S ts) ts }

-- ---- answers

abbrev pub answer_by : Declared → ℕ → List Named → Option ℕ → Result PlanView PlanFault
answer_by S roots ns (Some decl) = Err (TypeTooDeep decl)
answer_by S roots ns None = if nat_lt MAX_INSTANCES (length ns) then Err TooManyInstances else Ok (plan_of S roots (types_in ns))

-- Where one of the first types is too deep, the first such; else that they are too many, or their plan.
unfoldable pub answer : Declared → List Shape → Result PlanView PlanFault
answer S roots = answer_by S (length roots) (all_reached S roots) (first_too_deep (take (MAX_INSTANCES + 1) (all_reached S roots)))

-- the answer for these roots; out of memory is free
abbrev pub Plans : Declared → List Shape → Result PlanView PlanFault → Type 0
Plans S roots (Err Memory) = Unit {0}
Plans S roots result = result ≡ answer S roots

-- each of these types has values
abbrev pub AreFormed : Declared → List Shape → Type 0
AreFormed S Ts = (k : ℕ) (T : Shape) → slice_get Ts k ≡ Some T → IsFormed S T

-- ---- what each plan is

abbrev pub types_of_plan : PlanView → List Shape
types_of_plan p = map (λ x. x.of) p.instances

-- a flag, or a type with values
abbrev pub IsFlagOrFormed : Declared → Shape → Type 0
IsFlagOrFormed S T = (T ≡ flag) ⊎ IsFormed S T

-- each of these types stands in ts
abbrev pub AreAmong : List Shape → List Named → Type 0
AreAmong ts [] = Unit {0}
AreAmong ts (n ∷ ns) = (is_among n.of ts ≡ true) × AreAmong ts ns

-- each type that T names stands in ts
abbrev pub NamesAmong : Declared → List Shape → Shape → Type 0
NamesAmong S ts T = AreAmong ts (names_of S T)

pub record IsPlan (p : PlanView) : Type 0 where
  pub schema : IsSchema p.schema
  pub few : length p.instances ≤ MAX_INSTANCES
  pub roots : p.roots ≤ length p.instances
  pub instances : p.instances ≡ map (instance_of p.schema (types_of_plan p)) (types_of_plan p)
  pub closed : (k : ℕ) (T : Shape) → slice_get (types_of_plan p) k ≡ Some T → NamesAmong p.schema (types_of_plan p) T
  pub formed : (k : ℕ) (T : Shape) → slice_get (types_of_plan p) k ≡ Some T → IsFlagOrFormed p.schema T
