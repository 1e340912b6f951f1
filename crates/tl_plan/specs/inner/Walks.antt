-- The steps of making a plan: types are reached one by one, until one is too deep or they are too many. This project's own.
use Rattle.std.specs.Prelude.{◌≡◌, ℕ, zero, suc, List, [], ◌∷◌, ◌++◌, length, map, Option, Some, None, Result, Ok, Err, nat_lt, if◌then◌else◌, slice_get, get_or, Vec}
use Rattle.tl_schema.specs.Types.{Shape}
use Rattle.tl_schema.specs.Schemas.{Declared}
use Rattle.tl_plan.specs.Types.{is_among, levels}
use Rattle.tl_plan.specs.Entries.{constructors_of, functions_of}
use Rattle.tl_plan.specs.Reached.{Named, names_of, unnamed}
use Rattle.tl_plan.specs.Plans.{IsPlan, NamesAmong, instance_of, plan_of}
use Rattle.tl_plan.specs.Seen.{Shows}
use Rattle.tl_plan.specs.inner.Nodes.{AreBelow, Grows, types_at}
use Rattle.tl_plan.specs.declared.instances.Instance.{Instance}
use Rattle.tl_plan.specs.declared.fault.PlanFault.{PlanFault}
use Rattle.tl_plan.specs.declared.fault.PlanFault.TheVariants.{TypeTooDeep, TooManyInstances, Memory}
use Rattle.tl_plan.specs.declared.fault.TheConstants.{MAX_INSTANCES, MAX_LEVELS}

-- ---- steps

abbrev pub Walk : Type 0
Walk = Result (List Shape) PlanFault

abbrev pub then_walk : Walk → (List Shape → Walk) → Walk
then_walk (Ok ts) f = f ts
then_walk (Err e) f = Err e

-- the type comes to the end, unless it is too deep or there are too many
abbrev pub add : List Shape → Named → Walk
add ts n =
    if nat_lt MAX_LEVELS (levels n.of) then Err (TypeTooDeep n.decl) else if nat_lt (length ts) MAX_INSTANCES then Ok (ts ++ n.of ∷ []) else Err TooManyInstances

abbrev pub add_all : List Shape → List Named → Walk
add_all ts [] = Ok ts
add_all ts (n ∷ ns) = then_walk (add ts n) (λ us. add_all us ns)

-- likewise a type that doesn't stand there yet
abbrev pub find : List Shape → Named → Walk
find ts n = if is_among n.of ts then Ok ts else add ts n

abbrev pub find_all : List Shape → List Named → Walk
find_all ts [] = Ok ts
find_all ts (n ∷ ns) = then_walk (find ts n) (λ us. find_all us ns)

abbrev pub names_by : Declared → Option Shape → List Named
names_by S None = []
names_by S (Some T) = names_of S T

-- type n of those that are reached names its own
abbrev pub expand : Declared → ℕ → List Shape → Walk
expand S n ts = find_all ts (names_by S (slice_get ts n))

-- after n of them have named theirs
unfoldable pub walked : Declared → List Shape → ℕ → Walk
walked S roots zero = add_all [] (unnamed S roots)
walked S roots (suc n) = then_walk (walked S roots n) (expand S n)

-- ---- what the code has

-- The walk came so far, with this answer, or it ended with this fault; out of memory is free. The types have numbers, old ones and new, and those
-- that are reached are among them.
abbrev pub Walks : {A : Type 0} → Walk → List Shape → List Shape → List ℕ → Result A PlanFault → (A → Type 0) → Type 0
Walks walk old new ns (Ok x) P = (walk ≡ Ok (types_at new ns)) × Grows old new × AreBelow (length new) ns × P x
Walks walk old new ns (Err Memory) P = Unit {0}
Walks walk old new ns (Err fault) P = walk ≡ Err fault

-- ---- the declarations of each type

abbrev pub lists_of : {A : Type 0} → List (Vec ℕ A) → List (List ℕ)
lists_of lists = map (λ is. is.items) lists

-- i came to the end of list h, if there is such a list
abbrev pub noted : List (List ℕ) → ℕ → ℕ → List (List ℕ)
noted [] h i = []
noted (is ∷ lists) zero i = (is ++ i ∷ []) ∷ lists
noted (is ∷ lists) (suc h) i = is ∷ noted lists h i

-- of each type with a number its constructors, and the functions
pub record AreHeads (S : Declared) (lists : List (List ℕ)) (called : List ℕ) : Type 0 where
  pub constructors : (h : ℕ) → get_or lists h [] ≡ constructors_of S h
  pub functions : called ≡ functions_of S

-- ---- instances

-- instance k stands for type k, and the types that this names are there
pub record AreShown (S : Declared) (ts : List Shape) (instances : List Instance) : Type 0 where
  pub shown : (k : ℕ) (T : Shape) (i : Instance) → slice_get ts k ≡ Some T → slice_get instances k ≡ Some i → Shows (instance_of S ts T) i × NamesAmong S ts T

-- each type has its instance
pub record IsMade (S : Declared) (roots : ℕ) (ts : List Shape) (instances : List Instance) : Type 0 where
  pub plan : IsPlan (plan_of S roots ts)
  pub count : length instances ≡ length ts
  pub shown : AreShown S ts instances
