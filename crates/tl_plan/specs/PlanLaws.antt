-- What holds of plans, for what decodes by them, and of their definitions. This project's own.
use Rattle.std.specs.Prelude.{◌≡◌, ◌≢◌, ◌↔◌, ℕ, ◌<◌, List, [], ◌∷◌, length, map, true, Bool, Some, Result, slice_get, Ok, Err}
use Rattle.tl_schema.specs.Types.{Shape, Shapes, call, vector, boxed, bare}
use Rattle.tl_schema.specs.Closing.{closed}
use Rattle.tl_schema.specs.Schemas.{Slot, Declaration, Declared}
use Rattle.tl_schema.specs.Formed.{IsFunction, IsMember}
use Rattle.tl_plan.specs.Types.{arguments_of, is_same}
use Rattle.tl_plan.specs.Entries.{entries_of}
use Rattle.tl_plan.specs.Plans.{InstanceView, IsFlagOrFormed, IsPlan, MemberView, PlanView, Plans}
use Rattle.tl_plan.specs.declared.fault.PlanFault.{PlanFault}
use Rattle.tl_plan.specs.declared.fault.PlanFault.TheVariants.{Memory}

-- instance j of the plan is one of type T
abbrev pub IsInstance : PlanView → ℕ → Shape → Type 0
IsInstance p j T = (x : InstanceView) × (slice_get p.instances j ≡ Some x) × (x.of ≡ T)

-- ---- roots

-- the plan of some roots of a schema
pub record IsPlanOf (S : Declared) (Rs : List Shape) (p : PlanView) : Type 0 where
  pub schema : p.schema ≡ S
  pub count : p.roots ≡ length Rs
  -- root k is instance k
  pub roots : (k : ℕ) (T : Shape) → slice_get Rs k ≡ Some T → IsInstance p k T

abbrev pub RootsHaveInstances : Type 0
RootsHaveInstances = (S : Declared) (roots : List Shape) (p : PlanView) → Plans S roots (Ok p) → IsPlanOf S roots p

-- ---- vectors

-- the element of a vector has its instance
abbrev pub ItemsHaveInstances : Type 0
ItemsHaveInstances = (p : PlanView) → IsPlan p → (k : ℕ) (x : InstanceView) (is_boxed : Bool) (T : Shape) → slice_get p.instances k ≡ Some x → x.of ≡ vector is_boxed T → (j : ℕ) × (x.item ≡ Some j) × IsInstance p j T

-- ---- declarations

-- the member is declaration d, each field of which has its instance
pub record IsMemberOf (p : PlanView) (T : Shape) (m : MemberView) (d : Declaration) : Type 0 where
  pub there : slice_get p.schema.decls m.entry ≡ Some d
  pub count : length m.fields ≡ length d.fields
  pub fields : (k : ℕ) (f : Slot) → slice_get d.fields k ≡ Some f → (j : ℕ) × (slice_get m.fields k ≡ Some j) × IsInstance p j (closed (arguments_of T) f.of)

abbrev pub StandsIn : List ℕ → ℕ → Type 0
StandsIn is i = (k : ℕ) × (slice_get is k ≡ Some i)

-- the list has those of which it is said, and none else, in ascending order
pub record AreThose (Is : ℕ → Type 0) (is : List ℕ) : Type 0 where
  pub all : (i : ℕ) → Is i → StandsIn is i
  pub only : (i : ℕ) → StandsIn is i → Is i
  pub ascending : (j k i h : ℕ) → j < k → slice_get is j ≡ Some i → slice_get is k ≡ Some h → i < h

abbrev pub entries_in : InstanceView → List ℕ
entries_in x = map (λ m. m.entry) x.members

-- a boxed type has each of its constructors, a bare one that constructor, and a call each function; and each is such a member
pub record HasMembers (p : PlanView) (x : InstanceView) : Type 0 where
  pub of_boxed : (h : ℕ) (args : Shapes) → x.of ≡ boxed h args → AreThose (λ i. (d : Declaration) × IsMember p.schema h i d) (entries_in x)
  pub of_bare : (i : ℕ) (args : Shapes) → x.of ≡ bare i args → entries_in x ≡ i ∷ []
  pub of_call : x.of ≡ call → AreThose (λ i. (d : Declaration) × IsFunction p.schema i d) (entries_in x)
  pub each : (k : ℕ) (m : MemberView) → slice_get x.members k ≡ Some m → (d : Declaration) × IsMemberOf p x.of m d

abbrev pub InstancesHaveMembers : Type 0
InstancesHaveMembers = (p : PlanView) → IsPlan p → (k : ℕ) (x : InstanceView) → slice_get p.instances k ≡ Some x → HasMembers p x

-- a boxed type's declarations are its constructors, and those of a call the functions
pub record HasEntries (S : Declared) : Type 0 where
  pub constructors : (h : ℕ) (args : Shapes) → AreThose (λ i. (d : Declaration) × IsMember S h i d) (entries_of S (boxed h args))
  pub functions : AreThose (λ i. (d : Declaration) × IsFunction S i d) (entries_of S call)

abbrev pub EntriesAreDeclared : Type 0
EntriesAreDeclared = (S : Declared) → HasEntries S

-- ---- formed types

abbrev pub EachIsFormed : Type 0
EachIsFormed = (p : PlanView) → IsPlan p → (k : ℕ) (x : InstanceView) → slice_get p.instances k ≡ Some x → IsFlagOrFormed p.schema x.of

-- ---- one answer

-- two answers for the same roots are one, out of memory aside
abbrev pub OneAnswer : Type 0
OneAnswer = (S : Declared) (roots : List Shape) (a b : Result PlanView PlanFault) → Plans S roots a → Plans S roots b → a ≢ Err Memory → b ≢ Err Memory → a ≡ b

-- `is_same` says which types are one
abbrev pub SameTypes : Type 0
SameTypes = (T U : Shape) → (is_same T U ≡ true) ↔ (T ≡ U)
