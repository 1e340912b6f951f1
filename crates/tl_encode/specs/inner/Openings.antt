-- The members of an instance, and the frames of records and calls. This project's own.
use Rattle.std.specs.Prelude.{◌≡◌, ℕ, ◌<◌, ◌^◌, List, Some, length, map, slice_get}
use Rattle.tl_schema.specs.Schemas.{Declaration}
use Rattle.tl_schema.specs.Seen.{slot}
use Rattle.tl_plan.specs.PlanLaws.{StandsIn}
use Rattle.tl_plan.specs.declared.instances.Member.{Member}
use Rattle.tl_types.specs.Parts.{fields_in}
use Rattle.tl_types.specs.declared.value.Value.{Value}
use Rattle.tl_encode.specs.declared.frames.WalkFrame.{WalkFrame}
use Rattle.tl_encode.specs.declared.frames.PartInstances.{PartInstances}
use Rattle.tl_encode.specs.declared.frames.PartInstances.TheVariants.{Elements, Fields}

abbrev pub entries_of : List Member → List ℕ
entries_of ms = map (λ m. m.entry) ms

-- they stand in ascending order
abbrev pub AscendEntries : List ℕ → Type 0
AscendEntries is = (a b j h : ℕ) → a < b → slice_get is a ≡ Some j → slice_get is b ≡ Some h → j < h

abbrev pub Ascend : List Member → Type 0
Ascend ms = AscendEntries (entries_of ms)

-- one of the members is declaration i
abbrev pub Names : List Member → ℕ → Type 0
Names ms i = StandsIn (entries_of ms) i

-- it is this one
abbrev pub IsNamed : List Member → ℕ → Member → Type 0
IsNamed ms i m = (k : ℕ) × (slice_get ms k ≡ Some m) × (m.entry ≡ i)

-- the frame of the values of declaration i's fields
abbrev pub HasFieldParts : List Member → List Declaration → ℕ → PartInstances → Type 0
HasFieldParts ms ds i (Elements of) = ⊥
HasFieldParts ms ds i (Fields of slots) = (m : Member) × IsNamed ms i m × (of.now ≡ m.fields.items) × (map slot slots.now ≡ fields_in (slice_get ds i)) × (length slots.now < 2 ^ 32)

pub record IsFieldsFrame (ms : List Member) (ds : List Declaration) (i : ℕ) (vs : List Value) (f : WalkFrame) : Type 0 where
  pub values : f.values.now ≡ vs
  pub at : f.at ≡ 0
  pub parts : HasFieldParts ms ds i f.parts
