-- A walk over a value, by a plan: each part before its own parts, and these in their order. This project's own.
use Rattle.std.specs.Prelude.{◌≡◌, ℕ, suc, ◌+◌, ◌-◌, ◌<◌, List, [], ◌∷◌, ◌++◌, length, map, take, drop, Option, Some, None, Result, Ok, Err, true, false, slice_get, Vec}
use Rattle.std.specs.declared.alloc.Global.{Global}
use Rattle.tl_schema.specs.Types.{Shape}
use Rattle.tl_schema.specs.Types as type
use Rattle.tl_schema.specs.Seen.{slot}
use Rattle.tl_schema.specs.Schemas.{Slot, Declaration}
use Rattle.tl_plan.specs.Plans.{InstanceView, PlanView}
use Rattle.tl_types.specs.Values.{ValueView, list, node, call, ValueViews, no_values, value}
use Rattle.tl_types.specs.Parts.{arguments_of, fields_in, item_of}
use Rattle.tl_types.specs.Fitting.{MisfitView, bit_of, each_misfit, field_misfit, inside, is_deep_value, misfit, or_else}
use Rattle.tl_types.specs.Seen.{view, views}
use Rattle.tl_types.specs.declared.value.Value.{Value}
use Rattle.tl_types.specs.declared.value.TheConstants.{MAX_LEVELS}
use Rattle.tl_types.specs.declared.misfit.FitFault.{FitFault}
use Rattle.tl_types.specs.declared.misfit.FitFault.TheVariants as fit
use Rattle.tl_encode.specs.declared.frames.WalkFrame.{WalkFrame}
use Rattle.tl_encode.specs.declared.frames.Part.{Part}
use Rattle.tl_encode.specs.declared.frames.PartInstances.{PartInstances}
use Rattle.tl_encode.specs.declared.frames.PartInstances.TheVariants.{Elements, Fields}
use Rattle.tl_encode.specs.inner.Bytes.{parts_bytes, spelling, spelling_each, start}
use Rattle.tl_encode.specs.inner.Frames.{IsCounted, after, path_of}

-- ---- types by number

abbrev pub type_in : Option InstanceView → Shape
type_in None = type.call
type_in (Some x) = x.of

-- the type of an instance
abbrev pub type_at : PlanView → ℕ → Shape
type_at p k = type_in (slice_get p.instances k)

abbrev pub AreInstances : PlanView → List ℕ → Type 0
AreInstances p [] = Unit {0}
AreInstances p (k ∷ ks) = (k < length p.instances) × AreInstances p ks

-- ---- what is left of a frame

-- the first misfit of the values of fields, each of the type of its instance
abbrev pub fields_misfit : PlanView → ℕ → List ValueView → ℕ → List ℕ → List Slot → ValueViews → Option MisfitView
fields_misfit p n before i ks fs no_values = None
fields_misfit p n before i [] fs (value v vs) = None
fields_misfit p n before i (k ∷ ks) [] (value v vs) = None
fields_misfit p n before i (k ∷ ks) (f ∷ fs) (value v vs) =
    or_else (inside i (misfit p.schema.decls n (bit_of f.cond before) (type_at p k) v)) (fields_misfit p n (before ++ v ∷ []) (suc i) ks fs vs)

abbrev pub fields_bytes : PlanView → List ℕ → ValueViews → List ℕ
fields_bytes p ks no_values = []
fields_bytes p [] (value v vs) = []
fields_bytes p (k ∷ ks) (value v vs) = spelling p.schema.decls (type_at p k) v ++ fields_bytes p ks vs

-- the first misfit of the parts from index i on, with n levels left for them
abbrev pub misfit_from : PlanView → ℕ → PartInstances → List Value → ℕ → Option MisfitView
misfit_from p n (Elements of) vs i = each_misfit p.schema.decls n (type_at p of) i (views (drop i vs))
misfit_from p n (Fields of slots) vs i = fields_misfit p n (map view (take i vs)) i (drop i of.now) (map slot (drop i slots.now)) (views (drop i vs))

abbrev pub bytes_from : PlanView → PartInstances → List Value → ℕ → List ℕ
bytes_from p (Elements of) vs i = spelling_each p.schema.decls (type_at p of) (views (drop i vs))
bytes_from p (Fields of slots) vs i = fields_bytes p (drop i of.now) (views (drop i vs))

abbrev pub HasInstances : PlanView → PartInstances → Type 0
HasInstances p (Elements of) = of < length p.instances
HasInstances p (Fields of slots) = AreInstances p of.now

abbrev pub frame_misfit : PlanView → ℕ → WalkFrame → Option MisfitView
frame_misfit p n f = misfit_from p n f.parts f.values.now f.at

abbrev pub frame_bytes : PlanView → WalkFrame → List ℕ
frame_bytes p f = bytes_from p f.parts f.values.now f.at

-- ---- how much is left

abbrev mutual
  pub weight : ValueView → ℕ
  weight (list vs) = 2 + weights vs
  weight (node i vs) = 2 + weights vs
  weight (call i vs) = 2 + weights vs
  weight v = 2

  pub weights : ValueViews → ℕ
  weights no_values = 0
  weights (value v vs) = weight v + weights vs

abbrev pub frame_weight : WalkFrame → ℕ
frame_weight f = 1 + weights (views (drop f.at f.values.now))

-- ---- what is left of a walk: of all frames, and of the part that it comes to

abbrev pub under : List ℕ → Option MisfitView → Option MisfitView
under path None = None
under path (Some m) = Some (path ++ m.0, m.1)

abbrev pub levels_in : List WalkFrame → ℕ
levels_in fs = MAX_LEVELS - length fs

abbrev pub misfit_left : PlanView → List WalkFrame → Option MisfitView
misfit_left p [] = None
misfit_left p (f ∷ fs) = or_else (under (path_of fs) (frame_misfit p (levels_in (f ∷ fs)) f)) (misfit_left p fs)

abbrev pub bytes_left : PlanView → List WalkFrame → List ℕ
bytes_left p [] = []
bytes_left p (f ∷ fs) = frame_bytes p f ++ bytes_left p fs

abbrev pub weight_left : List WalkFrame → ℕ
weight_left [] = 0
weight_left (f ∷ fs) = frame_weight f + weight_left fs

abbrev pub AreOfPlan : PlanView → List WalkFrame → Type 0
AreOfPlan p [] = Unit {0}
AreOfPlan p (f ∷ fs) = HasInstances p f.parts × AreOfPlan p fs

abbrev pub part_type : PlanView → Part → Shape
part_type p x = type_at p x.of

abbrev pub part_misfit : PlanView → Part → List WalkFrame → Option MisfitView
part_misfit p x fs = under (path_of fs) (misfit p.schema.decls (levels_in fs) x.bit (part_type p x) (view x.value.now))

abbrev pub whole_misfit : PlanView → Option Part → List WalkFrame → Option MisfitView
whole_misfit p None fs = None
whole_misfit p (Some x) fs = or_else (part_misfit p x fs) (misfit_left p fs)

abbrev pub whole_bytes : PlanView → Option Part → List WalkFrame → List ℕ
whole_bytes p None fs = []
whole_bytes p (Some x) fs = spelling p.schema.decls (part_type p x) (view x.value.now) ++ bytes_left p fs

abbrev pub whole_weight : Option Part → List WalkFrame → ℕ
whole_weight None fs = 0
whole_weight (Some x) fs = weight (view x.value.now) + weight_left fs

abbrev pub IsOfPlan : PlanView → Option Part → Type 0
IsOfPlan p None = Unit {0}
IsOfPlan p (Some x) = x.of < length p.instances

-- ---- steps

-- the first misfit of a value's parts, with n levels left for them
abbrev pub parts_misfit : List Declaration → ℕ → Shape → ValueView → Option MisfitView
parts_misfit ds n T (list vs) = each_misfit ds n (item_of T) 0 vs
parts_misfit ds n T (node i vs) = field_misfit ds n (arguments_of T) [] 0 (fields_in (slice_get ds i)) vs
parts_misfit ds n T (call i vs) = field_misfit ds n [] [] 0 (fields_in (slice_get ds i)) vs
parts_misfit ds n T v = None

-- the frame of a value's parts
pub record IsFrameOf (p : PlanView) (T : Shape) (v : ValueView) (f : WalkFrame) : Type 0 where
  pub deep : is_deep_value v ≡ true
  pub counted : IsCounted f
  pub instances : HasInstances p f.parts
  pub at : f.at ≡ 0
  pub misfit : (n : ℕ) → frame_misfit p n f ≡ parts_misfit p.schema.decls n T v
  pub bytes : frame_bytes p f ≡ parts_bytes p.schema.decls T v
  pub weight : weight v ≡ 1 + frame_weight f

-- a value that has no parts has no frame
abbrev pub FramesParts : PlanView → Shape → ValueView → Option WalkFrame → Type 0
FramesParts p T v None = is_deep_value v ≡ false
FramesParts p T v (Some f) = IsFrameOf p T v f

-- the part is the frame's next
pub record IsNextPart (p : PlanView) (f : WalkFrame) (x : Part) : Type 0 where
  pub instance : x.of < length p.instances
  pub misfit : (n : ℕ) → frame_misfit p n f ≡ or_else (inside f.at (misfit p.schema.decls n x.bit (part_type p x) (view x.value.now))) (frame_misfit p n (after f))
  pub bytes : frame_bytes p f ≡ spelling p.schema.decls (part_type p x) (view x.value.now) ++ frame_bytes p (after f)
  pub weight : frame_weight f ≡ weight (view x.value.now) + frame_weight (after f)

-- the walk goes on from what is left in the frames
pub record GoesOn (p : PlanView) (old new : List WalkFrame) (next : Option Part) : Type 0 where
  pub frames : AreOfPlan p new
  pub part : IsOfPlan p next
  pub misfit : misfit_left p old ≡ whole_misfit p next new
  pub bytes : bytes_left p old ≡ whole_bytes p next new
  pub less : whole_weight next new < weight_left old + 1

-- it stands in a part that has no misfit, its own parts aside
pub record Enters (p : PlanView) (x : Part) (old new : List WalkFrame) : Type 0 where
  pub frames : AreOfPlan p new
  pub misfit : whole_misfit p (Some x) old ≡ misfit_left p new
  pub bytes : whole_bytes p (Some x) old ≡ start p.schema.decls (part_type p x) (view x.value.now) ++ bytes_left p new
  pub less : weight_left new < whole_weight (Some x) old

-- the walk steps over a part that has no misfit, its own parts aside
pub record StepsOver (p : PlanView) (x : Part) (old new : List WalkFrame) (next : Option Part) : Type 0 where
  pub frames : AreOfPlan p new
  pub part : IsOfPlan p next
  pub misfit : whole_misfit p (Some x) old ≡ whole_misfit p next new
  pub bytes : whole_bytes p (Some x) old ≡ start p.schema.decls (part_type p x) (view x.value.now) ++ whole_bytes p next new
  pub less : whole_weight next new < whole_weight (Some x) old

-- What is left of the walk over a value of an instance is the whole, less the bytes that were put.
pub record Walks (p : PlanView) (k : ℕ) (v : ValueView) (put : List ℕ) (next : Option Part) (fs : List WalkFrame) : Type 0 where
  pub frames : AreOfPlan p fs
  pub part : IsOfPlan p next
  pub misfit : misfit p.schema.decls MAX_LEVELS None (type_at p k) v ≡ whole_misfit p next fs
  pub bytes : spelling p.schema.decls (type_at p k) v ≡ put ++ whole_bytes p next fs

-- ---- answers

-- the bytes of a value, or its first misfit; out of memory is free
abbrev pub GivesBytes : Option MisfitView → List ℕ → Result (Vec ℕ Global) FitFault → Type 0
GivesBytes m spelled (Ok bytes) = (m ≡ None) × (bytes.items ≡ spelled)
GivesBytes m spelled (Err (fit.Misfit told)) = m ≡ Some (told.path.items, told.cause)
GivesBytes m spelled (Err fit.Memory) = Unit {0}
