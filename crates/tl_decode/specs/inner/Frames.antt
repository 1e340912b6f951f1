-- How far a value is read: the lists and records that were begun, and how reading goes on from there. This project's own.
use Rattle.std.specs.declared.alloc.Global.{Global}
use Rattle.std.specs.Prelude.{◌≡◌, ◌⊎◌, Vec, Bool, true, false, ℕ, zero, suc, ◌+◌, ◌-◌, ◌*◌, ◌^◌, ◌<◌, ◌≤◌, List, [], ◌∷◌, ◌++◌, length, map, drop, Option, Some, None, Result, Ok, Err, slice_get}
use Rattle.std.specs.Int.{w32, cast_signed}
use Rattle.tl_schema.specs.Types.{Shape, Shapes}
use Rattle.tl_schema.specs.Types as type
use Rattle.tl_schema.specs.Schemas.{Slot, Declaration}
use Rattle.tl_plan.specs.Types.{arguments_of}
use Rattle.tl_plan.specs.Plans.{InstanceView, MemberView, PlanView}
use Rattle.tl_types.specs.Values.{ValueView, ValueViews, values_of}
use Rattle.tl_types.specs.Values as value
use Rattle.tl_types.specs.Seen.{view}
use Rattle.tl_plan.specs.Seen.{member_view}
use Rattle.tl_plan.specs.declared.instances.Member.{Member}
use Rattle.tl_decode.specs.inner.Steps.{FailsAs}
use Rattle.tl_decode.specs.declared.fault.DecodeFault.{DecodeFault}
use Rattle.tl_decode.specs.declared.fault.DecodeFault.TheVariants as fault
use Rattle.tl_types.specs.inner.Reading.{Spot, spot, Read, Reader, ◌>>=◌, word_at, plain_at, value_at, wide_at, elements_at, each_at, fields_at, numbered_at, first_from, is_member, is_function, fields_in}
use Rattle.tl_types.specs.declared.cause.Cause.{Cause}
use Rattle.tl_types.specs.declared.cause.Cause.TheVariants.{Truncated}
use Rattle.tl_types.specs.declared.value.Value.{Value}
use Rattle.tl_types.specs.declared.value.TheConstants.{MAX_LEVELS}
use Rattle.tl_decode.specs.declared.stack.StackFrame.{StackFrame}
use Rattle.tl_decode.specs.declared.stack.StackFrame.TheVariants as frame
use Rattle.tl_decode.specs.declared.stack.Coming.{Coming}
use Rattle.tl_decode.specs.declared.stack.Coming.TheVariants as coming
use Rattle.tl_decode.specs.declared.stack.WantedItem.{WantedItem}
use Rattle.tl_decode.specs.declared.stack.WantedItem.TheVariants as wanted
use Rattle.tl_decode.specs.declared.stack.Item.{Item}
use Rattle.tl_decode.specs.declared.stack.Item.TheVariants as item
use Rattle.tl_decode.specs.declared.stack.Next.{Next}
use Rattle.tl_decode.specs.declared.stack.Next.TheVariants as next
use Rattle.tl_decode.specs.declared.stack.Onward.{Onward}
use Rattle.tl_decode.specs.declared.stack.Onward.TheVariants as onward
use Rattle.tl_decode.specs.declared.stack.Found.{Found}
use Rattle.tl_decode.specs.declared.stack.Found.TheVariants as found
use Rattle.tl_decode.specs.declared.stack.Advance.{Advance}
use Rattle.tl_decode.specs.declared.stack.Advance.TheVariants as step
use Rattle.tl_base.specs.declared.fault.Fault.{Fault}
use Rattle.tl_base.specs.declared.fault.Fault.TheVariants as stop

-- ---- a plan

abbrev shape_in : Option InstanceView → Shape
shape_in None = type.call
shape_in (Some x) = x.of

-- the type of instance j
unfoldable pub type_in : PlanView → ℕ → Shape
type_in p j = shape_in (slice_get p.instances j)

abbrev members_of : Option InstanceView → List MemberView
members_of None = []
members_of (Some x) = x.members

-- the members of instance j
unfoldable pub members_in : PlanView → ℕ → List MemberView
members_in p j = members_of (slice_get p.instances j)

abbrev entry_of : Option MemberView → ℕ
entry_of None = 0
entry_of (Some m) = m.entry

-- the declaration of member m of instance j
unfoldable pub entry_in : PlanView → ℕ → ℕ → ℕ
entry_in p j m = entry_of (slice_get (members_in p j) m)

-- ---- frames

-- a list that was begun, of which so many elements are still to come, or a record or call of declaration i; and the values that are there
pub data StackFrameView : Type 0 where
  in_list : (T : Shape) (left : ℕ) (before : List ValueView) → StackFrameView
  in_record : (T : Shape) (i : ℕ) (slots : List Slot) (before : List ValueView) → StackFrameView

abbrev pub frame_view : PlanView → StackFrame → StackFrameView
frame_view p (frame.List j left items) = in_list (type_in p j) left (map view items.items)
frame_view p (frame.Record j m fields) = in_record (type_in p j) (entry_in p j m) (fields_in p.schema.decls (entry_in p j m)) (map view fields.items)

abbrev pub views : PlanView → List StackFrame → List StackFrameView
views p fs = map (frame_view p) fs

-- a call of a function, or a record of a constructor
abbrev pub made : Shape → ℕ → ValueViews → ValueView
made type.call i vs = value.call i vs
made T i vs = value.node i vs

-- the parts of the frame that are still to come are read, with n levels left for each
unfoldable pub goes_on : List Declaration → ℕ → StackFrameView → Reader
goes_on ds n (in_list T left before) s = each_at (value_at ds n T) left before s >>= λ x. Ok (value.list (values_of x.0), x.1)
goes_on ds n (in_record T i slots before) s = fields_at (value_at ds n) (arguments_of T) before (drop (length before) slots) s >>= λ x. Ok (made T i (values_of x.0), x.1)

abbrev pub with_value : StackFrameView → ValueView → StackFrameView
with_value (in_list T left before) v = in_list T left (before ++ v ∷ [])
with_value (in_record T i slots before) v = in_record T i slots (before ++ v ∷ [])

-- With n levels left for the first frame's value: what the frames make of what is read inside the last.
unfoldable pub resume : List Declaration → ℕ → List StackFrameView → Read ValueView → Read ValueView
resume ds n [] r = r
resume ds n (f ∷ fs) r = resume ds (n - 1) fs r >>= λ x. goes_on ds (n - 1) (with_value f x.0) x.1

-- ---- items

-- four bytes as a number, or a value
pub data ItemView : Type 0 where
  word : ℕ → ItemView
  plain : ValueView → ItemView

abbrev pub item_view : Item → ItemView
item_view (item.Word w) = word w
item_view (item.Plain v) = plain (view v)

-- the item that is looked for
unfoldable pub item_at : WantedItem → Spot → Read ItemView
item_at wanted.Long s = plain_at type.long s >>= λ x. Ok (plain x.0, x.1)
item_at (wanted.Opaque k) s = plain_at (type.opaque k) s >>= λ x. Ok (plain x.0, x.1)
item_at wanted.Text s = plain_at type.str s >>= λ x. Ok (plain x.0, x.1)
item_at W s = word_at s >>= λ x. Ok (word x.0, x.1)

-- the value of an item, where that of four bytes is their number
abbrev pub item_value : ItemView → ValueView
item_value (word w) = value.nat w
item_value (plain v) = v

abbrev pub item_value_at : WantedItem → Reader
item_value_at W s = item_at W s >>= λ x. Ok (item_value x.0, x.1)

-- the declaration that the number w names, of those that a value of this type may have
abbrev pub find_in : List Declaration → Shape → ℕ → Option ℕ
find_in ds (type.boxed h args) w = first_from (is_member h w) 0 ds
find_in ds type.call w = first_from (is_function w) 0 ds
find_in ds T w = None

-- after the number w, which stands at the place
unfoldable pub number_at : PlanView → ℕ → Shape → ℕ → ℕ → Reader
number_at p n T place w = numbered_at (fields_at (value_at p.schema.decls n) (arguments_of T) []) (made T) p.schema.decls place w (find_in p.schema.decls T w)

-- the item is an `int` or a `#`
abbrev pub IsNumber : WantedItem → Type 0
IsNumber W = (W ≡ wanted.Int) ⊎ (W ≡ wanted.Nat)

-- after the word w, where it isn't a value by itself
abbrev pub after_word : PlanView → ℕ → WantedItem → ℕ → ℕ → Reader
after_word p n wanted.Int place w s = Ok (value.int (cast_signed w32 w), s)
after_word p n (wanted.Number j) place w s = number_at p n (type_in p j) place w s
after_word p n (wanted.ListNumber j) place w s = wide_at (value_at p.schema.decls n (type_in p j)) place w s
after_word p n (wanted.Count j) place w s = elements_at (value_at p.schema.decls n (type_in p j)) place w s
after_word p n W place w s = Ok (value.nat w, s)

-- the value that the item begins, whose parts have n levels
unfoldable pub after : PlanView → ℕ → WantedItem → ℕ → ItemView → Reader
after p n W place (plain v) s = Ok (v, s)
after p n W place (word w) s = after_word p n W place w s

unfoldable pub wanted_at : PlanView → ℕ → WantedItem → Reader
wanted_at p n W s = item_at W s >>= λ x. after p n W s.place x.0 x.1

-- ---- how reading goes on

-- the levels that are left for a value inside these frames, and for its parts
abbrev pub levels_in : List StackFrameView → ℕ
levels_in fs = MAX_LEVELS - length fs

abbrev pub levels_below : List StackFrameView → ℕ
levels_below fs = MAX_LEVELS - (length fs + 1)

abbrev pub resumes : PlanView → List StackFrameView → Read ValueView → Read ValueView
resumes p fs r = resume p.schema.decls MAX_LEVELS fs r

abbrev pub next_at : PlanView → List StackFrameView → Next → Reader
next_at p fs (next.Open j) s = resumes p fs (value_at p.schema.decls (levels_in fs) (type_in p j) s)
next_at p fs (next.Part top) s = resumes p fs (goes_on p.schema.decls (levels_below fs) (frame_view p top) s)
next_at p fs (next.Close v) s = resumes p fs (Ok (view v, s))
next_at p fs (next.Begin j) s = resumes p fs (wanted_at p (levels_below fs) (wanted.Count j) s)

abbrev pub found_at : PlanView → List StackFrameView → Found → Reader
found_at p fs (found.Wants W) s = resumes p fs (wanted_at p (levels_below fs) W s)
found_at p fs (found.Done v) s = Ok (view v, s)

-- ---- numbers that are in range

abbrev pub IsInPlan : PlanView → ℕ → Type 0
IsInPlan p j = j < length p.instances

abbrev pub IsWellFrame : PlanView → StackFrame → Type 0
IsWellFrame p (frame.List j left items) = IsInPlan p j
IsWellFrame p (frame.Record j m fields) = IsInPlan p j × (m < length (members_in p j))

abbrev pub AreWell : PlanView → List StackFrame → Type 0
AreWell p [] = Unit {0}
AreWell p (f ∷ fs) = IsWellFrame p f × AreWell p fs

abbrev pub IsWellWanted : PlanView → WantedItem → Type 0
IsWellWanted p (wanted.Opaque k) = 4 ≤ k
IsWellWanted p (wanted.Number j) = IsInPlan p j
IsWellWanted p (wanted.ListNumber j) = IsInPlan p j
IsWellWanted p (wanted.Count j) = IsInPlan p j
IsWellWanted p W = Unit {0}

abbrev pub IsWellNext : PlanView → Next → Type 0
IsWellNext p (next.Open j) = IsInPlan p j
IsWellNext p (next.Part top) = IsWellFrame p top
IsWellNext p (next.Close v) = Unit {0}
IsWellNext p (next.Begin j) = IsInPlan p j

abbrev pub IsWellFound : PlanView → Found → Type 0
IsWellFound p (found.Wants W) = IsWellWanted p W
IsWellFound p (found.Done v) = Unit {0}

-- ---- how many steps are left, at most

-- for a value with n levels
unfoldable pub cost : ℕ → ℕ
cost zero = 3
cost (suc n) = 2 ^ 64 * (cost n + 1) + 6

-- the parts that are still to come, and those after the one that is read
abbrev pub parts_left : StackFrameView → ℕ
parts_left (in_list T left before) = left
parts_left (in_record T i slots before) = length slots - length before

abbrev pub parts_after : StackFrameView → ℕ
parts_after (in_list T left before) = left
parts_after (in_record T i slots before) = length slots - (length before + 1)

unfoldable pub frames_work : ℕ → List StackFrameView → ℕ
frames_work n [] = 0
frames_work n (f ∷ fs) = (parts_after f * (cost (n - 1) + 1) + 2) + frames_work (n - 1) fs

abbrev pub wanted_work : ℕ → WantedItem → ℕ
wanted_work n (wanted.Number j) = 2 ^ 64 * (cost n + 1) + 3
wanted_work n (wanted.ListNumber j) = 2 ^ 64 * (cost n + 1) + 5
wanted_work n (wanted.Count j) = 2 ^ 64 * (cost n + 1) + 3
wanted_work n W = 2

abbrev pub next_work : PlanView → List StackFrameView → Next → ℕ
next_work p fs (next.Open j) = frames_work MAX_LEVELS fs + cost (levels_in fs)
next_work p fs (next.Part top) = frames_work MAX_LEVELS fs + (parts_left (frame_view p top) * (cost (levels_below fs) + 1) + 2)
next_work p fs (next.Close v) = frames_work MAX_LEVELS fs + 1
next_work p fs (next.Begin j) = frames_work MAX_LEVELS fs + (2 ^ 64 * (cost (levels_below fs) + 1) + 4)

abbrev pub found_work : PlanView → List StackFrameView → Found → ℕ
found_work p fs (found.Wants W) = frames_work MAX_LEVELS fs + wanted_work (levels_below fs) W
found_work p fs (found.Done v) = 0

-- ---- steps

-- the input ends inside the item
abbrev pub is_truncated : Cause → Bool
is_truncated Truncated = true
is_truncated cause = false

-- from the one to the other, in frames that are in range, reading is the same
pub record Goes (p : PlanView) (fs : List StackFrame) (old new : Reader) (well : Type 0) : Type 0 where
  pub frames : AreWell p fs
  pub is_well : well
  pub same : (s : Spot) → old s ≡ new s

abbrev pub Steps : PlanView → Reader → ℕ → List StackFrame → Result Advance (Fault Cause) → Type 0
Steps p old work fs (Ok (step.Goes n)) = Goes p fs old (next_at p (views p fs) n) (IsWellNext p n) × (next_work p (views p fs) n < work)
Steps p old work fs (Ok (step.Stops f)) = Goes p fs old (found_at p (views p fs) f) (IsWellFound p f) × (found_work p (views p fs) f ≤ work)
Steps p old work fs (Err (stop.Refused cause)) = (is_truncated cause ≡ false) × ((s : Spot) → old s ≡ Err (s.place, cause))
Steps p old work fs (Err stop.Memory) = Unit {0}

-- reading goes on until an item is looked for, or the value is there
abbrev pub Settles : PlanView → Reader → ℕ → List StackFrame → Result Found (Fault Cause) → Type 0
Settles p old work fs (Ok f) = Goes p fs old (found_at p (views p fs) f) (IsWellFound p f) × (found_work p (views p fs) f ≤ work)
Settles p old work fs (Err (stop.Refused cause)) = (is_truncated cause ≡ false) × ((s : Spot) → old s ≡ Err (s.place, cause))
Settles p old work fs (Err stop.Memory) = Unit {0}

-- what comes after an item that was looked for, inside any frames
abbrev pub Takes : PlanView → WantedItem → ItemView → Result Next (Fault Cause) → Type 0
Takes p W x (Ok n) =
    IsWellNext p n × ((fs : List StackFrameView) (place : ℕ) (s : Spot) → resumes p fs (after p (levels_below fs) W place x s) ≡ next_at p fs n s)
    × ((fs : List StackFrameView) → next_work p fs n < frames_work MAX_LEVELS fs + wanted_work (levels_below fs) W)
Takes p W x (Err (stop.Refused cause)) = (is_truncated cause ≡ false) × ((n place : ℕ) (s : Spot) → after p n W place x s ≡ Err (place, cause))
Takes p W x (Err stop.Memory) = Unit {0}

-- a step from what is to be done next inside these frames
abbrev pub StepsFrom : PlanView → List StackFrame → Next → List StackFrame → Result Advance (Fault Cause) → Type 0
StepsFrom p fs n new result = Steps p (next_at p (views p fs) n) (next_work p (views p fs) n) new result

abbrev pub SettlesFrom : PlanView → List StackFrame → Next → List StackFrame → Result Found (Fault Cause) → Type 0
SettlesFrom p fs n new result = Settles p (next_at p (views p fs) n) (next_work p (views p fs) n) new result

-- ---- steps inside any frames

-- the next part of f is opened, of instance j, and leaves g
abbrev pub Opens : PlanView → StackFrame → StackFrame → ℕ → Type 0
Opens p f g j = (fs : List StackFrame) → AreWell p fs → StepsFrom p fs (next.Part f) (fs ++ g ∷ []) (Ok (step.Goes (next.Open j)))

-- a value of instance j is this item, which is looked for then
abbrev pub IsItem : PlanView → ℕ → WantedItem → Type 0
IsItem p j W = (fs : List StackFrame) → AreWell p fs → StepsFrom p fs (next.Open j) fs (Ok (step.Stops (found.Wants W)))

-- of the record with these fields, what comes next
abbrev pub Comes : PlanView → ℕ → ℕ → Vec Value Global → Coming → Type 0
Comes p j m fields (coming.End i) =
    (fs : List StackFrame) → AreWell p fs → (v : Value) → view v ≡ made (type_in p j) i (values_of (map view fields.items)) → StepsFrom p fs (next.Part (frame.Record j m fields)) fs (Ok (step.Goes (next.Close v)))
Comes p j m fields coming.Absent =
    (fs : List StackFrame) → AreWell p fs → (v : Value) → view v ≡ value.absent → (all : Vec Value Global) → all.items ≡ fields.items ++ v ∷ []
    → StepsFrom p fs (next.Part (frame.Record j m fields)) fs (Ok (step.Goes (next.Part (frame.Record j m all))))
Comes p j m fields (coming.Field h) = Opens p (frame.Record j m fields) (frame.Record j m fields) h

-- g is f with one value more
abbrev pub IsWith : PlanView → StackFrame → Value → StackFrame → Type 0
IsWith p f v g = (frame_view p g ≡ with_value (frame_view p f) (view v)) × IsWellFrame p g

-- f becomes g by one value more, and then, where its next part is opened, by that
abbrev pub Adds : PlanView → StackFrame → Value → StackFrame → Option ℕ → Type 0
Adds p f v g None = IsWith p f v g
Adds p f v g (Some j) = (h : StackFrame) × IsWith p f v h × Opens p h g j

-- a value became a part of the innermost frame, and this comes then
abbrev pub GoesOn : PlanView → List StackFrame → Value → List StackFrame → Onward → Type 0
GoesOn p old v new (onward.Item W) = StepsFrom p old (next.Close v) new (Ok (step.Stops (found.Wants W)))
GoesOn p old v new (onward.Value j) = StepsFrom p old (next.Close v) new (Ok (step.Goes (next.Open j)))
GoesOn p old v new onward.Rest = (fs : List StackFrame) (f : StackFrame) → new ≡ fs ++ f ∷ [] → StepsFrom p old (next.Close v) fs (Ok (step.Goes (next.Part f)))

-- the same, where the innermost frame f becomes g
abbrev pub ClosesPart : PlanView → StackFrame → Value → StackFrame → Onward → Type 0
ClosesPart p f v g o = (fs : List StackFrame) → AreWell p (fs ++ f ∷ []) → GoesOn p (fs ++ f ∷ []) v (fs ++ g ∷ []) o

-- ---- types whose values have parts

-- a value begins with the number of a constructor or a function
abbrev pub IsNumbered : Shape → Type 0
IsNumbered T = ((h : ℕ) × (args : Shapes) × (T ≡ type.boxed h args)) ⊎ (T ≡ type.call)

abbrev pub IsList : Shape → Bool → Type 0
IsList T is_boxed = (U : Shape) × (T ≡ type.vector is_boxed U)

abbrev pub IsBare : Shape → ℕ → Type 0
IsBare T i = (args : Shapes) × (T ≡ type.bare i args)

-- a record of which no field is there yet
abbrev pub IsFresh : PlanView → ℕ → ℕ → StackFrame → Type 0
IsFresh p j m f = (fields : Vec Value Global) × (f ≡ frame.Record j m fields) × (fields.items ≡ []) × (length (fields_in p.schema.decls (entry_in p j m)) < 2 ^ 64)

abbrev pub entries_shown : List Member → List ℕ
entries_shown ms = map (λ (m : MemberView). m.entry) (map member_view ms)

-- ---- over a source

-- The whole reading goes on as what was found, from where the source was left.
abbrev pub ReadsOn : Reader → Option (List ℕ) → Option (List ℕ) → ℕ → ℕ → Result Found DecodeFault → (Found → Reader) → Type 0
ReadsOn whole None b p q r on = Unit {0}
ReadsOn whole (Some bytes) b p q (Ok f) on = (rest : List ℕ) × (b ≡ Some rest) × (whole (spot p bytes) ≡ on f (spot q rest))
ReadsOn whole (Some bytes) b p q (Err e) on = FailsAs e (whole (spot p bytes))

-- what was found, in frames that are in range
abbrev pub IsFound : PlanView → List StackFrame → Result Found DecodeFault → Type 0
IsFound p fs (Ok f) = AreWell p fs × IsWellFound p f
IsFound p fs (Err e) = Unit {0}

-- reading goes on from a place, until an item is looked for or the value is there
abbrev pub SettlesAt : PlanView → Reader → ℕ → ℕ → List StackFrame → Result Found DecodeFault → Type 0
SettlesAt p old work place fs (Ok f) = Goes p fs old (found_at p (views p fs) f) (IsWellFound p f) × (found_work p (views p fs) f ≤ work)
SettlesAt p old work place fs (Err (fault.Refused q cause)) = (is_truncated cause ≡ false) × ((b : List ℕ) → old (spot place b) ≡ Err (q, cause))
SettlesAt p old work place fs (Err fault.ReadFault) = ⊥
SettlesAt p old work place fs (Err fault.Memory) = Unit {0}

-- a stop at a place is this fault
abbrev pub IsStop : Fault Cause → ℕ → DecodeFault → Type 0
IsStop (stop.Refused cause) place e = e ≡ fault.Refused place cause
IsStop stop.Memory place e = e ≡ fault.Memory

-- what is read after an item at a place
abbrev pub goes_after : PlanView → List StackFrameView → WantedItem → ℕ → ItemView → Reader
goes_after p fs W place x s = resumes p fs (after p (levels_below fs) W place x s)

-- the fault, unless no byte is left
abbrev pub RefusesAt : DecodeFault → List ℕ → Option (List ℕ) → Result (Option Value) DecodeFault → Type 0
RefusesAt e bytes b (Ok None) = (bytes ≡ []) × (b ≡ Some [])
RefusesAt e bytes b (Ok (Some v)) = ⊥
RefusesAt e bytes b (Err fault.ReadFault) = Unit {0}
RefusesAt e bytes b (Err other) = (0 < length bytes) × (other ≡ e)
