-- The lists, records and calls that a walk over a value stands in. This project's own.
use Rattle.std.specs.Prelude.{◌≡◌, ℕ, ◌+◌, ◌-◌, ◌≤◌, ◌<◌, ◌^◌, List, [], ◌∷◌, length, map, take, reverse, Option, Some, None, nat_lt, if◌then◌else◌}
use Rattle.tl_types.specs.declared.value.Value.{Value}
use Rattle.tl_types.specs.declared.value.TheConstants.{MAX_LEVELS}
use Rattle.tl_encode.specs.declared.frames.WalkFrame.{WalkFrame}
use Rattle.tl_encode.specs.declared.frames.PartInstances.{PartInstances}
use Rattle.tl_encode.specs.declared.frames.PartInstances.TheVariants.{Elements, Fields}
use Rattle.tl_encode.specs.declared.frames.Stack.{Stack}

-- the frames, the innermost first
abbrev pub frames_of : Stack → List WalkFrame
frames_of s = reverse (take s.height s.frames)

-- there is a frame for each level that a value may have
abbrev pub HasLevels : Stack → Type 0
HasLevels s = (s.height ≤ MAX_LEVELS) × (length s.frames ≡ MAX_LEVELS)

-- each field has its instance and its declaration
abbrev pub AreCounted : PartInstances → List Value → Type 0
AreCounted (Elements of) vs = Unit {0}
AreCounted (Fields of slots) vs = (length of.now ≡ length vs) × (length slots.now ≡ length vs)

abbrev pub IsCounted : WalkFrame → Type 0
IsCounted f = (length f.values.now < 2 ^ 32) × AreCounted f.parts f.values.now

abbrev pub EachIsCounted : List WalkFrame → Type 0
EachIsCounted [] = Unit {0}
EachIsCounted (f ∷ fs) = IsCounted f × EachIsCounted fs

-- the next part is walked
abbrev pub after : WalkFrame → WalkFrame
after f = record f { at = f.at + 1 }

-- the part at an index is the next
abbrev pub standing_at : WalkFrame → ℕ → WalkFrame
standing_at f i = record f { at = i }

-- those from the first that has a part left
abbrev pub rested : List WalkFrame → List WalkFrame
rested [] = []
rested (f ∷ fs) = if nat_lt f.at (length f.values.now) then f ∷ fs else rested fs

abbrev pub first_of : List WalkFrame → Option WalkFrame
first_of [] = None
first_of (f ∷ fs) = Some f

abbrev pub stepped : List WalkFrame → List WalkFrame
stepped [] = []
stepped (f ∷ fs) = after f ∷ fs

-- the indices of the parts that were walked last, the outermost first
abbrev pub path_of : List WalkFrame → List ℕ
path_of fs = map (λ f. f.at - 1) (reverse fs)
