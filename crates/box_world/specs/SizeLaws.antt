-- Laws of spellings, each of a kind of messages with their values: what they are, how long, what they mean, and which messages have one.
-- This project's own.
use Rattle.std.specs.Prelude.{◌≡◌, ℕ, ◌≤◌, ◌%◌, List, length, None}
use Rattle.tl_types.specs.Values.{ValueView}
use Rattle.box_events.specs.declared.replies.Frame.{Frame}
use Rattle.box_events.specs.declared.requests.Numbered.{Numbered}
use Rattle.wire_forms.specs.IsOf.{IsOf}
use Rattle.wire_profile.specs.Indexes.{ProfileView}
use Rattle.wire_profile.specs.Profiles.{IsProfile}
use Rattle.box_wire.specs.Kinds.{Kind}
use Rattle.box_wire.specs.Framing.{Framed, Means}
use Rattle.box_world.specs.Sizes.{call_size, frame_size, size_in}

-- a message that is spelled has a value of its kind
abbrev pub SpelledAreOfTheKind : {M : Type 0} → Kind → (M → ValueView) → Type 0
SpelledAreOfTheKind {M} kind tree = (p : ProfileView) → IsProfile p → (m : M) (b : List ℕ) → Framed p kind (tree m) b → IsOf kind.cell (tree m)

-- its spelling has the size of the message
abbrev pub SpelledHaveTheirSize : {M : Type 0} → Kind → (M → ValueView) → Type 0
SpelledHaveTheirSize {M} kind tree = (p : ProfileView) → IsProfile p → (m : M) (b : List ℕ) → Framed p kind (tree m) b → length b ≡ size_in kind.cell (tree m)

-- which is a multiple of 4, as a packet's length is
abbrev pub SpelledAreWhole : {M : Type 0} → Kind → (M → ValueView) → Type 0
SpelledAreWhole {M} kind tree = (p : ProfileView) → IsProfile p → (m : M) (b : List ℕ) → Framed p kind (tree m) b → length b % 4 ≡ 0

-- the spelling of a message that is its value's again, and has no cause, means it
abbrev pub SpelledAreMeant : {M : Type 0} → Kind → (M → ValueView) → (M → Type 0) → Type 0
SpelledAreMeant {M} kind tree Is = (p : ProfileView) → IsProfile p → (m : M) (b : List ℕ) → Is m → kind.cause (tree m) ≡ None → Framed p kind (tree m) b → Means p kind (tree m) b

-- a message that is meant has parts with a spelling, so it has one itself
abbrev pub MeantFit : {M : Type 0} → Kind → (M → ValueView) → (M → Type 0) → (M → Type 0) → Type 0
MeantFit {M} kind tree Is Fits = (p : ProfileView) → IsProfile p → (m : M) (b : List ℕ) → Is m → Means p kind (tree m) b → Fits m

-- a frame and a call have 8 bytes at least
abbrev pub FramesAreLong : Type 0
FramesAreLong = (f : Frame) → 8 ≤ frame_size f

abbrev pub CallsAreLong : Type 0
CallsAreLong = (n : Numbered) → 8 ≤ call_size n
