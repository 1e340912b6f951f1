-- What is taken from a slot and put to an out, whatever the pieces are. This project's own.
use Rattle.std.specs.Prelude.{◌≡◌, ℕ, ◌+◌, ◌<◌, List, [], ◌∷◌, ◌++◌, length, map, Bool, true, false, Option, Some, None, Result, Ok, Err}
use Rattle.std.specs.declared.vec.Vec.{Vec}
use Rattle.tl_numbers.specs.Bytes.{AreBytes}
use Rattle.outside.specs.Events.{Event, opened, took, ended, read_failed, put, write_failed}
use Rattle.outside.specs.Steps.{Step, Then, Calls, Ends}
use Rattle.tl_base.specs.declared.host.Slot.{Slot}
use Rattle.tl_base.specs.declared.host.Out.{Out}
use Rattle.tl_base.specs.declared.host.Out.TheVariants.{Errors}
use Rattle.outside.specs.declared.pieces.Taken.{Taken}
use Rattle.outside.specs.declared.pieces.Taken.TheVariants as taken

abbrev pub joined : List (List ℕ) → List ℕ
joined [] = []
joined (piece ∷ pieces) = piece ++ joined pieces

-- events of pieces that join to the bytes, and then these
pub record InPieces (event : List ℕ → Event) (bytes : List ℕ) (last t : List Event) : Type 0 where
  pub pieces : List (List ℕ)
  pub events : t ≡ map event pieces ++ last
  pub join : joined pieces ≡ bytes

-- so many bytes; all that were left, which are fewer; or a read failed
pub data TakenView : Type 0 where
  full : List ℕ → TakenView
  short : List ℕ → TakenView
  broken : TakenView

-- so many bytes are taken, and nothing is read past them
abbrev pub Takes : Slot → ℕ → Step TakenView
Takes slot count t (full bytes) = InPieces (took slot) bytes [] t × (length bytes ≡ count) × AreBytes bytes
Takes slot count t (short bytes) = InPieces (took slot) bytes (ended slot ∷ []) t × (length bytes < count) × AreBytes bytes
Takes slot count t broken = (bytes : List ℕ) × InPieces (took slot) bytes (read_failed slot ∷ []) t × (length bytes < count)

-- the bytes are put; or a prefix of them, and a write failed
abbrev pub Writes : Out → List ℕ → Step Bool
Writes out bytes t true = InPieces (put out) bytes [] t
Writes out bytes t false = (before : List ℕ) × (after : List ℕ) × InPieces (put out) before (write_failed out ∷ []) t × (before ++ after ≡ bytes) × (0 < length after)

-- a line is put to Errors, as far as that can be written
abbrev pub Tells : {A : Type 0} → List ℕ → A → Step A
Tells line status = Then (Writes Errors line) (λ _. Ends status)

-- ---- files

-- what was taken, where no read failed
abbrev pub text_of : TakenView → Option (List ℕ)
text_of (full bytes) = Some bytes
text_of (short bytes) = Some bytes
text_of broken = None

-- what is left of a slot is taken, to its end or to one byte past the limit
abbrev pub ReadsSlot : Slot → ℕ → Step (Option (List ℕ))
ReadsSlot slot limit = Then (Takes slot (limit + 1)) (λ taken. Ends (text_of taken))

abbrev pub after_open : Slot → ℕ → Bool → Step (Option (List ℕ))
after_open slot limit true = ReadsSlot slot limit
after_open slot limit false = Ends None

-- A file is opened, and read to its end, or to one byte past the limit. None: it isn't there, or a read failed.
abbrev pub ReadsFile : Slot → List ℕ → ℕ → Step (Option (List ℕ))
ReadsFile slot name limit = Then (Calls (opened slot name)) (after_open slot limit)

-- ---- what calls answer; none where they ran out of memory

abbrev pub taken_view : Taken → TakenView
taken_view (taken.Full bytes) = full bytes.items
taken_view (taken.Short bytes) = short bytes.items
taken_view taken.Broken = broken

abbrev pub taken_by : {E : Type 0} → Result Taken E → Option TakenView
taken_by (Ok taken) = Some (taken_view taken)
taken_by (Err e) = None

abbrev pub text_view : {Z : Type 0} → Option (Vec ℕ Z) → Option (List ℕ)
text_view (Some text) = Some text.items
text_view None = None

abbrev pub text_by : {E Z : Type 0} → Result (Option (Vec ℕ Z)) E → Option (Option (List ℕ))
text_by (Ok text) = Some (text_view text)
text_by (Err e) = None
