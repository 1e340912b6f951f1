-- What is taken from a source. This project's own.
use Rattle.std.specs.Prelude.{◌≡◌, ℕ, ◌+◌, ◌<◌, ◌≤◌, List, [], ◌∷◌, ◌++◌, length, Bool, true, false, Option, Some, Result, Ok, Err, Vec}
use Rattle.std.specs.declared.alloc.Global.{Global}
use Rattle.std.specs.Io.KnownBytes.{Consumes}
use Rattle.tl_base.specs.declared.source.TakeFault.{TakeFault}
use Rattle.tl_base.specs.declared.source.TakeFault.TheVariants as take
use Rattle.tl_base.specs.declared.source.TextFault.{TextFault}
use Rattle.tl_base.specs.declared.source.TextFault.TheVariants as text

-- So many bytes, where there are as many; all of them, where there are fewer.
abbrev pub TakesBytes : ℕ → List ℕ → Option (List ℕ) → Result (List ℕ) TakeFault → Type 0
TakesBytes n bytes after (Ok taken) = (length taken ≡ n) × Consumes (Some bytes) after taken
TakesBytes n bytes after (Err (take.Ended had)) = (length bytes ≡ had) × (had < n) × (after ≡ Some [])
TakesBytes n bytes after (Err take.ReadFault) = (prefix : List ℕ) × Consumes (Some bytes) after prefix × (length prefix < n)

-- A buffer is filled with what comes next, or the input is shorter than the buffer.
abbrev pub TakesInto : List ℕ → List ℕ → Option (List ℕ) → Result (Unit {0}) TakeFault → Type 0
TakesInto into bytes after (Ok u) = Consumes (Some bytes) after into
TakesInto into bytes after (Err (take.Ended had)) = (length bytes ≡ had) × (had < length into) × (after ≡ Some [])
TakesInto into bytes after (Err take.ReadFault) = (prefix : List ℕ) × Consumes (Some bytes) after prefix × (length prefix < length into)

-- What was had, where the input ended, is less than what was wanted, whether the source tells its bytes or not.
abbrev pub EndsBelow : {T : Type 0} → ℕ → Result T TakeFault → Type 0
EndsBelow n (Ok taken) = Unit {0}
EndsBelow n (Err (take.Ended had)) = had < n
EndsBelow n (Err take.ReadFault) = Unit {0}

-- A piece is taken and stands at the end of the text. Where there is no memory for it, it is taken all the same, and is no longer than `most`.
abbrev pub TakesPiece : ℕ → List ℕ → List ℕ → List ℕ → Option (List ℕ) → Result ℕ TextFault → Type 0
TakesPiece most old new bytes after (Ok n) = (piece : List ℕ) × (new ≡ old ++ piece) × Consumes (Some bytes) after piece
TakesPiece most old new bytes after (Err text.ReadFault) = (new ≡ old) × (after ≡ Some bytes)
TakesPiece most old new bytes after (Err text.Memory) = (piece : List ℕ) × Consumes (Some bytes) after piece × (length piece ≤ most)

-- The text is the next `most` bytes, or all of them where there are no more. At a fault fewer were taken, when out of memory no more.
abbrev pub TakesUpTo : ℕ → List ℕ → List ℕ → Option (List ℕ) → Result (Unit {0}) TextFault → Type 0
TakesUpTo most taken bytes after (Ok u) = Consumes (Some bytes) after taken × (length taken < most → after ≡ Some [])
TakesUpTo most taken bytes after (Err text.ReadFault) = Consumes (Some bytes) after taken × (length taken < most)
TakesUpTo most taken bytes after (Err text.Memory) = (prefix : List ℕ) × Consumes (Some bytes) after prefix × (length prefix ≤ most)

-- All the bytes, where they are no more than the limit; one more than the limit, where there are more. At a fault fewer were taken than that,
-- when out of memory no more.
abbrev pub TakesText : ℕ → List ℕ → Option (List ℕ) → Result (Vec ℕ Global) TextFault → Type 0
TakesText limit bytes after (Ok taken) = (rest : List ℕ) × (after ≡ Some rest) × (bytes ≡ taken.items ++ rest) × (length taken.items ≤ limit + 1) × (length taken.items ≤ limit → rest ≡ [])
TakesText limit bytes after (Err text.ReadFault) = (prefix : List ℕ) × Consumes (Some bytes) after prefix × (length prefix ≤ limit)
TakesText limit bytes after (Err text.Memory) = (prefix : List ℕ) × Consumes (Some bytes) after prefix × (length prefix ≤ limit + 1)

-- Whether no byte is left; a byte that is left is taken.
abbrev pub TakesEnd : {E : Type 0} → List ℕ → Option (List ℕ) → Result Bool E → Type 0
TakesEnd bytes after (Ok true) = (bytes ≡ []) × (after ≡ Some [])
TakesEnd bytes after (Ok false) = (byte : ℕ) × (rest : List ℕ) × (bytes ≡ byte ∷ rest) × (after ≡ Some rest)
TakesEnd bytes after (Err e) = after ≡ Some bytes
