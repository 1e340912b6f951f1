-- What is read of files, and which calls fail where none was told to. This project's own.
use Rattle.std.specs.Prelude.{◌≡◌, ℕ, ◌+◌, ◌<◌, List, ◌++◌, length, take, true, false, Some, None}
use Rattle.tl_base.specs.Outside.{IsThere, HasFile, written_of}
use Rattle.tl_base.specs.declared.host.Out.{Out}
use Rattle.tl_base.specs.declared.host.Slot.{Slot}
use Rattle.tl_base.specs.declared.counts.Kind.TheVariants as kinds
use Rattle.outside.specs.Events.{Event, Outside, opened, took, ended, read_failed, created, put, write_failed, listened, connected, accepted, told}
use Rattle.outside.specs.Laws.{Happened, IsFailure}
use Rattle.outside.specs.Pieces.{ReadsFile, Writes}
use Rattle.outside.specs.Fits.{Fits}

-- it was told to fail at no call
abbrev pub IsReliable : Outside → Type 0
IsReliable s = length s.script.fails ≡ 0

-- a name was opened that no file has
abbrev pub IsMissing : Outside → Event → Type 0
IsMissing s (opened slot name false) = ¬ IsThere name s.view
IsMissing s (opened slot name true) = ⊥
IsMissing s (took slot bytes) = ⊥
IsMissing s (ended slot) = ⊥
IsMissing s (read_failed slot) = ⊥
IsMissing s (created out name ok) = ⊥
IsMissing s (put out bytes) = ⊥
IsMissing s (write_failed out) = ⊥
IsMissing s (listened address ok) = ⊥
IsMissing s (connected address ok) = ⊥
IsMissing s (accepted ok) = ⊥
IsMissing s (told moment) = ⊥

-- what was read of a file is the first file's with the name, to its end or to one byte past the limit
abbrev pub FilesAreRead : Type 0
FilesAreRead = (slot : Slot) (name : List ℕ) (limit : ℕ) (t : List Event) (text : List ℕ) (s n : Outside) → ReadsFile slot name limit t (Some text) → Fits t s n
    → (file : List ℕ) × HasFile s.view.files name file × (text ≡ take (limit + 1) file)

-- where no call was told to fail, one that reads fails only because a file is missing
abbrev pub ReadsFailAlone : Type 0
ReadsFailAlone = (t : List Event) (s n : Outside) → Fits t s n → IsReliable s → Happened (IsFailure kinds.Reads) t → Happened (IsMissing s) t

-- what is written is appended
abbrev pub WritesAppend : Type 0
WritesAppend = (out : Out) (bytes : List ℕ) (t : List Event) (s n : Outside) → Writes out bytes t true → Fits t s n → written_of out n.view ≡ written_of out s.view ++ bytes

-- where no call was told to fail, what is written fails only where there is no room for it
abbrev pub WritesFailFull : Type 0
WritesFailFull = (out : Out) (bytes : List ℕ) (t : List Event) (s n : Outside) → Writes out bytes t false → Fits t s n → IsReliable s → s.view.room < length (written_of out s.view) + length bytes

-- so a file that is there is read
abbrev pub FilesCanBeRead : Type 0
FilesCanBeRead = (slot : Slot) (name : List ℕ) (limit : ℕ) (t : List Event) (s n : Outside) → ReadsFile slot name limit t None → Fits t s n → IsReliable s → IsThere name s.view → ⊥
