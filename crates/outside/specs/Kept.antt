-- What a call leaves of the outside as it was. This project's own.
use Rattle.std.specs.Prelude.{◌≡◌, ◌⊎◌, ℕ, List, ◌++◌, drop, Option, Some, None}
use Rattle.tl_base.specs.Outside.{View}
use Rattle.outside.specs.Answer.{Answer}

-- nothing changed but what is left of Schema and Input, and what was written to Output and Errors
abbrev pub KeepsRest : View → View → Type 0
KeepsRest v w = w ≡ record v { left = record v.left { schema = w.left.schema; input = w.left.input }; written = record v.written { output = w.written.output; errors = w.written.errors } }

-- nothing changed but what was written to Errors
abbrev pub OnlyErrors : View → View → Type 0
OnlyErrors v w = w ≡ record v { written = record v.written { errors = w.written.errors } }

-- what is left of Input is as before, unless the work came to it
abbrev pub LeavesInput : Type 0 → View → View → Type 0
LeavesInput came v w = (w.left.input ≡ v.left.input) ⊎ came

-- likewise, and nothing else changed but what is left of Schema, and what was written to Output and Errors
pub record KeepsUnread (came : Type 0) (v w : View) : Type 0 where
  pub rest : KeepsRest v w
  pub input : LeavesInput came v w

-- Output and Errors are as before
pub record WritesNothing (v w : View) : Type 0 where
  pub output : w.written.output ≡ v.written.output
  pub errors : w.written.errors ≡ v.written.errors

-- Output and Errors are as before, and so is all else but what is left of Schema and Input
pub record OnlyReads (v w : View) : Type 0 where
  pub output : w.written.output ≡ v.written.output
  pub errors : w.written.errors ≡ v.written.errors
  pub rest : KeepsRest v w

-- a prefix of the text was added
abbrev pub AddsPrefix : List ℕ → List ℕ → List ℕ → Type 0
AddsPrefix old new text = (prefix : List ℕ) × (rest : List ℕ) × (prefix ++ rest ≡ text) × (new ≡ old ++ prefix)

-- ---- what an answer leaves

-- the name of State: that under which it was created, or the one before
abbrev pub name_after : Option (List ℕ × List ℕ) → Option (List ℕ) → Option (List ℕ)
name_after None before = before
name_after (Some created) before = Some created.0

-- the bytes of State: those that it was created with, or those before
abbrev pub bytes_after : Option (List ℕ × List ℕ) → List ℕ → List ℕ
bytes_after None before = before
bytes_after (Some created) before = created.1

-- the address that was used last, or the one before
abbrev pub address_after : Option (List ℕ) → Option (List ℕ) → Option (List ℕ)
address_after None before = before
address_after (Some used) before = Some used

-- Files are as before. State, what is written to links and the address are the answer's, where it has such, and else as before; of links and moments to
-- come those that it asked for are gone. What is left of the slot Link isn't told.
pub record Leaves (a : Answer) (v w : View) : Type 0 where
  pub files : w.files ≡ v.files
  pub moments : w.moments ≡ drop a.moments v.moments
  pub coming : w.links ≡ drop a.taken v.links
  pub state_name : w.state_name ≡ name_after a.state v.state_name
  pub state : w.written.state ≡ bytes_after a.state v.written.state
  pub links : w.written.links ≡ v.written.links ++ a.links
  pub address : w.address ≡ address_after a.address v.address
