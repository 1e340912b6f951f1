-- What a session does to its link. This project's own.
use Rattle.std.specs.Prelude.{◌≡◌, ℕ, ◌+◌, ◌≤◌, List, length, IsTrue, IsSome, Option, Some, None}
use Rattle.std.specs.Io.KnownBytes.{Appends}
use Rattle.tl_base.specs.Causes.{Rose}
use Rattle.tl_base.specs.Using.{SourceState, SinkState}

-- where the link tells what it gives and what was written, P holds of what it gives and of what is written now
abbrev pub OverLink : Option (List ℕ) → Option (List ℕ) → Option (List ℕ) → (List ℕ → List ℕ → Type 0) → Type 0
OverLink None old new P = Unit {0}
OverLink (Some bytes) None new P = Unit {0}
OverLink (Some bytes) (Some before) new P = (out : List ℕ) × Appends (Some before) new out × P bytes out

-- A call that reads and writes a link: its one count doesn't fall, it failed only where that rose, what is told stays told, what isn't stays so,
-- its room is kept, and what is sound stays sound.
pub record UsesLink (from_old from_new : SourceState) (to_old to_new : SinkState) (failed : Type 0) : Type 0 where
  pub later : from_old.faults ≤ from_new.faults
  pub cause : failed → Rose from_old.faults from_new.faults
  pub left_told : IsSome from_old.left → IsSome from_new.left
  pub left_untold : from_old.left ≡ None → from_new.left ≡ None
  pub written_told : IsSome to_old.written → IsSome to_new.written
  pub written_untold : to_old.written ≡ None → to_new.written ≡ None
  pub room_kept : to_new.room ≡ to_old.room
  pub stays : IsSome from_old.left → IsSome to_old.written → IsTrue from_old.sound → IsTrue from_new.sound

-- over a sound link that has room for whatever it may have to write it never fails
abbrev pub LinkNeverFails : SourceState → SinkState → (List ℕ → List ℕ → Type 0) → Type 0 → Type 0
LinkNeverFails from to MayWrite failed =
    (bytes before : List ℕ) → from.left ≡ Some bytes → to.written ≡ Some before → IsTrue from.sound → ((out : List ℕ) → MayWrite bytes out → length before + length out ≤ to.room) → failed → ⊥
