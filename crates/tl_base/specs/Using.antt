-- What a source, a sink and a link stand for, and what calls do to them beside the bytes that they take or write. This project's own.
use Rattle.std.specs.Prelude.{◌≡◌, ℕ, ◌+◌, ◌≤◌, List, [], length, Bool, IsTrue, Option, None, IsSome, IfSome}
use Rattle.tl_base.specs.Outside.{View, HostState}
use Rattle.tl_base.specs.Causes.{Rose}
use Rattle.tl_base.specs.Kinds.{no_faults, count_of, with_count}
use Rattle.tl_base.specs.declared.counts.Counts.{Counts}
use Rattle.tl_base.specs.declared.counts.Kind.{Kind}

-- What an object stands for beside its own bytes: the counts of other faults, the other parts of a view where it is told, and what it holds:
-- which reference, which slot or out, and what of another source it doesn't give.
pub record Aside : Type 0 where
  pub counts : Counts
  pub view : Option View
  pub held : List (List ℕ)

-- an object that stands for its bytes alone
abbrev pub nothing_aside : Aside
nothing_aside = record { counts = no_faults; view = None; held = [] }

-- a source: the bytes still to come where it tells them, how often reading has failed, what else it stands for, and whether, where it tells its
-- bytes, it never fails
pub record SourceState : Type 0 where
  pub left : Option (List ℕ)
  pub faults : ℕ
  pub aside : Aside
  pub sound : Bool

-- a sink: the bytes that were written where it tells them, how often writing has failed, what else it stands for, whether, where it tells its
-- bytes, it fails only for want of room, and how many bytes it takes in all
pub record SinkState : Type 0 where
  pub written : Option (List ℕ)
  pub faults : ℕ
  pub aside : Aside
  pub sound : Bool
  pub room : ℕ

-- A call that only reads a source: its count doesn't fall, it failed only where the count rose, what stands beside it is kept,
-- what is told stays told and what isn't stays so, what is sound stays sound, and over a sound source that tells its bytes it never fails.
pub record Used (old new : SourceState) (failed : Type 0) : Type 0 where
  pub later : old.faults ≤ new.faults
  pub cause : failed → Rose old.faults new.faults
  pub kept : new.aside ≡ old.aside
  pub told : IsSome old.left → IsSome new.left
  pub untold : old.left ≡ None → new.left ≡ None
  pub stays : IsSome old.left → IsTrue old.sound → IsTrue new.sound
  pub never : IsSome old.left → IsTrue old.sound → failed → ⊥

-- A call that only writes to a sink: likewise, its room is kept, and over a sound sink with room for so many more bytes it never fails.
pub record Wrote (old new : SinkState) (bytes : ℕ) (failed : Type 0) : Type 0 where
  pub later : old.faults ≤ new.faults
  pub cause : failed → Rose old.faults new.faults
  pub kept : new.aside ≡ old.aside
  pub room_kept : new.room ≡ old.room
  pub told : IsSome old.written → IsSome new.written
  pub untold : old.written ≡ None → new.written ≡ None
  pub stays : IsSome old.written → IsTrue old.sound → IsTrue new.sound
  pub never : IfSome old.written (λ before. IsTrue old.sound → length before + bytes ≤ old.room → failed → ⊥)

-- A call that only writes to a sink, however much: likewise, but it may fail.
pub record WritesOnly (old new : SinkState) (failed : Type 0) : Type 0 where
  pub later : old.faults ≤ new.faults
  pub cause : failed → Rose old.faults new.faults
  pub kept : new.aside ≡ old.aside
  pub room_kept : new.room ≡ old.room
  pub told : IsSome old.written → IsSome new.written
  pub untold : old.written ≡ None → new.written ≡ None
  pub stays : IsSome old.written → IsTrue old.sound → IsTrue new.sound

-- A call to a host that meets faults of one kind alone: their count doesn't fall, it failed only where the count rose, and the other counts are
-- kept. Where the view is told and the host is sound, it stays sound, and the call doesn't fail where P.
pub record MeetsFaults (kind : Kind) (old new : HostState) (failed : Type 0) (P : View → Type 0) : Type 0 where
  pub later : count_of kind old.counts ≤ count_of kind new.counts
  pub cause : failed → Rose (count_of kind old.counts) (count_of kind new.counts)
  pub others : with_count kind 0 new.counts ≡ with_count kind 0 old.counts
  pub stays : IsSome old.view → IsTrue old.sound → IsTrue new.sound
  pub never : IfSome old.view (λ v. IsTrue old.sound → P v → failed → ⊥)
