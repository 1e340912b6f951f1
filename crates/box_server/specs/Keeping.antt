-- What a keeper of entries stands for, and what calls do to it. This project's own.
use Rattle.std.specs.Prelude.{◌≡◌, ℕ, ◌<◌, ◌≤◌, ◌^◌, List, ◌++◌, length, get_or, Bool, IsTrue, true, Option, Some, None, IsSome, IfSome}
use Rattle.tl_base.specs.Causes.{Rose}
use Rattle.box_server.specs.declared.entry.Entry.{Entry}

-- a keeper: its entries where it tells them, how often calls have failed, whether, where it tells its entries, it fails only for want of room,
-- and how many entries it takes in all
pub record KeeperState : Type 0 where
  pub entries : Option (List Entry)
  pub faults : ℕ
  pub sound : Bool
  pub room : ℕ

-- A call to a keeper, its entries aside: its count doesn't fall, the call failed only where the count rose, the room is kept, what is sound stays
-- sound, and over a sound keeper that tells its entries it never fails where P holds of these.
pub record Keeps (old new : KeeperState) (failed : Type 0) (P : List Entry → Type 0) : Type 0 where
  pub later : old.faults ≤ new.faults
  pub cause : failed → Rose old.faults new.faults
  pub room_kept : new.room ≡ old.room
  pub stays : IsSome old.entries → IsTrue old.sound → IsTrue new.sound
  pub never : IfSome old.entries (λ es. IsTrue old.sound → P es → failed → ⊥)

abbrev pub FewEntries : List Entry → Type 0
FewEntries es = length es < 2 ^ 32

-- entries with others after them, where they are told
abbrev pub with_more : List Entry → Option (List Entry) → Option (List Entry)
with_more more None = None
with_more more (Some es) = Some (es ++ more)

-- the entry n of these, where they are told
abbrev pub IsEntry : Option (List Entry) → ℕ → Entry → Type 0
IsEntry None n e = Unit {0}
IsEntry (Some es) n e = e ≡ get_or es n e

-- a keeper that keeps nothing, tells nothing and never fails
abbrev pub nothing_kept : KeeperState
nothing_kept = record { entries = None; faults = 0; sound = true; room = 0 }
