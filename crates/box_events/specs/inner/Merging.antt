-- Messages put into the numbers that the other events leave free. This project's own.
use Rattle.std.specs.Prelude.{◌≡◌, ◌≤◌, ℕ, List, ◌++◌, map, take, drop, Some, None, Result, Ok, Err}
use Rattle.box_events.specs.Events.{EventView, added}
use Rattle.box_events.specs.declared.updates.Placed.{Placed}
use Rattle.box_events.specs.Refusal.{overlap, counts}
pub use Rattle.box_events.specs.Weaves.{free, merged}

-- so many messages, or all where there are fewer, went to the end of the list
pub record Moved (old new : List EventView) (news left : List (List ℕ)) (most : ℕ) : Type 0 where
  pub events : new ≡ old ++ map added (take most news)
  pub rest : left ≡ drop most news

-- what is found of the other events: their counts, or where the first ends that overlaps
abbrev pub Covers : ℕ → ℕ → List Placed → Result ℕ ℕ → Type 0
Covers from to others (Ok sum) = (overlap from to others ≡ None) × (sum ≡ counts others) × (sum ≤ to)
Covers from to others (Err pts) = overlap from to others ≡ Some pts
