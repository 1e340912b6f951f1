-- A gap's fields as a gap. This project's own.
use Rattle.std.specs.Prelude.{◌+◌, ◌≤◌, length}
use Rattle.std.specs.VecDeque.{deque_len, deque_capacity}
use Rattle.std.specs.FinMap as map
use Rattle.pts_machine.specs.declared.gap.Gap.TheInside.{Inside}
use Rattle.pts_machine.specs.Holding.{GapView, most}
use Rattle.pts_machine.specs.inner.Indexes.{AreRising}

-- the map that the list spells, and for how many more there is room
abbrev pub view_of : {E : Type 0} → Inside E → GapView E
view_of a = record { held = map.from_sorted a.items.items; spare = a.spare }

-- what holds of every gap
pub record IsWhole {E : Type 0} (a : Inside E) : Type 0 where
  pub rising : AreRising a.items.items
  pub few : length a.items.items ≤ most
  pub room : deque_len a.items + a.spare ≤ deque_capacity a.items
