-- What parts stand for: a list of events with the number at which it starts. This project's own.
use Rattle.std.specs.Prelude.{ℕ, List}
use Rattle.box_events.specs.Events.{EventView}

-- events of a box, in order, from a number on
pub record PartsView : Type 0 where
  pub from : ℕ
  pub events : List EventView
