-- An event's fields as an event. This project's own.
use Rattle.std.specs.Prelude.{◌≤◌}
use Rattle.box_events.specs.declared.event.Change.{Change}
use Rattle.box_events.specs.declared.event.Change.TheVariants.{New as NewChange, Edit as EditChange, Delete as DeleteChange, Read as ReadChange}
use Rattle.box_events.specs.declared.event.EventKind.{EventKind}
use Rattle.box_events.specs.declared.event.EventKind.TheVariants.{New, Edit, Delete, Read}
use Rattle.box_events.specs.declared.limits.TheConstants.{MAX_IDS}
use Rattle.box_events.specs.Events.{EventView, added, edited, deleted, read, count_of}

-- what the fields of an event say
abbrev pub event_view : Change → EventView
event_view (NewChange body) = added body
event_view (EditChange body) = edited body
event_view (DeleteChange ids) = deleted ids
event_view (ReadChange id) = read id

-- which of the four it is
abbrev pub kind_of : EventView → EventKind
kind_of (added body) = New
kind_of (edited body) = Edit
kind_of (deleted ids) = Delete
kind_of (read id) = Read id

-- an event counts for 1 to 4,096 numbers
abbrev pub HasCount : EventView → Type 0
HasCount h = (1 ≤ count_of h) × (count_of h ≤ MAX_IDS)
