-- What an event that is appended makes of a box.
-- From "Working with Updates" (core.telegram.org/api/updates): each event raises a box's number by its count. The limit is this project's own.
use Rattle.std.specs.Prelude.{◌≡◌, ◌+◌, ◌<◌, ◌≤◌, [], ◌∷◌, ◌++◌, Result, Ok, Err}
use Rattle.box_events.specs.declared.limits.TheConstants.{MAX_END}
use Rattle.box_events.specs.declared.fault.BoxFault.{BoxFault}
use Rattle.box_events.specs.declared.fault.BoxFault.TheVariants.{BoxFull, Memory}
use Rattle.box_events.specs.Events.{EventView, count_of}
use Rattle.box_events.specs.BoxViews.{BoxView, end_of}

-- the event stands last
pub record HasLast (old new : BoxView) (event : EventView) : Type 0 where
  pub limit : end_of old + count_of event ≤ MAX_END
  pub events : new.events ≡ old.events ++ event ∷ []
  pub first : new.first ≡ old.first
  pub spare : old.spare ≤ new.spare + 1

-- The box is full exactly where it would end above the limit. Memory may be wanting only where none is spare. In both cases nothing changes.
abbrev pub Appends : BoxView → BoxView → EventView → Result (Unit {0}) BoxFault → Type 0
Appends old new event (Ok u) = HasLast old new event
Appends old new event (Err (BoxFull at)) = (MAX_END < end_of old + count_of event) × (at ≡ end_of old) × (new ≡ old)
Appends old new event (Err Memory) = (end_of old + count_of event ≤ MAX_END) × (old.spare ≡ 0) × (new ≡ old)
