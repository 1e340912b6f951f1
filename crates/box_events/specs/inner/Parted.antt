-- The list of events that is held in parts. This project's own.
use Rattle.box_events.specs.PartsView.{PartsView}
use Rattle.box_events.specs.Weaving.{Woven}
use Rattle.box_events.specs.inner.Merging.{merged}
use Rattle.box_events.specs.declared.parts.Parts.TheInside.{Inside}

-- what is merged of the parts
abbrev pub view_of : Inside → PartsView
view_of p = record { from = p.from; events = merged p.from p.news.items p.others.items }

-- that list is woven of them
abbrev pub AreParts : Inside → Type 0
AreParts p = Woven p.from p.at p.news.items p.others.items (merged p.from p.news.items p.others.items)
