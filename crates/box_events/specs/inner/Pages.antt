-- A page of a box: a box of at most 256 events, with the number at which each ends. This project's own.
use Rattle.std.specs.Prelude.{◌≡◌, ℕ, ◌+◌, ◌≤◌, List, [], ◌∷◌, length, vec_len, vec_capacity}
use Rattle.box_events.specs.declared.limits.TheConstants.{MAX_END, PAGE_EVENTS}
use Rattle.box_events.specs.declared.page.Page.TheInside.{Inside}
use Rattle.box_events.specs.Events.{EventView, count_of}
use Rattle.box_events.specs.Boxes.{ending, AreCounted}
use Rattle.box_events.specs.BoxViews.{BoxView}

-- where each event of a list ends that begins at p
abbrev pub ends_from : ℕ → List EventView → List ℕ
ends_from p [] = []
ends_from p (e ∷ es) = (p + count_of e) ∷ ends_from (p + count_of e) es

-- a page as a box
abbrev pub page_view : Inside → BoxView
page_view p = record { first = p.first; events = p.events.items; spare = p.spare }

-- what holds of every page
pub record IsPage (p : Inside) : Type 0 where
  pub ends : p.ends.items ≡ ends_from p.first p.events.items
  pub counted : AreCounted p.events.items
  pub limit : p.first + ending p.events.items ≤ MAX_END
  pub few : length p.events.items + p.spare ≤ PAGE_EVENTS
  pub ends_room : vec_len p.ends + p.spare ≤ vec_capacity p.ends
  pub events_room : vec_len p.events + p.spare ≤ vec_capacity p.events
