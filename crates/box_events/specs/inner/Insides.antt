-- A box's fields as a box. This project's own.
use Rattle.std.specs.Prelude.{◌≡◌, ◌+◌, ◌*◌, ◌≤◌, List, [], ◌∷◌, ◌++◌, length, vec_len, vec_capacity}
use Rattle.box_events.specs.declared.limits.TheConstants.{MAX_END, PAGE_EVENTS}
use Rattle.box_events.specs.declared.event_box.EventBox.TheInside.{Inside}
use Rattle.box_events.specs.Boxes.{AreCounted}
use Rattle.box_events.specs.BoxViews.{BoxView, end_of}
use Rattle.box_events.specs.inner.Chains.{joined, AreChained, AreFresh}

-- the pages of a box in order: those that are filled, and the one that is appended to
abbrev pub pages_of : Inside → List BoxView
pages_of b = b.pages.items ++ b.last ∷ []

abbrev pub box_view : Inside → BoxView
box_view b = record { first = b.first; events = joined (pages_of b); spare = b.spare }

-- What holds of every box. `room` says that what is spare is there: in the last page, and in reserved pages, which have their slot among the others.
pub record IsBox (b : Inside) : Type 0 where
  pub stop : b.end ≡ end_of (box_view b)
  pub limit : b.end ≤ MAX_END
  pub counted : AreCounted (joined (pages_of b))
  pub number : b.len ≡ length (joined (pages_of b))
  pub chained : AreChained b.first (pages_of b)
  pub fresh : AreFresh b.spares.items
  pub room : b.spare ≤ b.last.spare + PAGE_EVENTS * length b.spares.items
  pub slots : vec_len b.pages + vec_len b.spares ≤ vec_capacity b.pages
