-- How the logic stores events: a message's body, an edit's, a delete's ids or the id of a read mark. This project's own.
use Rattle.std.specs.Prelude.{◌≡◌, ◌⊎◌, ℕ, ℤ, List, refl}
use Rattle.std.specs.Coded.{Coded, code_by, coded⊎, coded_ℕ, coded_ℤ, coded_list}
use Rattle.std.proofs.Common.{inl, inr}
use Rattle.box_events.specs.Events.{EventView, added, edited, deleted, read}

abbrev Parts : Type 0
Parts = (List ℕ ⊎ List ℕ) ⊎ (List ℤ ⊎ ℤ)

abbrev event_to : EventView → Parts
event_to (added body) = inl (inl body)
event_to (edited body) = inl (inr body)
event_to (deleted ids) = inr (inl ids)
event_to (read id) = inr (inr id)

abbrev event_from : Parts → EventView
event_from (inl (inl body)) = added body
event_from (inl (inr body)) = edited body
event_from (inr (inl ids)) = deleted ids
event_from (inr (inr id)) = read id

pub event_back : (e : EventView) → event_from (event_to e) ≡ e
event_back (added body) = refl
event_back (edited body) = refl
event_back (deleted ids) = refl
event_back (read id) = refl

abbrev pub event_code : Coded EventView
event_code = code_by Parts (coded⊎ (coded⊎ (coded_list coded_ℕ) (coded_list coded_ℕ)) (coded⊎ (coded_list coded_ℤ) coded_ℤ)) event_to event_from event_back
