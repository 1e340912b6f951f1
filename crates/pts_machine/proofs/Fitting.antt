-- Each step of a lane keeps it fitting its box.
use Rattle.std.proofs.Common.{◌≡◌, ℕ, zero, suc, ◌+◌, ◌≤◌, List, [], ◌∷◌, ◌++◌, Option, Some, None, Bool, true, false, refl, sym, ◌∙◌, subst, inl, inr, arith}
use Rattle.std.specs.List.{sum_by}
use Rattle.std.specs.Option.{option_map_or}
use Rattle.std.specs.Ordering.{nat_cmp}
use Rattle.std.specs.FinMap.{get, len, insert, empty, get-empty}
use Rattle.std.proofs.lemmas.List.Sums.{sum_by-cons}
use Rattle.std.proofs.lemmas.Option.{none-some}
use Rattle.box_events.specs.Events.{EventView, count_of}
use Rattle.box_events.specs.Boxes.{ending, IsBoundary, Between, AreCounted}
use Rattle.box_events.proofs.Boundaries.{boundary_zero}
use Rattle.box_events.proofs.Stretches.{between_grows, between_joins, between_none, stops_at, stretch_counts, stretch_inside, counted_right}
use Rattle.pts_machine.specs.Holding.{Items, from}
use Rattle.pts_machine.specs.declared.mode.Mode.TheVariants.{Live}
use Rattle.pts_machine.specs.declared.seen.Seen.{Seen}
use Rattle.pts_machine.specs.declared.seen.Seen.TheVariants.{Applied, Already, Held, Dropped}
use Rattle.pts_machine.specs.States.{LaneState, IsSound, StartAfter}
use Rattle.pts_machine.specs.Chains.{chain, reach, EndsAfter}
use Rattle.pts_machine.specs.Steps.{settle, hear, resumed, extend, restart_at, forget, asked, loaded, new_lane, Hears}
use Rattle.pts_machine.specs.Fitting.{Fits}
use Rattle.pts_machine.proofs.Maps.{from_some, insert_some}
use Rattle.pts_machine.proofs.Kept.{hears}
use Rattle.pts_machine.proofs.Moves.{extend_up}

-- each held event lies at its own position of the box
abbrev pub AreInPlace : List EventView → Items EventView → Type 0
AreInPlace box m = (s : ℕ) (x : ℕ × EventView) → get m s ≡ Some x → Between box s x.0 (x.1 ∷ [])

chain_over : (box : List EventView) (n p : ℕ) (m : Items EventView) (a : Option (ℕ × EventView)) → AreCounted box → IsBoundary box p
    → ((x : ℕ × EventView) → a ≡ Some x → Between box p x.0 (x.1 ∷ []) × Between box x.0 (reach n x.0 m) (chain n x.0 m))
    → Between box p (option_map_or (λ x. reach n x.0 m) a p) (option_map_or (λ x. x.1 ∷ chain n x.0 m) a [])
chain_over box n p m None c b more = between_none box p b
chain_over box n p m (Some x) c b more = let two = more x refl in between_joins box p x.0 (reach n x.0 m) (x.1 ∷ []) (chain n x.0 m) c two.0 two.1

-- a chain from a boundary is what lies from there to the position that it reaches
pub chain_lies : (box : List EventView) (n p : ℕ) (m : Items EventView) → AreCounted box → AreInPlace box m → IsBoundary box p → Between box p (reach n p m) (chain n p m)
unfolding chain reach
chain_lies box zero p m c held b = between_none box p b
chain_lies box (suc n) p m c held b = chain_over box n p m (get m p) c b (λ x is.
    let one : Between box p x.0 (x.1 ∷ []) = held p x is in
    (one, chain_lies box n x.0 m c held (stops_at box p x.0 (x.1 ∷ []) one)))

pub fits_settle : (box : List EventView) (t : LaneState EventView) → AreCounted box → Fits box t → Fits box (settle t)
unfolding settle
fits_settle box t c f =
    let to : ℕ = reach (len t.held) t.at t.held in
    record {
      events = between_joins box t.restart t.at to t.events (chain (len t.held) t.at t.held) c f.events
          (chain_lies box (len t.held) t.at t.held c f.held (stops_at box t.restart t.at t.events f.events));
      held = λ s x is. f.held s x (from_some to t.held s x is).1;
    }

pub in_place_insert : (box : List EventView) (m : Items EventView) (start end : ℕ) (event : EventView) → AreInPlace box m → Between box start end (event ∷ []) → AreInPlace box (insert m start (end, event))
in_place_insert box m start end event held one s x is = elim (insert_some m start (end, event) s x is) [
  | inl new ↦
      subst (λ (q : ℕ). Between box q x.0 (x.1 ∷ [])) (sym new.0) (subst (λ (y : ℕ × EventView). Between box start y.0 (y.1 ∷ [])) new.1 one)
  | inr old ↦ held s x old
]

-- whatever came of an event that lies at its own position
fits_by : (box : List EventView) (t : LaneState EventView) (start end : ℕ) (event : EventView) (r : Seen) (u : LaneState EventView)
    → AreCounted box → Fits box t → Between box start end (event ∷ []) → Hears t start end event r u → Fits box u
fits_by box t start end event Already u c f one s = subst (Fits box) (sym s.1) f
fits_by box t start end event (Applied to) u c f one s =
    let here : Between box t.at end (event ∷ []) = subst (λ (q : ℕ). Between box q end (event ∷ [])) s.1.1 one in
    subst (Fits box) (sym s.2) (fits_settle box (record t { events = t.events ++ event ∷ []; at = end }) c (record {
      events = between_joins box t.restart t.at end t.events (event ∷ []) c f.events here;
      held = f.held;
    }))
fits_by box t start end event Held u c f one s = subst (Fits box) (sym s.3) (record { events = f.events; held = in_place_insert box t.held start end event f.held one })
fits_by box t start end event Dropped u c f one s = subst (Fits box) (sym s.3) f

pub fits_hear : (box : List EventView) (t : LaneState EventView) (start end : ℕ) (event : EventView)
    → AreCounted box → Fits box t → Between box start end (event ∷ []) → Fits box (hear t start end event).state
fits_hear box t start end event c f one = fits_by box t start end event _ _ c f one (hears t start end event)

pub fits_grows : (box more : List EventView) (t : LaneState EventView) → Fits box t → Fits (box ++ more) t
fits_grows box more t f = record {
  events = between_grows box more t.restart t.at t.events f.events;
  held = λ s x is. between_grows box more s x.0 (x.1 ∷ []) (f.held s x is);
}

-- ---- answers, restarts, and lanes that forget or are loaded

ending_sums : (xs : List EventView) → ending xs ≡ sum_by count_of xs
ending_sums [] = refl
ending_sums (x ∷ xs) = omega (arith, ending_sums xs, sum_by-cons count_of x xs)

-- a stretch from p ends after it by the sum of the counts
ends_at : (box : List EventView) (p to : ℕ) (xs : List EventView) → Between box p to xs → to ≡ p + sum_by count_of xs
ends_at box p to xs b = omega (arith, stretch_counts box p to xs b, ending_sums xs)

fits_resumed : (box : List EventView) (t : LaneState EventView) (last : Bool) → AreCounted box → Fits box t → Fits box (resumed t last)
fits_resumed box t true c f = fits_settle box (record t { mode = Live }) c (record { events = f.events; held = f.held })
fits_resumed box t false c f = record { events = f.events; held = f.held }

pub fits_extend : (box : List EventView) (t : LaneState EventView) (to : ℕ) (events : List EventView) (last : Bool)
    → AreCounted box → Fits box t → Between box t.at to events → Fits box (extend count_of t events last)
unfolding extend
fits_extend box t to events last c f b =
    let end : ℕ = t.at + sum_by count_of events in
    let here : Between box t.at end events = subst (λ (q : ℕ). Between box t.at q events) (ends_at box t.at to events b) b in
    fits_resumed box (record t { events = t.events ++ events; at = end; held = from end t.held }) last c (record {
      events = between_joins box t.restart t.at end t.events events c f.events here;
      held = λ s x is. f.held s x (from_some end t.held s x is).1;
    })

pub fits_restart : (box : List EventView) (t : LaneState EventView) (p : ℕ) → AreCounted box → Fits box t → IsBoundary box p → Fits box (restart_at count_of t p)
unfolding restart_at
fits_restart box t p c f b =
    let here : Between box p p [] = between_none box p b in
    fits_extend box (record t { restart = p; events = []; at = p }) p [] true c (record { events = here; held = f.held }) here

nothing_in_place : (box : List EventView) → AreInPlace box empty
nothing_in_place box s x is = absurd (none-some x (sym (get-empty nat_cmp s) ∙ is))

pub fits_forget : (box : List EventView) (t : LaneState EventView) → Fits box t → Fits box (forget t)
unfolding forget
fits_forget box t f = record { events = f.events; held = nothing_in_place box }

pub fits_new : (box : List EventView) → Fits box new_lane
fits_new box = record { events = between_none box 0 (boundary_zero box); held = nothing_in_place box }

pub fits_asked : (box : List EventView) (t : LaneState EventView) (number : ℕ) → Fits box t → Fits box (asked t number)
fits_asked box t number f = record { events = f.events; held = f.held }

pub fits_loaded : (box : List EventView) (p to : ℕ) (events : List EventView) → Between box p to events → Fits box (loaded count_of p events)
fits_loaded box p to events b = record {
  events = subst (λ (q : ℕ). Between box p q events) (ends_at box p to events b) b;
  held = nothing_in_place box;
}

-- ---- what lies in a box ends after its start, and within the box

counted_at : (box : List EventView) (p q : ℕ) (event : EventView) → AreCounted box → Between box p q (event ∷ []) → 1 ≤ count_of event
counted_at box p q event c b = (counted_right b.prefix ((event ∷ []) ++ b.rest) (subst AreCounted b.whole c)).0

pub fits_after : (box : List EventView) (t : LaneState EventView) → AreCounted box → Fits box t → EndsAfter t.held
fits_after box t c f s x is =
    let here = f.held s x is in
    omega (arith, stretch_counts box s x.0 (x.1 ∷ []) here, counted_at box s x.0 x.1 c here)

pub fits_inside : (box : List EventView) (t : LaneState EventView) → Fits box t → t.at ≤ ending box
fits_inside box t f = stretch_inside box t.restart t.at t.events f.events

-- an answer's end is reached
pub fits_reaches : (box : List EventView) (t : LaneState EventView) (to : ℕ) (events : List EventView) (last : Bool)
    → AreCounted box → Fits box t → Between box t.at to events → to ≤ (extend count_of t events last).at
fits_reaches box t to events last c f b = omega (arith, ends_at box t.at to events b, extend_up count_of t events last (fits_after box t c f))

-- in a box that ends within the limit, such a lane is sound, where a live one holds nothing at or below its position
pub fits_sound : (box : List EventView) (t : LaneState EventView) → AreCounted box → ending box ≤ 1000000 → Fits box t → (t.mode ≡ Live → StartAfter t.at t.held) → IsSound count_of t
fits_sound box t c le f ahead = record {
  sized = λ s x is.
      let here = f.held s x is in
      (fits_after box t c f s x is, omega (arith, stretch_counts box s x.0 (x.1 ∷ []) here), omega (arith, le, stretch_inside box s x.0 (x.1 ∷ []) here));
  ahead = ahead;
  position = ends_at box t.restart t.at t.events f.events;
  limit = omega (arith, le, fits_inside box t f);
}
