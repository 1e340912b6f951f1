-- What is found and copied of a box.
use Rattle.std.proofs.Common.{◌≡◌, ℕ, ◌+◌, ◌-◌, ◌<◌, ◌≤◌, List, [], ◌∷◌, ◌++◌, length, take, drop, get_or, slice_get, Option, Some, None, Bor, refl, sym, ap, ◌∙◌, subst, arith}
use Rattle.std.specs.Prelude.{MatchOption}
use Rattle.std.specs.Option.{option_copied}
use Rattle.std.proofs.lemmas.List.{append_assoc, take-append-drop, drop_more, take_more, take_all}
use Rattle.box_events.specs.Events.{EventView, count_of}
use Rattle.box_events.specs.Boxes.{ending, IsBoundary, Between, AreCounted}
use Rattle.box_events.specs.BoxViews.{BoxView, end_of, IsBoundaryOf, BetweenOf}
use Rattle.box_events.specs.Finding.{EventAt}
use Rattle.box_events.specs.inner.Runs.{RunAt, Copies}
use Rattle.box_events.proofs.Boundaries.{ending-append, boundary_past}
use Rattle.box_events.proofs.Stretches.{counted_left, counted_right, stretch_inside, stops_at, between_none, between_joins}
use Rattle.box_events.proofs.PageRuns.{boundary_from}

-- ---- the event at a number

counted_one : (b : BoxView) (p q : ℕ) (e : EventView) → AreCounted b.events → Between b.events p q (e ∷ []) → 1 ≤ count_of e
counted_one b p q e c s = (counted_right s.prefix (e ∷ s.rest) (subst AreCounted s.whole c)).0

event_end : (b : BoxView) (at : ℕ) → at ≡ end_of b → AreCounted b.events → EventAt b at None
event_end b at is c e s =
    let inside = stretch_inside b.events (at - b.first) (at + count_of e - b.first) (e ∷ []) s.2 in
    absurd (omega (arith, is, inside, counted_one b (at - b.first) (at + count_of e - b.first) e c s.2))

event_some : (b : BoxView) (at : ℕ) (e : EventView) (es : List EventView) → RunAt b at (Some (e ∷ es)) → EventAt b at (Some e)
event_some b at e es r =
    let s = r.0.2 in
    let from = r.0.0 in (
      from,
      omega arith,
      record {
        prefix = s.prefix;
        rest = es ++ s.rest;
        whole = s.whole;
        start = s.start;
        stop = omega (arith, s.start, from, ending-append s.prefix (e ∷ []));
      },
    )

some_now : (x y : EventView) → Some x ≡ Some y → x ≡ y
some_now x y e = cc

pub event_by : (b : BoxView) (at : ℕ) (xs : List EventView) (r : Option (Bor EventView)) → option_copied r ≡ slice_get xs 0 → RunAt b at (Some xs)
    → MatchOption r (EventAt b at None) (λ e. EventAt b at (Some e.now))
event_by b at [] None is run = event_end b at (run.1 refl) run.2
event_by b at [] (Some y) is run = absurd cc
event_by b at (e ∷ es) None is run = absurd cc
event_by b at (e ∷ es) (Some y) is run = subst (λ (x : EventView). EventAt b at (Some x)) (sym (some_now y.now e is)) (event_some b at e es run)

-- ---- a stretch, copied event by event

-- the first events of a stretch
prefix_of : (b : BoxView) (at i : ℕ) (xs : List EventView) → BetweenOf b at (at + ending xs) xs → BetweenOf b at (at + ending (take i xs)) (take i xs)
prefix_of b at i xs r =
    let s = r.2 in
    let from = r.0 in (
      from,
      omega arith,
      record {
        prefix = s.prefix;
        rest = drop i xs ++ s.rest;
        whole = s.whole ∙ ap (λ (l : List EventView). s.prefix ++ (l ++ s.rest)) (sym (take-append-drop i xs)) ∙ ap (λ (l : List EventView). s.prefix ++ l) (append_assoc (take i xs) (drop i xs) s.rest);
        start = s.start;
        stop = omega (arith, s.start, from, ending-append s.prefix (take i xs));
      },
    )

pub step_within : (b : BoxView) (at to i : ℕ) (e : EventView) (xs : List EventView) → RunAt b at (Some xs) → IsBoundaryOf b to → i < length xs → e ≡ get_or xs i e → at + ending (take i xs) < to
    → at + ending (take i xs) + count_of e ≤ to
step_within b at to i e xs run boundary lt is less =
    let s = run.0.2 in
    let from = run.0.0 in
    let cut : xs ≡ take i xs ++ e ∷ drop (i + 1) xs =
    sym (take-append-drop i xs) ∙ ap (λ (l : List EventView). take i xs ++ l) (drop_more xs i e lt ∙ ap (λ (y : EventView). y ∷ drop (i + 1) xs) (sym is)) in
    let behind = e ∷ (drop (i + 1) xs ++ s.rest) in
    let whole : b.events ≡ (s.prefix ++ take i xs) ++ behind =
    s.whole
    ∙ ap (λ (l : List EventView). s.prefix ++ (l ++ s.rest)) cut
    ∙ ap (λ (l : List EventView). s.prefix ++ l) (append_assoc (take i xs) (e ∷ drop (i + 1) xs) s.rest)
    ∙ sym (append_assoc s.prefix (take i xs) behind) in
    let sum = ending-append s.prefix (take i xs) in
    let counted : AreCounted (s.prefix ++ take i xs) = counted_left (s.prefix ++ take i xs) behind (subst AreCounted whole run.2) in
    let there = boundary_from (s.prefix ++ take i xs) behind (to - b.first) counted (omega (arith, sum, s.start, from, less)) (subst (λ (l : List EventView). IsBoundary l (to - b.first)) whole boundary.1) in
    let past = (boundary_past e (drop (i + 1) xs ++ s.rest) (to - b.first - ending (s.prefix ++ take i xs)) (omega (arith, sum, s.start, from, less)) there).0 in
    omega (arith, past, sum, s.start, from, less)

pub taken_more : (old new now xs : List EventView) (i : ℕ) (e : EventView) → i < length xs → e ≡ get_or xs i e → now ≡ old ++ take i xs → new ≡ now ++ e ∷ [] → new ≡ old ++ take (i + 1) xs
taken_more old new now xs i e lt is so_far more =
    more
    ∙ ap (λ (l : List EventView). l ++ e ∷ []) so_far
    ∙ append_assoc old (take i xs) (e ∷ [])
    ∙ ap (λ (l : List EventView). old ++ l) (sym (take_more xs i e lt ∙ ap (λ (y : EventView). take i xs ++ y ∷ []) (sym is)))

pub ending_more : (xs : List EventView) (i : ℕ) (e : EventView) → i < length xs → e ≡ get_or xs i e → ending (take (i + 1) xs) ≡ ending (take i xs) + count_of e
ending_more xs i e lt is =
    let sum = ending-append (take i xs) (e ∷ []) in
    omega (arith, sum, ap ending (take_more xs i e lt ∙ ap (λ (y : EventView). take i xs ++ y ∷ []) (sym is)))

inside_box : (b : BoxView) (p : ℕ) → IsBoundaryOf b p → p ≤ end_of b
inside_box b p boundary =
    let s = boundary.1 in
    omega (arith, s.stop, ap ending s.whole, ending-append s.prefix s.rest)

pub copies_prefix : (b : BoxView) (at to i end : ℕ) (xs old new : List EventView) → RunAt b at (Some xs) → new ≡ old ++ take i xs → end ≡ at + ending (take i xs) → at < end → end ≤ to → Copies b at to old new end
copies_prefix b at to i end xs old new run so_far is past within = record {
  copied = take i xs;
  whole = so_far;
  stretch = subst (λ (q : ℕ). BetweenOf b at q (take i xs)) (sym is) (prefix_of b at i xs run.0);
  past = past;
  within = within;
  counted = run.2;
}

run_past : (b : BoxView) (at to : ℕ) (xs : List EventView) → RunAt b at (Some xs) → IsBoundaryOf b to → at < to → at < at + ending xs
run_past b at to [] run boundary less = let is = run.1 refl in absurd (omega (arith, is, inside_box b to boundary, less))
run_past b at to (e ∷ es) run boundary less =
    let s = run.0.2 in
    let one = (counted_right s.prefix ((e ∷ es) ++ s.rest) (subst AreCounted s.whole run.2)).0 in
    omega (arith, one)

pub copies_all : (b : BoxView) (at to i end : ℕ) (xs old new : List EventView) → RunAt b at (Some xs) → IsBoundaryOf b to → at < to → length xs ≤ i → new ≡ old ++ take i xs → end ≡ at + ending (take i xs)
    → end ≤ to → Copies b at to old new end
copies_all b at to i end xs old new run boundary less le so_far is within =
    copies_prefix b at to i end xs old new run so_far is (omega (arith, is, ap ending (take_all i xs le), run_past b at to xs run boundary less)) within

-- ---- stretches that meet

pub none_between : (b : BoxView) (p : ℕ) → IsBoundaryOf b p → BetweenOf b p p []
none_between b p boundary = (boundary.0, omega arith, between_none b.events (p - b.first) boundary.1)

pub boundary_after : (b : BoxView) (p q : ℕ) (xs : List EventView) → BetweenOf b p q xs → IsBoundaryOf b q
boundary_after b p q xs s = (let from = s.0 in let le = s.1 in omega arith, stops_at b.events (p - b.first) (q - b.first) xs s.2)

pub joins : (b : BoxView) (p q r : ℕ) (xs ys : List EventView) → AreCounted b.events → BetweenOf b p q xs → BetweenOf b q r ys → BetweenOf b p r (xs ++ ys)
joins b p q r xs ys c s t = (s.0, let le = s.1 in let more = t.1 in omega arith, between_joins b.events (p - b.first) (q - b.first) (r - b.first) xs ys c s.2 t.2)

pub copies_join : (b : BoxView) (from at to end : ℕ) (old new : List EventView) → BetweenOf b from at old → Copies b at to old new end → BetweenOf b from end new
copies_join b from at to end old new s k = subst (BetweenOf b from end) (sym k.whole) (joins b from at end old k.copied k.counted s k.stretch)
