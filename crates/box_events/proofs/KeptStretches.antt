-- Stretches of a box of which only the last events may be kept.
use Rattle.std.proofs.Common.{◌≡◌, ℕ, ◌+◌, ◌-◌, ◌≤◌, List, ◌++◌, length, take, sym, ap, ◌∙◌, subst, arith, append_assoc}
use Rattle.std.proofs.lemmas.List.{take-append-drop}
use Rattle.box_events.specs.Events.{EventView}
use Rattle.box_events.specs.Boxes.{ending, IsBoundary, Between, AreCounted}
use Rattle.box_events.specs.BoxViews.{BoxView, end_of, IsBoundaryOf, BetweenOf, KeepsLast}
use Rattle.box_events.proofs.Boundaries.{ending-append}
use Rattle.box_events.proofs.Stretches.{counted_left, same_cut, between_grows, between_one, stretch_counts, stretch_inside, starts_at}
use Rattle.box_events.proofs.PageRuns.{boundary_from}

-- ---- events before the others

after_gone : (gone es xs : List EventView) (p q s t : ℕ) → s ≡ ending gone + p → t ≡ ending gone + q → Between es p q xs → Between (gone ++ es) s t xs
after_gone gone es xs p q s t start stop b = record {
  prefix = gone ++ b.prefix;
  rest = b.rest;
  whole = ap (λ (l : List EventView). gone ++ l) b.whole ∙ sym (append_assoc gone b.prefix (xs ++ b.rest));
  start = omega (arith, start, b.start, ending-append gone b.prefix);
  stop = ap ending (append_assoc gone b.prefix xs) ∙ ending-append gone (b.prefix ++ xs) ∙ omega (arith, stop, b.stop);
}

-- a stretch that begins after them
without_gone : (gone es xs : List EventView) (p q s t : ℕ) → p ≡ ending gone + s → q ≡ ending gone + t → AreCounted (gone ++ es) → Between (gone ++ es) p q xs → Between es s t xs
without_gone gone es xs p q s t start stop c b =
    let there : IsBoundary es (p - ending gone) = boundary_from gone es p (counted_left gone es c) (omega (arith, start)) (starts_at (gone ++ es) p q xs b) in
    let parts : gone ++ es ≡ (gone ++ there.prefix) ++ there.rest = ap (λ (l : List EventView). gone ++ l) there.whole ∙ sym (append_assoc gone there.prefix there.rest) in
    let sum = ending-append gone there.prefix in
    let cut = same_cut (gone ++ there.prefix) there.rest b.prefix (xs ++ b.rest) (counted_left (gone ++ there.prefix) there.rest (subst AreCounted parts c)) (counted_left b.prefix (xs ++ b.rest) (subst AreCounted b.whole c))
    (sym parts ∙ b.whole) (omega (arith, sum, there.stop, b.start, start)) in
    let end : ending (gone ++ (there.prefix ++ xs)) ≡ q = ap ending (sym (append_assoc gone there.prefix xs) ∙ ap (λ (l : List EventView). l ++ xs) cut.0) ∙ b.stop in
    record {
      prefix = there.prefix;
      rest = b.rest;
      whole = there.whole ∙ ap (λ (l : List EventView). there.prefix ++ l) cut.1;
      start = omega (arith, there.stop, start);
      stop = omega (arith, end, ending-append gone (there.prefix ++ xs), stop);
    }

-- ---- of boxes

pub box_grows : (old new : BoxView) (more : List EventView) (p q : ℕ) (xs : List EventView) → new.first ≡ old.first → new.events ≡ old.events ++ more → BetweenOf old p q xs → BetweenOf new p q xs
box_grows old new more p q xs first events s =
    let from = s.0 in
    let moved : BetweenOf old p q xs → Between new.events (p - new.first) (q - new.first) xs = λ t.
    subst (λ (m : ℕ). Between new.events (p - m) (q - m) xs) (sym first) (subst (λ (l : List EventView). Between l (p - old.first) (q - old.first) xs) (sym events) (between_grows old.events more (p - old.first) (q - old.first) xs t.2)) in
    (omega (arith, first, from), s.1, moved s)

kept_parts : (old new : BoxView) (n : ℕ) → KeepsLast old new n → take (length old.events - n) old.events ++ new.events ≡ old.events
kept_parts old new n k = ap (λ (l : List EventView). take (length old.events - n) old.events ++ l) k.events ∙ take-append-drop (length old.events - n) old.events

pub box_was : (old new : BoxView) (n p q : ℕ) (xs : List EventView) → KeepsLast old new n → BetweenOf new p q xs → BetweenOf old p q xs
box_was old new n p q xs k s =
    let from = s.0 in
    let le = s.1 in (
      omega (arith, k.first, from),
      le,
      subst (λ (l : List EventView). Between l (p - old.first) (q - old.first) xs) (kept_parts old new n k)
          (after_gone (take (length old.events - n) old.events) new.events xs (p - new.first) (q - new.first) (p - old.first) (q - old.first) (omega (arith, k.first, from)) (omega (arith, k.first, from, le)) s.2),
    )

pub box_cut : (old new : BoxView) (n p q : ℕ) (xs : List EventView) → AreCounted old.events → KeepsLast old new n → new.first ≤ p → BetweenOf old p q xs → BetweenOf new p q xs
box_cut old new n p q xs c k from s =
    let le = s.1 in
    let gone = take (length old.events - n) old.events in
    let parts = kept_parts old new n k in (
      from,
      le,
      without_gone gone new.events xs (p - old.first) (q - old.first) (p - new.first) (q - new.first) (omega (arith, k.first, from)) (omega (arith, k.first, from, le))
          (subst AreCounted (sym parts) c) (subst (λ (l : List EventView). Between l (p - old.first) (q - old.first) xs) (sym parts) s.2),
    )

pub box_whole : (gone : List EventView) (b : BoxView) (p q : ℕ) (xs : List EventView) → b.first ≡ ending gone → BetweenOf b p q xs → Between (gone ++ b.events) p q xs
box_whole gone b p q xs is s =
    let from = s.0 in
    let le = s.1 in
    after_gone gone b.events xs (p - b.first) (q - b.first) p q (omega (arith, is, from)) (omega (arith, is, from, le)) s.2

pub box_part : (gone : List EventView) (b : BoxView) (p q : ℕ) (xs : List EventView) → AreCounted (gone ++ b.events) → b.first ≡ ending gone → b.first ≤ p → Between (gone ++ b.events) p q xs → BetweenOf b p q xs
box_part gone b p q xs c is from s =
    let counts = stretch_counts (gone ++ b.events) p q xs s in
    (from, omega (arith, counts), without_gone gone b.events xs p q (p - b.first) (q - b.first) (omega (arith, is, from)) (omega (arith, is, from, counts)) c s)

pub box_counts : (b : BoxView) (p q : ℕ) (xs : List EventView) → BetweenOf b p q xs → p + ending xs ≡ q
box_counts b p q xs s =
    let from = s.0 in
    let le = s.1 in
    omega (arith, from, le, stretch_counts b.events (p - b.first) (q - b.first) xs s.2)

pub box_inside : (b : BoxView) (p q : ℕ) (xs : List EventView) → BetweenOf b p q xs → q ≤ end_of b
box_inside b p q xs s = let inside = stretch_inside b.events (p - b.first) (q - b.first) xs s.2 in omega (arith, inside)

pub box_one : (b : BoxView) (p q : ℕ) (xs ys : List EventView) → AreCounted b.events → BetweenOf b p q xs → BetweenOf b p q ys → xs ≡ ys
box_one b p q xs ys c s t = between_one b.events (p - b.first) (q - b.first) xs ys c s.2 t.2

pub box_starts : (b : BoxView) (p q : ℕ) (xs : List EventView) → BetweenOf b p q xs → IsBoundaryOf b p
box_starts b p q xs s = (s.0, starts_at b.events (p - b.first) (q - b.first) xs s.2)
