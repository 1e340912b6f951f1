-- Stretches of a box.
use Rattle.std.proofs.Common.{◌≡◌, ℕ, ◌+◌, ◌≤◌, List, [], ◌∷◌, ◌++◌, refl, sym, ap, ◌∙◌, subst, arith, append_assoc, append-nil}
use Rattle.box_events.specs.Events.{EventView, count_of}
use Rattle.box_events.specs.Boxes.{ending, IsBoundary, Between, AreCounted}
use Rattle.box_events.proofs.Boundaries.{ending-append}

pub counted_left : (xs ys : List EventView) → AreCounted (xs ++ ys) → AreCounted xs
counted_left [] ys c = tt
counted_left (x ∷ xs) ys c = (c.0, counted_left xs ys c.1)

pub counted_right : (xs ys : List EventView) → AreCounted (xs ++ ys) → AreCounted ys
counted_right [] ys c = c
counted_right (x ∷ xs) ys c = counted_right xs ys c.1

same_first : (x y : EventView) (xs ys : List EventView) → x ∷ xs ≡ y ∷ ys → x ≡ y
same_first x y xs ys e = cc

same_others : (x y : EventView) (xs ys : List EventView) → x ∷ xs ≡ y ∷ ys → xs ≡ ys
same_others x y xs ys e = cc

-- prefixes of one box that end alike are the same, as is what follows them
pub same_cut : (a b c d : List EventView) → AreCounted a → AreCounted c → a ++ b ≡ c ++ d → ending a ≡ ending c → (a ≡ c) × (b ≡ d)
same_cut [] b [] d ca cd whole end = (refl, whole)
same_cut [] b (y ∷ ys) d ca cd whole end = let some : 1 ≤ count_of y = cd.0 in absurd (omega (arith, end))
same_cut (x ∷ xs) b [] d ca cd whole end = let some : 1 ≤ count_of x = ca.0 in absurd (omega (arith, end))
same_cut (x ∷ xs) b (y ∷ ys) d ca cd whole end =
    let first : x ≡ y = same_first x y (xs ++ b) (ys ++ d) whole in
    let counts : count_of x ≡ count_of y = ap count_of first in
    let more = same_cut xs b ys d ca.1 cd.1 (same_others x y (xs ++ b) (ys ++ d) whole) (omega (arith, end, counts)) in
    (ap (λ (e : EventView). e ∷ xs) first ∙ ap (λ (l : List EventView). y ∷ l) more.0, more.1)

-- the prefix of a stretch with the stretch
pub whole_left : (box : List EventView) (p q : ℕ) (xs : List EventView) (b : Between box p q xs) → box ≡ (b.prefix ++ xs) ++ b.rest
whole_left box p q xs b = b.whole ∙ sym (append_assoc b.prefix xs b.rest)

pub between_grows : (box more : List EventView) (p q : ℕ) (xs : List EventView) → Between box p q xs → Between (box ++ more) p q xs
between_grows box more p q xs b = record {
  prefix = b.prefix;
  rest = b.rest ++ more;
  whole = ap (λ (l : List EventView). l ++ more) b.whole ∙ append_assoc b.prefix (xs ++ b.rest) more ∙ ap (λ (l : List EventView). b.prefix ++ l) (append_assoc xs b.rest more);
  start = b.start;
  stop = b.stop;
}

pub between_joins : (box : List EventView) (p q r : ℕ) (xs ys : List EventView) → AreCounted box → Between box p q xs → Between box q r ys → Between box p r (xs ++ ys)
between_joins box p q r xs ys c a b =
    let left = whole_left box p q xs a in
    let one : AreCounted (a.prefix ++ xs) = counted_left (a.prefix ++ xs) a.rest (subst AreCounted left c) in
    let two : AreCounted b.prefix = counted_left b.prefix (ys ++ b.rest) (subst AreCounted b.whole c) in
    let cut = same_cut (a.prefix ++ xs) a.rest b.prefix (ys ++ b.rest) one two (sym left ∙ b.whole) (a.stop ∙ sym b.start) in
    record {
      prefix = a.prefix;
      rest = b.rest;
      whole = a.whole ∙ ap (λ (l : List EventView). a.prefix ++ (xs ++ l)) cut.1 ∙ ap (λ (l : List EventView). a.prefix ++ l) (sym (append_assoc xs ys b.rest));
      start = a.start;
      stop = ap ending (sym (append_assoc a.prefix xs ys) ∙ ap (λ (l : List EventView). l ++ ys) cut.0) ∙ b.stop;
    }

-- what is appended lies after the end
pub appended_lies : (box xs : List EventView) → Between (box ++ xs) (ending box) (ending box + ending xs) xs
appended_lies box xs = record { prefix = box; rest = []; whole = ap (λ (l : List EventView). box ++ l) (sym (append-nil xs)); start = refl; stop = ending-append box xs }

-- where a stretch begins and ends are boundaries
pub starts_at : (box : List EventView) (p q : ℕ) (xs : List EventView) → Between box p q xs → IsBoundary box p
starts_at box p q xs b = record { prefix = b.prefix; rest = xs ++ b.rest; whole = b.whole; stop = b.start }

pub stops_at : (box : List EventView) (p q : ℕ) (xs : List EventView) → Between box p q xs → IsBoundary box q
stops_at box p q xs b = record { prefix = b.prefix ++ xs; rest = b.rest; whole = whole_left box p q xs b; stop = b.stop }

-- at a boundary lies the stretch of no events
pub between_none : (box : List EventView) (p : ℕ) → IsBoundary box p → Between box p p []
between_none box p b = record { prefix = b.prefix; rest = b.rest; whole = b.whole; start = b.stop; stop = ap ending (append-nil b.prefix) ∙ b.stop }

-- a stretch is as long as its events count, and stays in the box
pub stretch_counts : (box : List EventView) (p q : ℕ) (xs : List EventView) → Between box p q xs → p + ending xs ≡ q
stretch_counts box p q xs b = omega (arith, b.start, b.stop, ending-append b.prefix xs)

pub stretch_inside : (box : List EventView) (p q : ℕ) (xs : List EventView) → Between box p q xs → q ≤ ending box
stretch_inside box p q xs b =
    let all : ending box ≡ ending (b.prefix ++ xs) + ending b.rest = ap ending (whole_left box p q xs b) ∙ ending-append (b.prefix ++ xs) b.rest in
    omega (arith, all, b.stop)

-- between two numbers lies one stretch at most
pub between_one : (box : List EventView) (p q : ℕ) (xs ys : List EventView) → AreCounted box → Between box p q xs → Between box p q ys → xs ≡ ys
between_one box p q xs ys c a b =
    let one : AreCounted a.prefix = counted_left a.prefix (xs ++ a.rest) (subst AreCounted a.whole c) in
    let two : AreCounted b.prefix = counted_left b.prefix (ys ++ b.rest) (subst AreCounted b.whole c) in
    let behind = (same_cut a.prefix (xs ++ a.rest) b.prefix (ys ++ b.rest) one two (sym a.whole ∙ b.whole) (a.start ∙ sym b.start)).1 in
    let more : AreCounted (xs ++ a.rest) = counted_right a.prefix (xs ++ a.rest) (subst AreCounted a.whole c) in
    let others : AreCounted (ys ++ b.rest) = counted_right b.prefix (ys ++ b.rest) (subst AreCounted b.whole c) in
    (same_cut xs a.rest ys b.rest (counted_left xs a.rest more) (counted_left ys b.rest others) behind
    (omega (arith, stretch_counts box p q xs a, stretch_counts box p q ys b))).0
