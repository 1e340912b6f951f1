-- Between two numbers of a box lies the stretch that is told.
use Rattle.std.proofs.Common.{◌≡◌, ℕ, zero, suc, ◌+◌, ◌-◌, ◌<◌, List, [], ◌∷◌, ◌++◌, refl, sym, ap, ◌∙◌, subst, arith}
use Rattle.box_events.specs.Events.{EventView, count_of}
use Rattle.box_events.specs.Boxes.{ending, Between, AreCounted}
use Rattle.box_events.proofs.Boundaries.{ending-append}
use Rattle.box_events.proofs.Stretches.{counted_left, counted_right}
use Rattle.update_replay.specs.Stretches.{events_from, events_to, stretch}

from_one : (e : EventView) (es : List EventView) (k : ℕ) → 0 < k → events_from (e ∷ es) k ≡ events_from es (k - count_of e)
from_one e es zero less = absurd (omega (arith, less))
from_one e es (suc k) less = refl

to_one : (e : EventView) (es : List EventView) (k : ℕ) → 0 < k → events_to (e ∷ es) k ≡ e ∷ events_to es (k - count_of e)
to_one e es zero less = absurd (omega (arith, less))
to_one e es (suc k) less = refl

from_all : (xs ys : List EventView) → AreCounted xs → events_from (xs ++ ys) (ending xs) ≡ ys
from_all [] [] c = refl
from_all [] (y ∷ ys) c = refl
from_all (x ∷ xs) ys c =
    from_one x (xs ++ ys) (count_of x + ending xs) (omega (arith, c.0))
    ∙ ap (λ (n : ℕ). events_from (xs ++ ys) n) (omega arith)
    ∙ from_all xs ys c.1

to_all : (xs ys : List EventView) → AreCounted xs → events_to (xs ++ ys) (ending xs) ≡ xs
to_all [] [] c = refl
to_all [] (y ∷ ys) c = refl
to_all (x ∷ xs) ys c =
    to_one x (xs ++ ys) (count_of x + ending xs) (omega (arith, c.0))
    ∙ ap (λ (n : ℕ). x ∷ events_to (xs ++ ys) n) (omega arith)
    ∙ ap (λ (zs : List EventView). x ∷ zs) (to_all xs ys c.1)

pub stretch_is : (box : List EventView) (p q : ℕ) (xs : List EventView) → AreCounted box → Between box p q xs → xs ≡ stretch box p q
stretch_is box p q xs c b =
    let all = subst AreCounted b.whole c in
    let from : events_from box p ≡ xs ++ b.rest = ap (λ (es : List EventView). events_from es p) b.whole ∙ ap (λ (n : ℕ). events_from (b.prefix ++ (xs ++ b.rest)) n) (sym b.start) ∙ from_all b.prefix (xs ++ b.rest) (counted_left b.prefix (xs ++ b.rest) all) in
    let far : q - p ≡ ending xs = omega (arith, b.start, b.stop, ending-append b.prefix xs) in
    let mine = counted_left xs b.rest (counted_right b.prefix (xs ++ b.rest) all) in
    sym (ap (λ (es : List EventView). events_to es (q - p)) from ∙ ap (λ (n : ℕ). events_to (xs ++ b.rest) n) far ∙ to_all xs b.rest mine)
