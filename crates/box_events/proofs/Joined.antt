-- Parts of two lists, of which one starts where the other ends.
use Rattle.std.proofs.Common.{◌≡◌, ℕ, ◌+◌, ◌<◌, ◌≤◌, length, take, drop, get_or, List, [], ◌∷◌, ◌++◌, Bool, true, false, if◌then◌else◌, refl, sym, ap, ◌∙◌, arith}
use Rattle.std.proofs.lemmas.List.{take-append-drop, drop_more}
use Rattle.box_events.specs.Events.{EventView, count_of, body_of, is_new}
use Rattle.box_events.specs.Boxes.{ending}
use Rattle.box_events.specs.declared.updates.Placed.{Placed}
use Rattle.box_events.specs.Weaving.{bodies, others_from, ends_at}
use Rattle.box_events.specs.DifferenceLaws.{Joins, EachHasParts}

pub ending_join : (xs ys : List EventView) → ending (xs ++ ys) ≡ ending xs + ending ys
ending_join [] ys = omega arith
ending_join (x ∷ xs) ys = omega (arith, ending_join xs ys)

-- the events before an index, and the one there
pub ending_before : (es : List EventView) (i : ℕ) (e : EventView) → i < length es → e ≡ get_or es i e → ending (take i es) + count_of e ≤ ending es
ending_before es i e lt is =
    let cut : take i es ++ (e ∷ drop (i + 1) es) ≡ es = ap (λ (l : List EventView). take i es ++ l) (sym (drop_more es i e lt ∙ ap (λ (x : EventView). x ∷ drop (i + 1) es) (sym is))) ∙ take-append-drop i es in
    omega (arith, ap ending cut, ending_join (take i es) (e ∷ drop (i + 1) es))

if_join : {A : Type 0} (b : Bool) (x : A) (xs zs : List A) → (if b then x ∷ xs else xs) ++ zs ≡ (if b then x ∷ (xs ++ zs) else (xs ++ zs))
if_join true x xs zs = refl
if_join false x xs zs = refl

if_other : {A : Type 0} (b : Bool) (x : A) (xs zs : List A) → (if b then xs else x ∷ xs) ++ zs ≡ (if b then (xs ++ zs) else x ∷ (xs ++ zs))
if_other true x xs zs = refl
if_other false x xs zs = refl

bodies_join : (xs ys : List EventView) → bodies (xs ++ ys) ≡ bodies xs ++ bodies ys
bodies_join [] ys = refl
bodies_join (x ∷ xs) ys = ap (λ (l : List (List ℕ)). if is_new x then body_of x ∷ l else l) (bodies_join xs ys) ∙ sym (if_join (is_new x) (body_of x) (bodies xs) (bodies ys))

others_join : (p q : ℕ) (xs ys : List EventView) → p + ending xs ≡ q → others_from p (xs ++ ys) ≡ others_from p xs ++ others_from q ys
others_join p q [] ys is = let same : p ≡ q = omega (arith, is) in ap (λ (k : ℕ). others_from k ys) same
others_join p q (x ∷ xs) ys is =
    ap (λ (l : List Placed). if is_new x then l else ends_at x (p + count_of x) ∷ l) (others_join (p + count_of x) q xs ys (omega (arith, is)))
    ∙ sym (if_other (is_new x) (ends_at x (p + count_of x)) (others_from (p + count_of x) xs) (others_from q ys))

pub joins : Joins
joins p q r ns ms os ps xs ys v w = record {
  sum = omega (arith, ending_join xs ys, v.sum, w.sum);
  messages = bodies_join xs ys ∙ ap (λ (l : List (List ℕ)). l ++ bodies ys) v.messages ∙ ap (λ (l : List (List ℕ)). ns ++ l) w.messages;
  rest = others_join p q xs ys v.sum ∙ ap (λ (l : List Placed). l ++ others_from q ys) v.rest ∙ ap (λ (l : List Placed). os ++ l) w.rest;
}

pub each_has_parts : EachHasParts
each_has_parts from events = record { sum = refl; messages = refl; rest = refl }
