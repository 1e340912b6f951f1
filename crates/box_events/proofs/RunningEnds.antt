-- Where the events of a page end.
use Rattle.std.proofs.Common.{◌≡◌, ◌≢◌, ℕ, zero, suc, ◌+◌, ◌-◌, ◌<◌, ◌≤◌, List, [], ◌∷◌, ◌++◌, length, take, drop, get_or, slice_get, Some, None, Ok, Err, refl, sym, ap, ◌∙◌, subst, arith, inl, inr}
use Rattle.std.proofs.lemmas.Bool.{cases_lt}
use Rattle.std.proofs.lemmas.List.{append-nil, length-append, take-append-drop, take_at}
use Rattle.std.proofs.lemmas.List.Sorted.{searched}
use Rattle.std.specs.List.Sorted.{IsBinarySearchResult}
use Rattle.std.specs.Ordering.{nat_cmp}
use Rattle.box_events.specs.Events.{EventView, count_of}
use Rattle.box_events.specs.Boxes.{ending, AreCounted}
use Rattle.box_events.specs.BoxViews.{BoxView}
use Rattle.box_events.specs.inner.Pages.{ends_from}
use Rattle.box_events.specs.inner.Runs.{SuffixAt}
use Rattle.box_events.proofs.Boundaries.{ending-append}

pub length-ends : (p : ℕ) (es : List EventView) → length (ends_from p es) ≡ length es
length-ends p [] = refl
length-ends p (e ∷ es) = ap suc (length-ends (p + count_of e) es)

-- ---- the last end

last_at : (p : ℕ) (e : EventView) (es : List EventView) → slice_get (ends_from p (e ∷ es)) (length es) ≡ Some (p + ending (e ∷ es))
last_at p e [] = ap Some (omega arith)
last_at p e (f ∷ fs) = last_at (p + count_of e) f fs ∙ ap Some (omega arith)

last_end : (p : ℕ) (e : EventView) (es : List EventView) → slice_get (ends_from p (e ∷ es)) (length (ends_from p (e ∷ es)) - 1) ≡ Some (p + ending (e ∷ es))
last_end p e es = ap (slice_get (ends_from p (e ∷ es))) (omega (arith, length-ends p (e ∷ es))) ∙ last_at p e es

some_is : (x y : ℕ) → Some x ≡ Some y → x ≡ y
some_is x y e = cc

end_some_of : (p : ℕ) (es : List EventView) (x : ℕ) → Some x ≡ slice_get (ends_from p es) (length (ends_from p es) - 1) → x ≡ p + ending es
end_some_of p [] x is = absurd cc
end_some_of p (e ∷ es) x is = some_is x (p + ending (e ∷ es)) (is ∙ last_end p e es)

pub end_some : (p : ℕ) (es : List EventView) (ends : List ℕ) (x : ℕ) → ends ≡ ends_from p es → Some x ≡ slice_get ends (length ends - 1) → x ≡ p + ending es
end_some p es ends x same is = end_some_of p es x (subst (λ (l : List ℕ). Some x ≡ slice_get l (length l - 1)) same is)

end_none_of : (p : ℕ) (es : List EventView) → None ≡ slice_get (ends_from p es) (length (ends_from p es) - 1) → p ≡ p + ending es
end_none_of p [] is = omega arith
end_none_of p (e ∷ es) is = let no : None ≡ Some (p + ending (e ∷ es)) = is ∙ last_end p e es in absurd cc

pub end_none : (p : ℕ) (es : List EventView) (ends : List ℕ) → ends ≡ ends_from p es → None ≡ slice_get ends (length ends - 1) → p ≡ p + ending es
end_none p es ends same is = end_none_of p es (subst (λ (l : List ℕ). None ≡ slice_get l (length l - 1)) same is)

-- ---- an event more, and the first events less

pub ends_push : (p q : ℕ) (es : List EventView) (e : EventView) → q ≡ p + ending es + count_of e → ends_from p es ++ q ∷ [] ≡ ends_from p (es ++ e ∷ [])
ends_push p q [] e is = ap (λ (x : ℕ). x ∷ []) (omega (arith, is))
ends_push p q (x ∷ xs) e is = ap (λ (l : List ℕ). (p + count_of x) ∷ l) (ends_push (p + count_of x) q xs e (omega (arith, is)))

pub ends_drop : (p n : ℕ) (es : List EventView) → drop n (ends_from p es) ≡ ends_from (p + ending (take n es)) (drop n es)
ends_drop p zero es = ap (λ (q : ℕ). ends_from q es) (omega arith)
ends_drop p (suc n) [] = refl
ends_drop p (suc n) (e ∷ es) = ends_drop (p + count_of e) n es ∙ ap (λ (q : ℕ). ends_from q (drop n es)) (omega arith)

end_of_nth : (p n d : ℕ) (es : List EventView) → n < length es → get_or (ends_from p es) n d ≡ p + ending (take (suc n) es)
end_of_nth p n d [] lt = absurd (omega arith)
end_of_nth p zero d (e ∷ es) lt = omega arith
end_of_nth p (suc n) d (e ∷ es) lt = end_of_nth (p + count_of e) n d es (omega arith) ∙ omega arith

pub end_at : (p n d : ℕ) (es : List EventView) → n < length es → get_or (ends_from p es) n d ≡ p + ending (take (n + 1) es)
end_at p n d es lt = let one : suc n ≡ n + 1 = omega arith in end_of_nth p n d es lt ∙ ap (λ (m : ℕ). p + ending (take m es)) one

-- what stands before the end of event n
pub end_read : (p n x : ℕ) (es : List EventView) (ends : List ℕ) → ends ≡ ends_from p es → (n ≡ 0 → ⊥) → n ≤ length es → x ≡ get_or ends (n - 1) x → x ≡ p + ending (take n es)
end_read p zero x es ends same some le is = absurd (some refl)
end_read p (suc n) x es ends same some le is = is ∙ ap (λ (m : ℕ). get_or ends m x) (omega arith) ∙ ap (λ (l : List ℕ). get_or l n x) same ∙ end_of_nth p n x es (omega arith)

pub few_ends : (p : ℕ) (es : List EventView) (ends : List ℕ) → ends ≡ ends_from p es → length ends ≡ length es
few_ends p es ends same = ap length same ∙ length-ends p es

pub sum_taken : (n : ℕ) (es : List EventView) → ending (take n es) + ending (drop n es) ≡ ending es
sum_taken n es = sym (ending-append (take n es) (drop n es)) ∙ ap ending (take-append-drop n es)

pub counted_drop : (n : ℕ) (es : List EventView) → AreCounted es → AreCounted (drop n es)
counted_drop zero es c = c
counted_drop (suc n) [] c = c
counted_drop (suc n) (e ∷ es) c = counted_drop n es c.1

-- ---- the search

pub ending_take : (i j : ℕ) (es : List EventView) → i ≤ j → ending (take i es) ≤ ending (take j es)
ending_take zero j es le = omega arith
ending_take (suc i) zero es le = absurd (omega arith)
ending_take (suc i) (suc j) [] le = omega arith
ending_take (suc i) (suc j) (e ∷ es) le = let more = ending_take i j es (omega arith) in omega arith

ends_rise : (p : ℕ) (es : List EventView) (i j : ℕ) → i ≤ j → j < length (ends_from p es) → get_or (ends_from p es) i 0 ≤ get_or (ends_from p es) j 0
ends_rise p es i j le lt =
    let few = length-ends p es in
    let low = end_at p i 0 es (omega arith) in
    let high = end_at p j 0 es (omega arith) in
    let more = ending_take (i + 1) (j + 1) es (omega arith) in
    omega (arith, low, high, more)

-- the suffix after the first n events
pub suffix_from : (b : BoxView) (at n : ℕ) → at ≡ b.first + ending (take n b.events) → SuffixAt b at (Some (drop n b.events))
suffix_from b at n is =
    let whole = take-append-drop n b.events in
    let sum = ap ending whole in (
      omega (arith, is),
      omega (arith, is, ending-append (take n b.events) (drop n b.events), sum),
      record {
        prefix = take n b.events;
        rest = [];
        whole = sym whole ∙ ap (λ (l : List EventView). take n b.events ++ l) (sym (append-nil (drop n b.events)));
        start = omega (arith, is);
        stop = sum ∙ omega arith;
      },
    )

pub suffix_all : (b : BoxView) (at : ℕ) (xs : List EventView) → at ≡ b.first → xs ≡ b.events → SuffixAt b at (Some xs)
suffix_all b at xs is same = subst (λ (l : List EventView). SuffixAt b at (Some l)) (sym same) (suffix_from b at 0 (omega (arith, is)))

pub suffix_found : (b : BoxView) (ends : List ℕ) (at i : ℕ) → ends ≡ ends_from b.first b.events → IsBinarySearchResult (λ y. nat_cmp y at) ends (Ok i) → (i < length b.events) × SuffixAt b at (Some (drop (i + 1) b.events))
suffix_found b ends at i same found =
    let here = searched (ends_from b.first b.events) at (Ok i) (subst (λ (l : List ℕ). IsBinarySearchResult (λ y. nat_cmp y at) l (Ok i)) same found) (ends_rise b.first b.events) in
    let lt : i < length b.events = omega (arith, here.0, length-ends b.first b.events) in
    (lt, suffix_from b at (i + 1) (sym here.1 ∙ end_at b.first i 0 b.events lt))

no_end : (b : BoxView) (at i : ℕ) (prefix rest : List EventView) → b.events ≡ prefix ++ rest → b.first + ending prefix ≡ at → at ≢ b.first
    → ((k : ℕ) → k < i → get_or (ends_from b.first b.events) k 0 < at) → ((k : ℕ) → i ≤ k → k < length (ends_from b.first b.events) → at < get_or (ends_from b.first b.events) k 0) → ⊥
no_end b at i [] rest whole stop other below above = other (omega (arith, stop))
no_end b at i (f ∷ fs) rest whole stop other below above =
    let few : length b.events ≡ length (f ∷ fs) + length rest = ap length whole ∙ length-append (f ∷ fs) rest in
    let lt : length fs < length b.events = omega (arith, few) in
    let prefix : take (length fs + 1) b.events ≡ f ∷ fs = ap (take (length fs + 1)) whole ∙ take_at (f ∷ fs) rest (length fs + 1) (omega arith) in
    let here : get_or (ends_from b.first b.events) (length fs) 0 ≡ at = end_at b.first (length fs) 0 b.events lt ∙ ap (λ (l : List EventView). b.first + ending l) prefix ∙ stop in
    elim (cases_lt (length fs) i) [
      | inl low ↦ let less = below (length fs) low in absurd (omega (arith, here, less))
      | inr high ↦ let more = above (length fs) high (omega (arith, lt, length-ends b.first b.events)) in absurd (omega (arith, here, more))
    ]

pub suffix_part : (b : BoxView) (ends : List ℕ) (at i : ℕ) (xs part : List EventView) → ends ≡ ends_from b.first b.events → xs ≡ b.events → part ≡ drop (i + 1) xs
    → IsBinarySearchResult (λ y. nat_cmp y at) ends (Ok i) → SuffixAt b at (Some part)
suffix_part b ends at i xs part same all is found =
    subst (λ (l : List EventView). SuffixAt b at (Some l)) (sym (is ∙ ap (drop (i + 1)) all)) (suffix_found b ends at i same found).1

pub suffix_found_within : (b : BoxView) (ends : List ℕ) (at i n : ℕ) → ends ≡ ends_from b.first b.events → n ≡ length b.events → IsBinarySearchResult (λ y. nat_cmp y at) ends (Ok i) → i + 1 ≤ n
suffix_found_within b ends at i n same few found = let lt = (suffix_found b ends at i same found).0 in omega (arith, lt, few)

pub suffix_missed : (b : BoxView) (ends : List ℕ) (at i : ℕ) → ends ≡ ends_from b.first b.events → at ≢ b.first → IsBinarySearchResult (λ y. nat_cmp y at) ends (Err i) → SuffixAt b at None
suffix_missed b ends at i same other missed boundary =
    let there = searched (ends_from b.first b.events) at (Err i) (subst (λ (l : List ℕ). IsBinarySearchResult (λ y. nat_cmp y at) l (Err i)) same missed) (ends_rise b.first b.events) in
    no_end b at i boundary.1.prefix boundary.1.rest boundary.1.whole (let le = boundary.0 in omega (arith, boundary.1.stop)) other there.1 there.2
