-- The events from a number of a box on, by the page that has it.
use Rattle.std.proofs.Common.{◌≡◌, ℕ, zero, suc, ◌+◌, ◌-◌, ◌<◌, ◌≤◌, ◌⊎◌, true, false, List, [], ◌∷◌, ◌++◌, length, take, drop, get_or, leb, Option, Some, None, Bor, refl, sym, ap, ◌∙◌, subst, arith, inl, inr}
use Rattle.std.specs.Prelude.{MatchOption}
use Rattle.std.specs.List.Sorted.{IsPartitionPoint, IsNonDecreasingBy}
use Rattle.std.proofs.lemmas.Bool.{cases_lt, leb-true, leb-false}
use Rattle.std.proofs.lemmas.List.{append_assoc, append-nil, get_or-drop, length-drop}
use Rattle.box_events.specs.Events.{EventView, count_of}
use Rattle.box_events.specs.Boxes.{ending, IsBoundary, AreCounted}
use Rattle.box_events.specs.BoxViews.{BoxView, end_of}
use Rattle.box_events.specs.inner.Chains.{joined, AreChained}
use Rattle.box_events.specs.inner.Runs.{SuffixAt, RunAt}
use Rattle.box_events.proofs.Boundaries.{ending-append, boundary_past, boundary_after, boundary_zero}
use Rattle.box_events.proofs.Stretches.{counted_left}
use Rattle.box_events.proofs.PageChains.{joined-append, first_at, chain_stop, chained_right, split_nth}

-- ---- boundaries of what follows, and of what comes first

pub boundary_from : (ps bs : List EventView) (p : ℕ) → AreCounted ps → ending ps ≤ p → IsBoundary (ps ++ bs) p → IsBoundary bs (p - ending ps)
boundary_from [] bs p c le b = subst (IsBoundary bs) (omega arith) b
boundary_from (a ∷ ps) bs p c le b =
    let past = boundary_past a (ps ++ bs) p (omega (arith, c.0)) b in
    subst (IsBoundary bs) (omega arith) (boundary_from ps bs (p - count_of a) c.1 (omega arith) past.1)

pub boundary_within : (ps bs : List EventView) (p : ℕ) → p ≤ ending ps → IsBoundary (ps ++ bs) p → IsBoundary ps p
boundary_within [] bs p le b = subst (IsBoundary []) (omega arith) (boundary_zero [])
boundary_within (a ∷ ps) bs p le b =
    elim (cases_lt p 1) [
      | inl none ↦ subst (IsBoundary (a ∷ ps)) (omega arith) (boundary_zero (a ∷ ps))
      | inr some ↦
          let past = boundary_past a (ps ++ bs) p some b in
          boundary_after a ps p (p - count_of a) (let le = past.0 in omega arith) (boundary_within ps bs (p - count_of a) (omega arith) past.1)
    ]

-- ---- the page x, which begins at the number or before it, and the pages around it

same_parts : (a f xs r bs : List EventView) → a ++ ((f ++ (xs ++ r)) ++ bs) ≡ (a ++ f) ++ (xs ++ (r ++ bs))
same_parts a f xs r bs = simp append_assoc refl

ends_here : (b : BoxView) (ps bs : List BoxView) (x : BoxView) (at : ℕ) → b.events ≡ joined (ps ++ x ∷ bs) → AreChained b.first (ps ++ x ∷ bs) → (at < end_of x) ⊎ (bs ≡ []) → at ≡ end_of x → at ≡ end_of b
ends_here b ps bs x at all c (inl lt) is = absurd (omega (arith, is, lt))
ends_here b ps bs x at all c (inr none) is =
    let same : ps ++ x ∷ bs ≡ ps ++ x ∷ [] = ap (λ (l : List BoxView). ps ++ x ∷ l) none in
    omega (arith, is, chain_stop b.first ps x (subst (AreChained b.first) same c), ap ending all, ap (λ (l : List BoxView). ending (joined l)) same)

run_some : (b : BoxView) (ps bs : List BoxView) (x : BoxView) (at : ℕ) (xs : List EventView) → b.events ≡ joined (ps ++ x ∷ bs) → AreChained b.first (ps ++ x ∷ bs) → AreCounted b.events
    → (at < end_of x) ⊎ (bs ≡ []) → SuffixAt x at (Some xs) → RunAt b at (Some xs)
run_some b ps bs x at xs all c counted next s =
    let part = s.2 in
    let first = first_at b.first ps bs x c in
    let whole : b.events ≡ (joined ps ++ part.prefix) ++ (xs ++ (part.rest ++ joined bs)) =
    all ∙ joined-append ps (x ∷ bs) ∙ ap (λ (l : List EventView). joined ps ++ (l ++ joined bs)) part.whole ∙ same_parts (joined ps) part.prefix xs part.rest (joined bs) in
    let from : x.first ≤ at = s.0 in
    let prefix = ending-append (joined ps) part.prefix in (
      (
        omega (arith, first, from),
        omega arith,
        record {
          prefix = joined ps ++ part.prefix;
          rest = part.rest ++ joined bs;
          whole = whole;
          start = omega (arith, first, from, part.start, prefix);
          stop = omega (arith, first, from, part.start, prefix, ending-append (joined ps ++ part.prefix) xs);
        },
      ),
      λ none. ends_here b ps bs x at all c next (omega (arith, from, part.start, part.stop, ending-append part.prefix xs, ap ending none)),
      counted,
    )

in_page : (bs : List BoxView) (x : BoxView) (at : ℕ) → x.first ≤ at → (at < end_of x) ⊎ (bs ≡ []) → IsBoundary (x.events ++ joined bs) (at - x.first) → IsBoundary x.events (at - x.first)
in_page bs x at from (inl lt) b = boundary_within x.events (joined bs) (at - x.first) (omega arith) b
in_page bs x at from (inr none) b = subst (λ (l : List EventView). IsBoundary l (at - x.first)) (ap (λ (l : List BoxView). x.events ++ joined l) none ∙ append-nil x.events) b

run_none : (b : BoxView) (ps bs : List BoxView) (x : BoxView) (at : ℕ) → b.events ≡ joined (ps ++ x ∷ bs) → AreChained b.first (ps ++ x ∷ bs) → AreCounted b.events → x.first ≤ at
    → (at < end_of x) ⊎ (bs ≡ []) → SuffixAt x at None → RunAt b at None
run_none b ps bs x at all c counted from next s boundary =
    let first = first_at b.first ps bs x c in
    let parts : b.events ≡ joined ps ++ (x.events ++ joined bs) = all ∙ joined-append ps (x ∷ bs) in
    let ahead : AreCounted (joined ps) = counted_left (joined ps) (x.events ++ joined bs) (subst AreCounted parts counted) in
    let there = boundary_from (joined ps) (x.events ++ joined bs) (at - b.first) ahead (omega (arith, first, from)) (subst (λ (l : List EventView). IsBoundary l (at - b.first)) parts boundary.1) in
    s (from, in_page bs x at from next (subst (IsBoundary (x.events ++ joined bs)) (omega (arith, first)) there))

pub run_of : (b : BoxView) (ps bs : List BoxView) (x : BoxView) (at : ℕ) → b.events ≡ joined (ps ++ x ∷ bs) → AreChained b.first (ps ++ x ∷ bs) → AreCounted b.events → x.first ≤ at
    → (at < end_of x) ⊎ (bs ≡ []) → (o : Option (List EventView)) → SuffixAt x at o → RunAt b at o
run_of b ps bs x at all c counted from next None s = run_none b ps bs x at all c counted from next s
run_of b ps bs x at all c counted from next (Some xs) s = run_some b ps bs x at xs all c counted next s

-- the same of what a call answers
pub run_by : (b x : BoxView) (at : ℕ) (r : Option (Bor (List EventView))) → ((o : Option (List EventView)) → SuffixAt x at o → RunAt b at o)
    → MatchOption r (SuffixAt x at None) (λ xs. SuffixAt x at (Some xs.now)) → MatchOption r (RunAt b at None) (λ xs. RunAt b at (Some xs.now))
run_by b x at None f h = f None h
run_by b x at (Some xs) f h = f (Some xs.now) h

-- ---- the page that the search finds

-- no page begins at the number or before it
pub run_before : (b : BoxView) (pages : List BoxView) (last : BoxView) (at : ℕ) → AreChained b.first (pages ++ last ∷ []) → at < last.first
    → IsPartitionPoint (λ (y : BoxView). leb y.first at ≡ true) (λ y. leb y.first at ≡ false) pages 0 → RunAt b at None
run_before b [] last at c above parted boundary = let first = c.0 in let from = boundary.0 in absurd (omega (arith, first, from))
run_before b (x ∷ xs) last at c above parted boundary =
    let first = c.0 in
    let from = boundary.0 in
    let low = leb-false x.first at (parted.1 0 x (omega arith) (omega arith)) in
    absurd (omega (arith, first, from, low))

next_above : (p : ℕ) (ps pages rest : List BoxView) (x last : BoxView) (at n : ℕ) → AreChained p (ps ++ x ∷ (rest ++ last ∷ [])) → at < last.first → rest ≡ drop n pages
    → IsPartitionPoint (λ (y : BoxView). leb y.first at ≡ true) (λ y. leb y.first at ≡ false) pages n → at < end_of x
next_above p ps pages [] x last at n c above is parted = let first = (chained_right p ps (x ∷ last ∷ []) c).1.0 in omega (arith, first)
next_above p ps pages (y ∷ ys) x last at n c above is parted =
    let first = (chained_right p ps (x ∷ y ∷ (ys ++ last ∷ [])) c).1.0 in
    let some : n < length pages = omega (arith, ap length is, length-drop n pages) in
    let here : get_or pages n y ≡ y = ap (λ (k : ℕ). get_or pages k y) (omega arith) ∙ sym (get_or-drop n pages 0 y) ∙ ap (λ (l : List BoxView). get_or l 0 y) (sym is) in
    let high = leb-false (get_or pages n y).first at (parted.1 n y (omega arith) some) in
    omega (arith, first, high, ap (λ (z : BoxView). z.first) here)

-- the page before the first that begins past the number
pub run_inside : (b : BoxView) (pages : List BoxView) (last x : BoxView) (at n : ℕ) → b.events ≡ joined (pages ++ last ∷ []) → AreChained b.first (pages ++ last ∷ []) → AreCounted b.events
    → at < last.first → (n ≡ 0 → ⊥) → n ≤ length pages → x ≡ get_or pages (n - 1) x
    → IsPartitionPoint (λ (y : BoxView). leb y.first at ≡ true) (λ y. leb y.first at ≡ false) pages n → (o : Option (List EventView)) → SuffixAt x at o → RunAt b at o
run_inside b pages last x at n all c counted above some le is parted =
    let one : n - 1 + 1 ≡ n = omega (arith, some) in
    let cut : pages ≡ take (n - 1) pages ++ x ∷ drop n pages = split_nth pages (n - 1) x (omega (arith, some)) is ∙ ap (λ (k : ℕ). take (n - 1) pages ++ x ∷ drop k pages) one in
    let ps = take (n - 1) pages in
    let bs = drop n pages ++ last ∷ [] in
    let same : pages ++ last ∷ [] ≡ ps ++ x ∷ bs = ap (λ (l : List BoxView). l ++ last ∷ []) cut ∙ append_assoc ps (x ∷ drop n pages) (last ∷ []) in
    let chain : AreChained b.first (ps ++ x ∷ bs) = subst (AreChained b.first) same c in
    let low = leb-true (get_or pages (n - 1) x).first at (parted.0 (n - 1) x (omega arith) (omega (arith, some))) in
    let from : x.first ≤ at = omega (arith, low, ap (λ (z : BoxView). z.first) is) in
    run_of b ps bs x at (all ∙ ap joined same) chain counted from (inl (next_above b.first ps pages (drop n pages) x last at n chain above refl parted))

-- ---- what the search rests on

firsts_at : (p : ℕ) (pages : List BoxView) (d : BoxView) (i j : ℕ) → AreChained p pages → i ≤ j → j < length pages → (p ≤ (get_or pages j d).first) × ((get_or pages i d).first ≤ (get_or pages j d).first)
firsts_at p [] d i j c le lt = absurd (omega arith)
firsts_at p (x ∷ xs) d zero zero c le lt = (omega (arith, c.0), omega arith)
firsts_at p (x ∷ xs) d (suc i) zero c le lt = absurd (omega arith)
firsts_at p (x ∷ xs) d zero (suc j) c le lt =
    let rest = firsts_at (end_of x) xs d 0 j c.1 (omega arith) (omega arith) in
    let from = rest.0 in (omega (arith, c.0, from), omega (arith, c.0, from))
firsts_at p (x ∷ xs) d (suc i) (suc j) c le lt =
    let rest = firsts_at (end_of x) xs d i j c.1 (omega arith) (omega arith) in
    let from = rest.0 in (omega (arith, c.0, from), rest.1)

pub firsts_rise : (p : ℕ) (pages : List BoxView) → AreChained p pages → IsNonDecreasingBy (λ (y : BoxView). y.first) pages
firsts_rise p pages c i j d le lt = (firsts_at p pages d i j c le lt).1
