-- Pages in order: where each begins, and what they hold together.
use Rattle.std.proofs.Common.{◌≡◌, ℕ, ◌+◌, ◌<◌, ◌≤◌, List, [], ◌∷◌, ◌++◌, length, take, drop, get_or, refl, sym, ap, ◌∙◌, subst, arith}
use Rattle.std.proofs.lemmas.List.{append_assoc, append-nil, length-append, length-drop, drop-drop, drop_at, drop-append-le, take-append-drop, drop_more, take_more, take_all, drop_all}
use Rattle.box_events.specs.declared.limits.TheConstants.{PAGE_EVENTS}
use Rattle.box_events.specs.Events.{EventView}
use Rattle.box_events.specs.Boxes.{ending, AreCounted}
use Rattle.box_events.specs.BoxViews.{BoxView, end_of, BetweenOf}
use Rattle.box_events.specs.inner.Chains.{joined, AreChained, AreFresh, IsCut, IsLeft, DropsFirst}
use Rattle.box_events.proofs.Boundaries.{ending-append}
use Rattle.box_events.proofs.RunningEnds.{sum_taken}

pub joined-append : (ps bs : List BoxView) → joined (ps ++ bs) ≡ joined ps ++ joined bs
joined-append [] bs = refl
joined-append (a ∷ ps) bs = ap (λ (l : List EventView). a.events ++ l) (joined-append ps bs) ∙ sym (append_assoc a.events (joined ps) (joined bs))

pub joined_last : (ps : List BoxView) (x : BoxView) → joined (ps ++ x ∷ []) ≡ joined ps ++ x.events
joined_last ps x = joined-append ps (x ∷ []) ∙ ap (λ (l : List EventView). joined ps ++ l) (append-nil x.events)

-- ---- where pages begin and end

pub chained_right : (p : ℕ) (ps bs : List BoxView) → AreChained p (ps ++ bs) → AreChained (p + ending (joined ps)) bs
chained_right p [] bs c = subst (λ (q : ℕ). AreChained q bs) (omega arith) c
chained_right p (a ∷ ps) bs c =
    let to : end_of a + ending (joined ps) ≡ p + ending (joined (a ∷ ps)) = omega (arith, c.0, ending-append a.events (joined ps)) in
    subst (λ (q : ℕ). AreChained q bs) to (chained_right (end_of a) ps bs c.1)

pub chained_left : (p : ℕ) (ps bs : List BoxView) → AreChained p (ps ++ bs) → AreChained p ps
chained_left p [] bs c = tt
chained_left p (a ∷ ps) bs c = (c.0, chained_left (end_of a) ps bs c.1)

pub chained_append : (p : ℕ) (ps bs : List BoxView) → AreChained p ps → AreChained (p + ending (joined ps)) bs → AreChained p (ps ++ bs)
chained_append p [] bs a b = subst (λ (q : ℕ). AreChained q bs) (omega arith) b
chained_append p (x ∷ xs) bs a b =
    let to : p + ending (joined (x ∷ xs)) ≡ end_of x + ending (joined xs) = omega (arith, a.0, ending-append x.events (joined xs)) in
    (a.0, chained_append (end_of x) xs bs a.1 (subst (λ (q : ℕ). AreChained q bs) to b))

pub first_at : (p : ℕ) (ps bs : List BoxView) (x : BoxView) → AreChained p (ps ++ x ∷ bs) → x.first ≡ p + ending (joined ps)
first_at p ps bs x c = (chained_right p ps (x ∷ bs) c).0

pub chain_stop : (p : ℕ) (ps : List BoxView) (x : BoxView) → AreChained p (ps ++ x ∷ []) → end_of x ≡ p + ending (joined (ps ++ x ∷ []))
chain_stop p ps x c = omega (arith, first_at p ps [] x c, ap ending (joined_last ps x), ending-append (joined ps) x.events)

-- another last page that begins where it did, and one more
pub chained_last : (p : ℕ) (ps : List BoxView) (x y : BoxView) → AreChained p (ps ++ x ∷ []) → y.first ≡ x.first → AreChained p (ps ++ y ∷ [])
chained_last p ps x y c is = chained_append p ps (y ∷ []) (chained_left p ps (x ∷ []) c) (is ∙ first_at p ps [] x c, tt)

pub chained_more : (p : ℕ) (ps : List BoxView) (x y : BoxView) → AreChained p (ps ++ x ∷ []) → y.first ≡ end_of x → AreChained p ((ps ++ x ∷ []) ++ y ∷ [])
chained_more p ps x y c is = chained_append p (ps ++ x ∷ []) (y ∷ []) c (is ∙ chain_stop p ps x c, tt)

-- ---- an event more

pub joined_with : (ps : List BoxView) (x y : BoxView) (e : EventView) → y.events ≡ x.events ++ e ∷ [] → joined (ps ++ y ∷ []) ≡ joined (ps ++ x ∷ []) ++ e ∷ []
joined_with ps x y e is =
    joined_last ps y
    ∙ ap (λ (l : List EventView). joined ps ++ l) is
    ∙ sym (append_assoc (joined ps) x.events (e ∷ []))
    ∙ ap (λ (l : List EventView). l ++ e ∷ []) (sym (joined_last ps x))

-- an empty page more
pub joined_empty : (ps : List BoxView) (x y : BoxView) → y.events ≡ [] → joined ((ps ++ x ∷ []) ++ y ∷ []) ≡ joined (ps ++ x ∷ [])
joined_empty ps x y is = joined_last (ps ++ x ∷ []) y ∙ ap (λ (l : List EventView). joined (ps ++ x ∷ []) ++ l) is ∙ append-nil (joined (ps ++ x ∷ []))

-- another last page with the same events
pub joined_same : (ps : List BoxView) (x y : BoxView) → y.events ≡ x.events → joined (ps ++ y ∷ []) ≡ joined (ps ++ x ∷ [])
joined_same ps x y is = joined_last ps y ∙ ap (λ (l : List EventView). joined ps ++ l) is ∙ sym (joined_last ps x)

-- ---- reserved pages

pub fresh_push : (xs : List BoxView) (x : BoxView) → AreFresh xs → x.events ≡ [] → PAGE_EVENTS ≤ x.spare → AreFresh (xs ++ x ∷ [])
fresh_push [] x f empty room = (empty, room, tt)
fresh_push (y ∷ ys) x f empty room = (f.0, f.1, fresh_push ys x f.2 empty room)

pub fresh_pop : (xs : List BoxView) (x : BoxView) → AreFresh (xs ++ x ∷ []) → AreFresh xs × (x.events ≡ []) × (PAGE_EVENTS ≤ x.spare)
fresh_pop [] x f = (tt, f.0, f.1)
fresh_pop (y ∷ ys) x f = let rest = fresh_pop ys x f.2 in ((f.0, f.1, rest.0), rest.1, rest.2)

-- ---- the first events less

drop_past : (ps bs : List EventView) (rest n : ℕ) → length ps + rest ≡ n → drop n (ps ++ bs) ≡ drop rest bs
drop_past ps bs rest n is =
    ap (λ (m : ℕ). drop m (ps ++ bs)) (sym is) ∙ sym (drop-drop rest (length ps) (ps ++ bs)) ∙ ap (drop rest) (drop_at ps bs (length ps) refl)

pub left_is : (p : ℕ) (ps bs : List BoxView) (x y : BoxView) (rest n : ℕ) → AreChained p (ps ++ x ∷ bs) → length (joined ps) + rest ≡ n → rest ≤ length x.events
    → y.first ≡ x.first + ending (take rest x.events) → y.events ≡ drop rest x.events → IsLeft p (ps ++ x ∷ bs) n y.first (y ∷ bs)
left_is p ps bs x y rest n c is few first events =
    let all : joined (ps ++ x ∷ bs) ≡ joined ps ++ (x.events ++ joined bs) = joined-append ps (x ∷ bs) in
    let left : joined (y ∷ bs) ≡ drop n (joined (ps ++ x ∷ bs)) =
    ap (λ (l : List EventView). l ++ joined bs) events
    ∙ sym (drop-append-le rest x.events (joined bs) few)
    ∙ sym (drop_past (joined ps) (x.events ++ joined bs) rest n is)
    ∙ ap (drop n) (sym all) in
    let at : x.first ≡ p + ending (joined ps) = first_at p ps bs x c in
    let stop : end_of x ≡ end_of y = omega (arith, first, ap ending events, sum_taken rest x.events) in
    record {
      events = left;
      begin = omega (arith, at, first, ap ending all, ending-append (joined ps) (x.events ++ joined bs), ending-append x.events (joined bs), sum_taken n (joined (ps ++ x ∷ bs)), ap ending left, ending-append y.events (joined bs), ap ending events, sum_taken rest x.events);
      chained = (refl, subst (λ (q : ℕ). AreChained q bs) stop (chained_right p ps (x ∷ bs) c).1);
    }

-- ---- a page by its index

pub split_nth : (xs : List BoxView) (i : ℕ) (x : BoxView) → i < length xs → x ≡ get_or xs i x → xs ≡ take i xs ++ x ∷ drop (i + 1) xs
split_nth xs i x lt is =
    sym (take-append-drop i xs) ∙ ap (λ (l : List BoxView). take i xs ++ l) (drop_more xs i x lt ∙ ap (λ (y : BoxView). y ∷ drop (i + 1) xs) (sym is))

-- ---- whole pages

pub joined_more : (pages : List BoxView) (i : ℕ) (x : BoxView) → i < length pages → x ≡ get_or pages i x → length (joined (take (i + 1) pages)) ≡ length (joined (take i pages)) + length x.events
joined_more pages i x lt is =
    ap (λ (l : List BoxView). length (joined l)) (take_more pages i x lt ∙ ap (λ (y : BoxView). take i pages ++ y ∷ []) (sym is))
    ∙ ap length (joined_last (take i pages) x)
    ∙ length-append (joined (take i pages)) x.events

head_of : (x y : BoxView) (xs ys : List BoxView) → x ∷ xs ≡ y ∷ ys → x ≡ y
head_of x y xs ys e = cc

pub cut_here : (pages : List BoxView) (i rest n : ℕ) (x : BoxView) → i < length pages → x ≡ get_or pages i x → length (joined (take i pages)) + rest ≡ n → rest < length x.events → IsCut pages n i rest
cut_here pages i rest n x lt is number few = record {
  within = omega arith;
  number = number;
  some = λ y ys left.
      let same : y ≡ x = head_of y x ys (drop (i + 1) pages) (sym left ∙ drop_more pages i x lt ∙ ap (λ (z : BoxView). z ∷ drop (i + 1) pages) (sym is)) in
      omega (arith, ap (λ (z : BoxView). length z.events) same, few);
}

no_more : (y : BoxView) (ys : List BoxView) → [] ≡ y ∷ ys → ⊥
no_more y ys e = absurd cc

pub cut_all : (pages : List BoxView) (i rest n : ℕ) → length pages ≤ i → length (joined (take i pages)) + rest ≡ n → IsCut pages n (length pages) rest
cut_all pages i rest n le number = record {
  within = omega arith;
  number = ap (λ (l : List BoxView). length (joined l) + rest) (take_all (length pages) pages (omega arith) ∙ sym (take_all i pages le)) ∙ number;
  some = λ y ys left. absurd (no_more y ys (sym (drop_all (length pages) pages (omega arith)) ∙ left));
}

-- ---- an event more, of the box

pub counted_length : (es : List EventView) → AreCounted es → length es ≤ ending es
counted_length [] c = omega arith
counted_length (e ∷ es) c = let rest = counted_length es c.1 in omega (arith, c.0, rest)

pub last_between : (old new : BoxView) (e : EventView) → new.first ≡ old.first → new.events ≡ old.events ++ e ∷ [] → BetweenOf new (end_of old) (end_of new) (e ∷ [])
last_between old new e first events =
    let sum = ap ending events ∙ ending-append old.events (e ∷ []) in
    (omega (arith, first), omega (arith, first, sum), record { prefix = old.events; rest = []; whole = events; start = omega (arith, first); stop = ap ending (sym events) ∙ omega arith })

-- ---- the first events less, by the pages that are dropped whole

few_of_last : (n whole rest : ℕ) (pages : List BoxView) (x : BoxView) → IsCut pages n whole rest → n ≤ length (joined (pages ++ x ∷ [])) → drop whole pages ≡ [] → rest ≤ length x.events
few_of_last n whole rest pages x cut some none =
    let all : whole ≡ length pages = omega (arith, cut.within, ap length none, length-drop whole pages) in
    let number : length (joined pages) + rest ≡ n = ap (λ (l : List BoxView). length (joined l) + rest) (sym (take_all whole pages (omega (arith, all)))) ∙ cut.number in
    omega (arith, some, number, ap length (joined_last pages x), length-append (joined pages) x.events)

pub few_first : (n whole rest : ℕ) (pages left : List BoxView) (last : BoxView) → IsCut pages n whole rest → n ≤ length (joined (pages ++ last ∷ [])) → left ≡ drop whole pages
    → (x : BoxView) (bs : List BoxView) → left ++ last ∷ [] ≡ x ∷ bs → rest ≤ length x.events
few_first n whole rest pages [] last cut some is x bs first =
    omega (arith, few_of_last n whole rest pages last cut some (sym is), ap (λ (z : BoxView). length z.events) (head_of last x [] bs first))
few_first n whole rest pages (y ∷ ys) last cut some is x bs first =
    omega (arith, cut.some y ys (sym is), ap (λ (z : BoxView). length z.events) (head_of y x (ys ++ last ∷ []) bs first))

pub dropped_is : (p n whole rest first : ℕ) (pages left new : List BoxView) (last : BoxView) → AreChained p (pages ++ last ∷ []) → IsCut pages n whole rest → n ≤ length (joined (pages ++ last ∷ [])) → left ≡ drop whole pages
    → DropsFirst (left ++ last ∷ []) new rest first → IsLeft p (pages ++ last ∷ []) n first new
dropped_is p n whole rest first pages left new last c cut some is d =
    let x = d.before in
    let bs = d.others in
    let parts : pages ++ last ∷ [] ≡ take whole pages ++ x ∷ bs =
    ap (λ (l : List BoxView). l ++ last ∷ []) (sym (take-append-drop whole pages))
    ∙ append_assoc (take whole pages) (drop whole pages) (last ∷ [])
    ∙ ap (λ (l : List BoxView). take whole pages ++ l) (ap (λ (l : List BoxView). l ++ last ∷ []) (sym is) ∙ d.was) in
    let left_by = left_is p (take whole pages) bs x d.after rest n (subst (AreChained p) parts c) cut.number (few_first n whole rest pages left last cut some is x bs d.was) d.begin d.events in
    subst (λ (l : List BoxView). IsLeft p l n first new) (sym parts)
    (subst (λ (l : List BoxView). IsLeft p (take whole pages ++ x ∷ bs) n first l) (sym d.is) (subst (λ (m : ℕ). IsLeft p (take whole pages ++ x ∷ bs) n m (d.after ∷ bs)) (sym d.same) left_by))
