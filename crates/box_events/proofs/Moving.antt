-- Messages that are moved one by one.
use Rattle.std.proofs.Common.{◌≡◌, ℕ, zero, suc, ◌+◌, ◌-◌, ◌<◌, List, [], ◌∷◌, ◌++◌, length, map, take, drop, refl, sym, ap, ◌∙◌, subst, arith, append_assoc, append-nil}
use Rattle.box_events.specs.Events.{EventView, added}
use Rattle.box_events.specs.inner.Merging.{Moved}

-- with so many that are still to be moved the list is what it is to be
pub record Moving (old now : List EventView) (news left : List (List ℕ)) (most more : ℕ) : Type 0 where
  pub events : now ++ map added (take more left) ≡ old ++ map added (take most news)
  pub rest : drop more left ≡ drop most news

pub one_moved : (old now next : List EventView) (news left after : List (List ℕ)) (body : List ℕ) (most i : ℕ) → i < most → left ≡ body ∷ after → next ≡ now ++ added body ∷ []
    → Moving old now news left most (most - i) → Moving old next news after most (most - (i + 1))
one_moved old now next news left after body most i lt is end m =
    let more : most - i ≡ suc (most - (i + 1)) = omega arith in
    let now_moved : Moving old now news (body ∷ after) most (suc (most - (i + 1))) = subst (λ (k : ℕ). Moving old now news (body ∷ after) most k) more (subst (λ (l : List (List ℕ)). Moving old now news l most (most - i)) is m) in
    record {
      events = ap (λ (l : List EventView). l ++ map added (take (most - (i + 1)) after)) end ∙ append_assoc now (added body ∷ []) (map added (take (most - (i + 1)) after)) ∙ now_moved.events;
      rest = now_moved.rest;
    }

abbrev no_item : (A : Type 0) → List A
no_item A = []

take_none : {A : Type 0} (n : ℕ) → take n (no_item A) ≡ []
take_none zero = refl
take_none (suc n) = refl

drop_none : {A : Type 0} (n : ℕ) → drop n (no_item A) ≡ []
drop_none zero = refl
drop_none (suc n) = refl

-- no message is left
pub moved_all : (old now : List EventView) (news left : List (List ℕ)) (most more : ℕ) → left ≡ [] → Moving old now news left most more → Moved old now news left most
moved_all old now news left most more none m =
    let m2 : Moving old now news [] most more = subst (λ (l : List (List ℕ)). Moving old now news l most more) none m in
    record {
      events = sym (append-nil now) ∙ ap (λ (l : List (List ℕ)). now ++ map added l) (sym (take_none more)) ∙ m2.events;
      rest = none ∙ sym (drop_none more) ∙ m2.rest;
    }

-- no more is to be moved
pub moved_most : (old now : List EventView) (news left : List (List ℕ)) (most more : ℕ) → more ≡ 0 → Moving old now news left most more → Moved old now news left most
moved_most old now news left most more none m =
    let m2 : Moving old now news left most 0 = subst (Moving old now news left most) none m in
    record { events = sym (append-nil now) ∙ m2.events; rest = m2.rest }

pub moving_none : (old : List EventView) (news : List (List ℕ)) (most : ℕ) → Moving old old news news most (most - 0)
moving_none old news most = let all : most - 0 ≡ most = omega arith in subst (Moving old old news news most) (sym all) (record { events = refl; rest = refl })

pub no_items : {A : Type 0} (xs : List A) → length xs ≡ 0 → xs ≡ []
no_items [] e = refl
no_items (x ∷ xs) e = absurd (omega arith)
