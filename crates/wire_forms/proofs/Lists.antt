-- Lists of the code's values, and what stands in them.
use Rattle.std.proofs.Common.{◌≡◌, ℕ, zero, suc, ◌+◌, ◌<◌, ◌≤◌, List, [], ◌∷◌, length, take, drop, map, get_or, refl, sym, ap, ◌∙◌, arith}
use Rattle.std.proofs.lemmas.List.{take_all, drop_more}
use Rattle.tl_types.specs.Seen.{view, views}
use Rattle.tl_types.specs.Values.{ValueView, value, absent, values_of, count}
use Rattle.tl_types.specs.declared.value.Value.{Value}
use Rattle.wire_forms.specs.Parts.{at, each, row}

all_seen : {A : Type 0} (f : ValueView → A) (vs : List Value) → map (λ v. f (view v)) vs ≡ each f (views vs)
all_seen f [] = refl
all_seen f (v ∷ vs) = ap (λ (xs : List _). f (view v) ∷ xs) (all_seen f vs)

pub at_some : (vs : List Value) (k : ℕ) (v : Value) → v ≡ get_or vs k v → k < length vs → at k (views vs) ≡ view v
at_some [] k v e lt = absurd (omega arith)
at_some (w ∷ vs) zero v e lt = ap view (sym e)
at_some (w ∷ vs) (suc k) v e lt = at_some vs k v e (omega arith)

at_no_values : (k : ℕ) → at k (views []) ≡ absent
at_no_values zero = refl
at_no_values (suc k) = at_no_values k

pub at_none : (vs : List Value) (k : ℕ) → length vs ≤ k → at k (views vs) ≡ absent
at_none [] k le = at_no_values k
at_none (w ∷ vs) zero le = absurd (omega arith)
at_none (w ∷ vs) (suc k) le = at_none vs k (omega arith)

-- what a loop over all elements has made of them
pub each_seen : {A : Type 0} (f : ValueView → A) (vs : List Value) (i : ℕ) (xs : List A) → xs ≡ map (λ v. f (view v)) (take i vs) → length vs ≤ i → xs ≡ each f (views vs)
each_seen f vs i xs e le = e ∙ ap (map (λ v. f (view v))) (take_all i vs le) ∙ all_seen f vs

same_row : {A : Type 0} (f : A → ValueView) (us : List A) → values_of (map f us) ≡ row f us
same_row f [] = refl
same_row f (u ∷ us) = ap (value (f u)) (same_row f us)

-- the elements that a loop over all has made
pub row_seen : {A : Type 0} (f : A → ValueView) (us : List A) (i : ℕ) (vs : List Value) → map view vs ≡ map f (take i us) → length us ≤ i → views vs ≡ row f us
row_seen f us i vs e le = ap values_of (e ∙ ap (map f) (take_all i us le)) ∙ same_row f us

pub views_more : (vs : List Value) (i : ℕ) (v : Value) → i < length vs → v ≡ get_or vs i v → views (drop i vs) ≡ value (view v) (views (drop (i + 1) vs))
views_more vs i v lt is = ap views (drop_more vs i v lt) ∙ ap (λ (x : Value). value (view x) (views (drop (i + 1) vs))) (sym is)

pub count_seen : (vs : List Value) → count (views vs) ≡ length vs
count_seen [] = refl
count_seen (v ∷ vs) = ap suc (count_seen vs)
