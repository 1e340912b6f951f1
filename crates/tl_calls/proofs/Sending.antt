-- What sending a call does to the open calls.
use Rattle.std.proofs.Common.{◌≡◌, ◌⊎◌, inl, inr, ◌≤◌, ◌^◌, length, length-append, ℕ, zero, suc, ◌+◌, ◌<◌, List, [], ◌∷◌, ◌++◌, map, slice_get, Option, Some, refl, ap, ap₂, ◌∙◌, subst, arith}
use Rattle.std.specs.BTreeMap.{insert_entry}
use Rattle.std.specs.Ordering.{nat_cmp}
use Rattle.tl_types.specs.Values.{ValueView}
use Rattle.tl_types.specs.Seen.{view}
use Rattle.tl_types.specs.declared.value.Value.{Value}
use Rattle.tl_schema.specs.Schemas.{Declared}
use Rattle.tl_calls.specs.Calling.{CallsView, IsCalls, AreOpenIn, with_call}
use Rattle.tl_calls.specs.Results.{HasResult}
use Rattle.tl_calls.specs.Seen.{calls_of}
use Rattle.tl_calls.specs.declared.calls.TheConstants.{MAX_OPEN}
use Rattle.tl_calls.proofs.Entries.{inserted_last}

some_is : {X : Type 0} (x y : X) → Some x ≡ Some y → x ≡ y
some_is x y same = cc

abbrev some_seen : ℕ × Value → Option (ℕ × ValueView)
some_seen o = Some (o.0, view o.1)

seen_at : (es : List (ℕ × Value)) (k : ℕ) (e : ℕ × Value) → slice_get es k ≡ Some e → slice_get {X = ℕ × ValueView} (map (λ e. (e.0, view e.1)) es) k ≡ Some (e.0, view e.1)
seen_at [] k e at = cc
seen_at (f ∷ es) zero e at = ap (λ (o : ℕ × Value). some_seen o) (some_is f e at)
seen_at (f ∷ es) (suc k) e at = seen_at es k e at

seen_append : (es fs : List (ℕ × Value)) → map {B = ℕ × ValueView} (λ e. (e.0, view e.1)) (es ++ fs) ≡ map (λ e. (e.0, view e.1)) es ++ map (λ e. (e.0, view e.1)) fs
seen_append [] fs = refl
seen_append (e ∷ es) fs = ap (λ (ps : List (ℕ × ValueView)). (e.0, view e.1) ∷ ps) (seen_append es fs)

abbrev pair_of : ℕ → List (ℕ × ValueView) → CallsView
pair_of n ps = record { next = n; calls = ps }

pub sent_view : (next : ℕ) (es new : List (ℕ × Value)) (call : Value) → IsCalls (calls_of next es) → new ≡ insert_entry nat_cmp es next call → calls_of (next + 1) new ≡ with_call (view call) (calls_of next es)
sent_view next es new call is e =
    ap₂ (λ (n : ℕ) (ps : List (ℕ × ValueView)). pair_of n ps) (later next)
    (ap (map {B = ℕ × ValueView} (λ (f : ℕ × Value). (f.0, view f.1))) (e ∙ inserted_last es next call (λ k f at. (is.sent_before k (f.0, view f.1) (seen_at es k f at)).1)) ∙ seen_append es ((next, call) ∷ []))
  where
    later : (n : ℕ) → n + 1 ≡ suc n
    later n = omega arith

-- after the calls with the new one, each has its result
snoc_at : {X : Type 0} (xs : List X) (x : X) (k : ℕ) (y : X) → slice_get (xs ++ x ∷ []) k ≡ Some y → (P : X → Type 0) → ((j : ℕ) (z : X) → slice_get xs j ≡ Some z → P z) → P x → P y
snoc_at [] x zero y at P all one = subst P (some_is x y at) one
snoc_at [] x (suc k) y at P all one = cc
snoc_at (z ∷ xs) x zero y at P all one = all 0 y at
snoc_at (z ∷ xs) x (suc k) y at P all one = snoc_at xs x k y at P (λ j w there. all (suc j) w there) one

pub sent_fitting : (schema : Declared) (c : CallsView) (v : ValueView) → AreOpenIn schema c → HasResult schema v → AreOpenIn schema (with_call v c)
sent_fitting schema c v are has k p at = snoc_at c.calls (c.next, v) k p at (λ q. HasResult schema q.1) are has

-- ---- the invariant

get_snoc : {X : Type 0} (xs : List X) (x : X) (k : ℕ) (y : X) → slice_get (xs ++ x ∷ []) k ≡ Some y → (slice_get xs k ≡ Some y) ⊎ (x ≡ y)
get_snoc [] x zero y e = inr (some_is x y e)
get_snoc [] x (suc k) y e = cc
get_snoc (z ∷ xs) x zero y e = inl e
get_snoc (z ∷ xs) x (suc k) y e = get_snoc xs x k y e

split_at : {X : Type 0} (xs : List X) (x : X) (j k : ℕ) (p q : X) → j < k → slice_get (xs ++ x ∷ []) j ≡ Some p → slice_get (xs ++ x ∷ []) k ≡ Some q → (slice_get xs j ≡ Some p) × ((slice_get xs k ≡ Some q) ⊎ (x ≡ q))
split_at xs x j zero p q below at_j at_k = absurd (omega (arith, below))
split_at [] x j (suc k) p q below at_j at_k = cc
split_at (z ∷ xs) x zero (suc k) p q below at_j at_k = (at_j, get_snoc xs x k q at_k)
split_at (z ∷ xs) x (suc j) (suc k) p q below at_j at_k = split_at xs x j k p q (omega (arith, below)) at_j at_k

pub sent_is_calls : (c : CallsView) (v : ValueView) → IsCalls c → c.next < 2 ^ 31 → length c.calls < MAX_OPEN → IsCalls (with_call v c)
sent_is_calls c v is few room = record {
  first = omega arith;
  some_left = omega (arith, few);
  few = let count = length-append c.calls ((c.next, v) ∷ []) in omega (arith, room, count);
  ascending = λ j k p q below at_j at_k. (let s = split_at c.calls (c.next, v) j k p q below at_j at_k in elim s.1 [
    | inl there ↦ is.ascending j k p q below s.0 there
    | inr last ↦ subst (λ (x : ℕ × ValueView). p.0 < x.0) last (is.sent_before j p s.0).1
  ]);
  sent_before = λ k p at. snoc_at c.calls (c.next, v) k p at (λ q. (1 ≤ q.0) × (q.0 < suc c.next)) (λ j q there. before j q there) (is.first, omega arith);
}
  where
    before : (j : ℕ) (q : ℕ × ValueView) → slice_get c.calls j ≡ Some q → (1 ≤ q.0) × (q.0 < suc c.next)
    before j q there = let b = is.sent_before j q there in (b.0, (let less = b.1 in omega (arith, less)))
