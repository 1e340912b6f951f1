-- The calls of a log by their numbers.
use Rattle.std.proofs.Common.{◌≡◌, ℕ, zero, suc, ◌≤◌, List, [], ◌∷◌, ◌++◌, length, slice_get, Some, None, true, ◌==◌, refl, sym, subst, arith}
use Rattle.std.proofs.lemmas.Bool.{or_left, or_right}
use Rattle.std.proofs.lemmas.Bool.Decides.{nat_tests}
use Rattle.tl_types.specs.Values.{ValueView}
use Rattle.tl_calls.specs.Events.{sent, came, Logged, Log, sent_in, call_in, is_given}

-- what stands in a list stands there where more follows
pub get_before : {X : Type 0} (xs ys : List X) (i : ℕ) (x : X) → slice_get xs i ≡ Some x → slice_get (xs ++ ys) i ≡ Some x
get_before [] ys i x e = cc
get_before (y ∷ xs) ys zero x e = e
get_before (y ∷ xs) ys (suc i) x e = get_before xs ys i x e

-- the item after a list
pub get_last : {X : Type 0} (xs : List X) (x : X) → slice_get (xs ++ x ∷ []) (length xs) ≡ Some x
get_last [] x = refl
get_last (y ∷ xs) x = get_last xs x

-- past its end a list has no item
pub get_past : {X : Type 0} (xs : List X) (i : ℕ) → length xs ≤ i → slice_get xs i ≡ None
get_past [] i long = refl
get_past (y ∷ xs) zero long = absurd (omega (arith, long))
get_past (y ∷ xs) (suc i) long = get_past xs i (omega (arith, long))

-- a call keeps its number
pub call_later : (e : Logged) (past : Log) (n : ℕ) (c : ValueView) → call_in past n ≡ Some c → call_in (e ∷ past) n ≡ Some c
call_later e past zero c is = cc
call_later (sent v, given) past (suc k) c is = get_before (sent_in past) (v ∷ []) k c is
call_later (came m b, given) past (suc k) c is = is

-- a value that was given stays so
pub given_later : (e : Logged) (past : Log) (n : ℕ) → is_given past n ≡ true → is_given (e ∷ past) n ≡ true
given_later (sent v, given) past n is = is
given_later (came m b, None) past n is = is
given_later (came m b, Some v) past n is = or_right (m == n) (is_given past n) is

pub same_number : (n : ℕ) → (n == n) ≡ true
same_number n = grind (arith, nat_tests)

-- where the answer to a call gave its value, that is so
pub given_at : (log : Log) (k n : ℕ) (b : List ℕ) (v : ValueView) → slice_get log k ≡ Some (came n b, Some v) → is_given log n ≡ true
given_at [] k n b v at = cc
given_at (e ∷ past) zero n b v at = subst (λ (f : Logged). is_given (f ∷ past) n ≡ true) (some_is _ _ (sym at)) (or_left (n == n) (is_given past n) (same_number n))
  where
    some_is : (x y : Logged) → Some x ≡ Some y → x ≡ y
    some_is x y same = cc
given_at (e ∷ past) (suc k) n b v at = given_later e past n (given_at past k n b v at)
