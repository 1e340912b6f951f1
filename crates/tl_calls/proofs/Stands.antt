-- Sending and answering lead from each log that the calls stand for to the next.
use Rattle.std.proofs.Common.{◌≡◌, ℕ, zero, suc, ◌+◌, ◌<◌, List, [], ◌∷◌, ◌++◌, length, length-append, slice_get, cond, Option, Some, None, Bool, true, false, not, ◌||◌, ◌==◌, true≢false, refl, ap, ap₂, sym, ◌∙◌, subst, arith}
use Rattle.std.specs.List.{filter}
use Rattle.std.specs.Map.{lookup, remove_entry}
use Rattle.std.proofs.lemmas.Bool.Decides.{nat_tests}
use Rattle.std.proofs.lemmas.List.Elements.{filter-append}
use Rattle.tl_schema.specs.Schemas.{Declared}
use Rattle.tl_types.specs.Values.{ValueView}
use Rattle.tl_calls.specs.Events.{sent, came, Log, sent_in, call_in, is_given, IsOpen, IsAnswer, Gives, Given, numbered, open_in}
use Rattle.tl_calls.specs.Calling.{CallsView, StandsFor, is_number, open_at, with_call, without_call}
use Rattle.tl_calls.proofs.Sent.{call_later, get_past}

some_is : {X : Type 0} (x y : X) → Some x ≡ Some y → x ≡ y
some_is x y same = cc

none_some : {X : Type 0} (x : X) → None ≡ Some x → ⊥
none_some x same = cc

or_false : (a b : Bool) → a ≡ false → b ≡ false → (a || b) ≡ false
or_false false b e f = f
or_false true b e f = cc

is_same : (m n : ℕ) → (m == n) ≡ true → m ≡ n
is_same m n e = grind (arith, nat_tests)

number_is : (n m : ℕ) → n ≡ m → is_number n m ≡ true
number_is n m e = grind (arith, nat_tests)

number_apart : (n m : ℕ) → m < n → is_number n m ≡ false
number_apart n m below = grind (arith, nat_tests)

number_of : (n m : ℕ) → is_number n m ≡ true → n ≡ m
number_of n m e = grind (arith, nat_tests)

-- ---- numbers that were given are those of calls that were sent

not_given : (schema : Declared) (past : Log) (n : ℕ) → Given schema past → call_in past n ≡ None → is_given past n ≡ false
not_given schema [] n g none = refl
not_given schema ((sent v, given) ∷ past) n g none = not_given schema past n g.1 (before (call_in past n) refl)
  where
    before : (o : Option ValueView) → call_in past n ≡ o → call_in past n ≡ None
    before None e = e
    before (Some c) e = absurd (none_some c (sym none ∙ call_later (sent v, given) past n c e))
not_given schema ((came m b, None) ∷ past) n g none = not_given schema past n g.1 (before (call_in past n) refl)
  where
    before : (o : Option ValueView) → call_in past n ≡ o → call_in past n ≡ None
    before None e = e
    before (Some c) e = absurd (none_some c (sym none ∙ call_later (came m b, None) past n c e))
not_given schema ((came m b, Some v) ∷ past) n g none = or_false (m == n) (is_given past n) (apart (m == n) refl) (not_given schema past n g.1 (before (call_in past n) refl))
  where
    before : (o : Option ValueView) → call_in past n ≡ o → call_in past n ≡ None
    before None e = e
    before (Some c) e = absurd (none_some c (sym none ∙ call_later (came m b, Some v) past n c e))

    apart : (t : Bool) → (m == n) ≡ t → (m == n) ≡ false
    apart false e = e
    apart true e = absurd (none_some g.0.0 (sym none ∙ call_later (came m b, Some v) past n g.0.0 (subst (λ (k : ℕ). call_in past k ≡ Some g.0.0) (is_same m n e) g.0.1.sent)))

-- ---- a call is sent

numbered_snoc : (n : ℕ) (xs : List ValueView) (x : ValueView) → numbered n (xs ++ x ∷ []) ≡ numbered n xs ++ (n + length xs, x) ∷ []
numbered_snoc n [] x = ap (λ (k : ℕ). (k, x) ∷ []) (omega arith)
numbered_snoc n (y ∷ xs) x =
    ap (λ (ps : List (ℕ × ValueView)). (n, y) ∷ ps) (numbered_snoc (suc n) xs x ∙ ap (λ (k : ℕ). numbered (suc n) xs ++ (k, x) ∷ []) (later (length xs)))
  where
    later : (k : ℕ) → suc n + k ≡ n + suc k
    later k = omega arith

numbered_next : (xs : List ValueView) (x : ValueView) → numbered 1 (xs ++ x ∷ []) ≡ numbered 1 xs ++ (suc (length xs), x) ∷ []
numbered_next xs x = numbered_snoc 1 xs x ∙ ap (λ (k : ℕ). numbered 1 xs ++ (k, x) ∷ []) (next (length xs))
  where
    next : (k : ℕ) → 1 + k ≡ suc k
    next k = omega arith

one_left : (t : Bool) (p : ℕ × ValueView) → t ≡ true → cond t (p ∷ []) [] ≡ p ∷ []
one_left t p e = ap (λ (b : Bool). cond b (p ∷ []) []) e

pub sent_stands : (schema : Declared) (c : CallsView) (past : Log) (v : ValueView) → StandsFor schema c past → StandsFor schema (with_call v c) ((sent v, None) ∷ past)
sent_stands schema c past v s = record {
  given = (refl, s.given);
  next = ap suc (s.next ∙ sym (length-append (sent_in past) (v ∷ []) ∙ one (length (sent_in past))));
  calls = ap₂ (λ (ps : List (ℕ × ValueView)) (n : ℕ). ps ++ (n, v) ∷ []) s.calls s.next ∙ sym opened;
}
  where
    one : (n : ℕ) → n + 1 ≡ suc n
    one n = omega arith

    left : ℕ × ValueView → Bool
    left p = not (is_given past p.0)

    new : is_given past (suc (length (sent_in past))) ≡ false
    new = not_given schema past (suc (length (sent_in past))) s.given (get_past (sent_in past) (length (sent_in past)) (omega arith))

    opened : filter (λ p. not (is_given past p.0)) (numbered 1 (sent_in past ++ v ∷ [])) ≡ open_in past ++ (suc (length (sent_in past)), v) ∷ []
    opened =
        ap (filter (λ p. not (is_given past p.0))) (numbered_next (sent_in past) v)
        ∙ filter-append (λ p. not (is_given past p.0)) (numbered 1 (sent_in past)) ((suc (length (sent_in past)), v) ∷ [])
        ∙ ap (λ (ps : List (ℕ × ValueView)). open_in past ++ ps) (one_left (not (is_given past (suc (length (sent_in past))))) (suc (length (sent_in past)), v) (ap not new))

-- ---- an answer that gives nothing

pub came_stands : (schema : Declared) (c : CallsView) (past : Log) (n : ℕ) (b : List ℕ) → Gives schema past (came n b) None → StandsFor schema c past → StandsFor schema c ((came n b, None) ∷ past)
came_stands schema c past n b none s = record { given = (none, s.given); next = s.next; calls = s.calls }

-- ---- the open calls by their numbers

-- by number, of values that are numbered from m on
numbered_at : (m n : ℕ) (vs : List ValueView) (k : ℕ) (c : ValueView) → slice_get vs k ≡ Some c → n ≡ m + k → lookup (is_number n) (numbered m vs) ≡ Some c
numbered_at m n [] k c at is = absurd (none_some c at)
numbered_at m n (v ∷ vs) zero c at is = ap (λ (t : Bool). cond t (Some v) (lookup (is_number n) (numbered (suc m) vs))) (number_is n m (omega (arith, is))) ∙ at
numbered_at m n (v ∷ vs) (suc k) c at is =
    ap (λ (t : Bool). cond t (Some v) (lookup (is_number n) (numbered (suc m) vs))) (number_apart n m (omega (arith, is))) ∙ numbered_at (suc m) n vs k c at (omega (arith, is))

-- entries that pass a test of their numbers are found as before
kept_at : (test : ℕ → Bool) (n : ℕ) (ps : List (ℕ × ValueView)) → test n ≡ true → lookup (is_number n) (filter (λ p. test p.0) ps) ≡ lookup (is_number n) ps
kept_at test n [] pass = refl
kept_at test n (p ∷ ps) pass = by (is_number n p.0) refl (test p.0) refl (filter (λ (q : ℕ × ValueView). test q.0) ps) (kept_at test n ps pass)
  where
    by : (s : Bool) → is_number n p.0 ≡ s → (t : Bool) → test p.0 ≡ t → (qs : List (ℕ × ValueView)) → lookup (is_number n) qs ≡ lookup (is_number n) ps
        → lookup (is_number n) (cond (test p.0) (p ∷ qs) qs) ≡ cond (is_number n p.0) (Some p.1) (lookup (is_number n) ps)
    by s e true f qs rest = ap (λ (b : Bool). lookup (is_number n) (cond b (p ∷ qs) qs)) f ∙ ap (cond (is_number n p.0) (Some p.1)) rest
    by true e false f qs rest = absurd (true≢false (sym pass ∙ ap test (number_of n p.0 e) ∙ f))
    by false e false f qs rest = ap (λ (b : Bool). lookup (is_number n) (cond b (p ∷ qs) qs)) f ∙ rest ∙ sym (ap (λ (b : Bool). cond b (Some p.1) (lookup (is_number n) ps)) e)

-- a call that is open is found under its number
pub open_found : (schema : Declared) (c : CallsView) (past : Log) (n : ℕ) (v : ValueView) → StandsFor schema c past → IsOpen past n v → open_at c n ≡ Some v
open_found schema c past zero v s o = absurd (none_some v o.sent)
open_found schema c past (suc k) v s o =
    ap (lookup (is_number (suc k))) s.calls ∙ kept_at (λ (m : ℕ). not (is_given past m)) (suc k) (numbered 1 (sent_in past)) (ap not o.left)
    ∙ numbered_at 1 (suc k) (sent_in past) k v o.sent (omega arith)

-- ---- an answer that gives a value

-- of numbers above n the test of n changes nothing
filter_above : (g : ℕ → Bool) (n m : ℕ) (vs : List ValueView) → n < m → filter (λ (p : ℕ × ValueView). not ((n == p.0) || g p.0)) (numbered m vs) ≡ filter (λ (p : ℕ × ValueView). not (g p.0)) (numbered m vs)
filter_above g n m [] below = refl
filter_above g n m (v ∷ vs) below =
    ap₂ (λ (b : Bool) (rest : List (ℕ × ValueView)). cond b ((m, v) ∷ rest) rest) (ap (λ (t : Bool). not (t || g m)) (other n m below)) (filter_above g n (suc m) vs (omega (arith, below)))
  where
    other : (a b : ℕ) → a < b → (a == b) ≡ false
    other a b less = grind (arith, nat_tests)

closed_at : (g : ℕ → Bool) (n m : ℕ) (vs : List ValueView) → g n ≡ false
    → remove_entry (is_number n) (filter (λ (p : ℕ × ValueView). not (g p.0)) (numbered m vs)) ≡ filter (λ (p : ℕ × ValueView). not ((n == p.0) || g p.0)) (numbered m vs)
closed_at g n m [] left = refl
closed_at g n m (v ∷ vs) left =
    by (n == m) refl (same n m) (g m) refl (filter (λ (p : ℕ × ValueView). not (g p.0)) (numbered (suc m) vs)) (filter (λ (p : ℕ × ValueView). not ((n == p.0) || g p.0)) (numbered (suc m) vs))
    (closed_at g n (suc m) vs left) (λ e. filter_above g n (suc m) vs (omega (arith, is_same n m e)))
  where
    same : (a b : ℕ) → is_number a b ≡ (a == b)
    same a b = grind (arith, nat_tests)

    by : (t : Bool) → (n == m) ≡ t → is_number n m ≡ (n == m) → (u : Bool) → g m ≡ u → (old new : List (ℕ × ValueView)) → remove_entry (is_number n) old ≡ new → ((n == m) ≡ true → new ≡ old)
        → remove_entry (is_number n) (cond (not (g m)) ((m, v) ∷ old) old) ≡ cond (not ((n == m) || g m)) ((m, v) ∷ new) new
    by true e s true f old new rest all = absurd (true≢false (sym f ∙ ap g (sym (is_same n m e)) ∙ left))
    by true e s false f old new rest all =
        ap (λ (b : Bool). remove_entry (is_number n) (cond (not b) ((m, v) ∷ old) old)) f
        ∙ ap (λ (b : Bool). cond b old ((m, v) ∷ remove_entry (is_number n) old)) (s ∙ e) ∙ sym (all e)
        ∙ sym (ap (λ (b : Bool). cond (not (b || g m)) ((m, v) ∷ new) new) e)
    by false e s true f old new rest all =
        ap (λ (b : Bool). remove_entry (is_number n) (cond (not b) ((m, v) ∷ old) old)) f ∙ rest
        ∙ sym (ap₂ (λ (a b : Bool). cond (not (a || b)) ((m, v) ∷ new) new) e f)
    by false e s false f old new rest all =
        ap (λ (b : Bool). remove_entry (is_number n) (cond (not b) ((m, v) ∷ old) old)) f
        ∙ ap (λ (b : Bool). cond b old ((m, v) ∷ remove_entry (is_number n) old)) (s ∙ e) ∙ ap (λ (ps : List (ℕ × ValueView)). (m, v) ∷ ps) rest
        ∙ sym (ap₂ (λ (a b : Bool). cond (not (a || b)) ((m, v) ∷ new) new) e f)

pub gave_stands : (schema : Declared) (c : CallsView) (past : Log) (n : ℕ) (b : List ℕ) (call v : ValueView) → IsOpen past n call → IsAnswer schema call b v → StandsFor schema c past
    → StandsFor schema (without_call n c) ((came n b, Some v) ∷ past)
gave_stands schema c past n b asked v here answer s = record {
  given = ((asked, here, answer), s.given);
  next = s.next;
  calls = ap (remove_entry (is_number n)) s.calls ∙ closed_at (is_given past) n 1 (sent_in past) here.left;
}

-- ---- no call is found but an open one

found_at : (m n : ℕ) (vs : List ValueView) (c : ValueView) → lookup (is_number n) (numbered m vs) ≡ Some c → (k : ℕ) × (n ≡ m + k) × (slice_get vs k ≡ Some c)
found_at m n [] c at = absurd (none_some c at)
found_at m n (v ∷ vs) c at = by (is_number n m) refl (found_at (suc m) n vs c)
  where
    by : (t : Bool) → is_number n m ≡ t → (lookup (is_number n) (numbered (suc m) vs) ≡ Some c → (k : ℕ) × (n ≡ suc m + k) × (slice_get vs k ≡ Some c)) → (k : ℕ) × (n ≡ m + k) × (slice_get (v ∷ vs) k ≡ Some c)
    by true e rest = (0, (let same = number_of n m e in omega (arith, same)), sym (ap (λ (b : Bool). cond b (Some v) (lookup (is_number n) (numbered (suc m) vs))) e) ∙ at)
    by false e rest =
        let r = rest (sym (ap (λ (b : Bool). cond b (Some v) (lookup (is_number n) (numbered (suc m) vs))) e) ∙ at) in
        (suc r.0, (let is = r.1 in omega (arith, is)), r.2)

-- what is found of the entries that pass a test of their numbers passes it
passes_at : (test : ℕ → Bool) (n : ℕ) (ps : List (ℕ × ValueView)) (c : ValueView) → lookup (is_number n) (filter (λ p. test p.0) ps) ≡ Some c → test n ≡ true
passes_at test n [] c at = absurd (none_some c at)
passes_at test n (p ∷ ps) c at = by (test p.0) refl (is_number n p.0) refl (filter (λ (q : ℕ × ValueView). test q.0) ps) at (passes_at test n ps c)
  where
    by : (t : Bool) → test p.0 ≡ t → (s : Bool) → is_number n p.0 ≡ s → (qs : List (ℕ × ValueView)) → lookup (is_number n) (cond (test p.0) (p ∷ qs) qs) ≡ Some c → (lookup (is_number n) qs ≡ Some c → test n ≡ true) → test n ≡ true
    by false f s e qs is rest = rest (sym (ap (λ (b : Bool). lookup (is_number n) (cond b (p ∷ qs) qs)) f) ∙ is)
    by true f true e qs is rest = ap test (number_of n p.0 e) ∙ f
    by true f false e qs is rest =
        rest (sym (ap (λ (b : Bool). lookup (is_number n) (cond b (p ∷ qs) qs)) f ∙ ap (λ (b : Bool). cond b (Some p.1) (lookup (is_number n) qs)) e) ∙ is)

not_true : (b : Bool) → not b ≡ true → b ≡ false
not_true true e = sym e
not_true false e = refl

pub found_open : (schema : Declared) (c : CallsView) (past : Log) (n : ℕ) (v : ValueView) → StandsFor schema c past → open_at c n ≡ Some v → IsOpen past n v
found_open schema c past n v s at =
    let here : lookup (is_number n) (open_in past) ≡ Some v = sym (ap (lookup (is_number n)) s.calls) ∙ at in
    let pass = passes_at (λ (m : ℕ). not (is_given past m)) n (numbered 1 (sent_in past)) v here in
    let k = found_at 1 n (sent_in past) v (sym (kept_at (λ (m : ℕ). not (is_given past m)) n (numbered 1 (sent_in past)) pass) ∙ here) in record {
      sent = ap (call_in past) (k.1 ∙ one k.0) ∙ k.2;
      left = not_true (is_given past n) pass;
    }
  where
    one : (j : ℕ) → 1 + j ≡ suc j
    one j = omega arith
