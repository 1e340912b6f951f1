-- The events after a number.
use Rattle.std.proofs.Common.{◌≡◌, ℕ, zero, suc, ◌+◌, ◌-◌, ◌≤◌, List, [], ◌∷◌, ◌++◌, Bool, true, false, Option, Some, None, leb, if◌then◌else◌, refl, ap, ◌∙◌, arith}
use Rattle.std.proofs.lemmas.Bool.Decides.{nat_tests}
use Rattle.box_events.specs.Events.{EventView, count_of}
use Rattle.box_events.specs.Boxes.{ending, IsBoundary, AreCounted}
use Rattle.box_server.specs.Runs.{events_after}

after_step : (e : EventView) (es : List EventView) (n : ℕ) → 1 ≤ n → events_after (e ∷ es) n ≡ if leb (count_of e) n then events_after es (n - count_of e) else None
after_step e es zero le = absurd (omega (arith, le))
after_step e es (suc p) le = refl

pub is_le : (a b : ℕ) → a ≤ b → leb a b ≡ true
is_le a b le = grind (arith, nat_tests)

pub le_is : (a b : ℕ) → leb a b ≡ true → a ≤ b
le_is a b e = grind (arith, nat_tests)

-- after a prefix come the others
pub after_prefix : (prefix rest : List EventView) → AreCounted prefix → events_after (prefix ++ rest) (ending prefix) ≡ Some rest
after_prefix [] rest c = refl
after_prefix (f ∷ fs) rest c =
    let some : 1 ≤ count_of f = c.0 in
    let less : count_of f ≤ count_of f + ending fs = omega arith in
    let past : (count_of f + ending fs) - count_of f ≡ ending fs = omega arith in
    after_step f (fs ++ rest) (count_of f + ending fs) (omega (arith, some))
    ∙ ap (λ (b : Bool). if b then events_after (fs ++ rest) ((count_of f + ending fs) - count_of f) else None) (is_le (count_of f) (count_of f + ending fs) less)
    ∙ ap (events_after (fs ++ rest)) past
    ∙ after_prefix fs rest c.1

some_same : {A : Type 0} (x y : A) → Some x ≡ Some y → x ≡ y
some_same x y e = cc

pub none_some : {A : Type 0} (x : A) → None ≡ Some x → ⊥
none_some x e = cc

-- a prefix that ends at a number, and what comes after it
pub record IsAfter (es : List EventView) (p : ℕ) (xs : List EventView) : Type 0 where
  pub prefix : List EventView
  pub whole : es ≡ prefix ++ xs
  pub stop : ending prefix ≡ p

step_back : (e : EventView) (es : List EventView) (p : ℕ) (xs : List EventView) (b : Bool) → leb (count_of e) (suc p) ≡ b → (if b then events_after es (suc p - count_of e) else None) ≡ Some xs
    → (events_after es (suc p - count_of e) ≡ Some xs → IsAfter es (suc p - count_of e) xs) → IsAfter (e ∷ es) (suc p) xs
step_back e es p xs false t is more = absurd (none_some xs is)
step_back e es p xs true t is more =
    let r = more is in
    let le = le_is (count_of e) (suc p) t in
    record { prefix = e ∷ r.prefix; whole = ap (λ (l : List EventView). e ∷ l) r.whole; stop = omega (arith, r.stop, le) }

pub prefix_before : (es : List EventView) (p : ℕ) (xs : List EventView) → events_after es p ≡ Some xs → IsAfter es p xs
prefix_before [] zero xs is = record { prefix = []; whole = some_same [] xs is; stop = refl }
prefix_before (e ∷ es) zero xs is = record { prefix = []; whole = some_same (e ∷ es) xs is; stop = refl }
prefix_before [] (suc p) xs is = absurd (none_some xs is)
prefix_before (e ∷ es) (suc p) xs is = step_back e es p xs (leb (count_of e) (suc p)) refl is (prefix_before es (suc p - count_of e) xs)

-- no events come after what is no boundary
pub none_after : (es : List EventView) (p : ℕ) → (IsBoundary es p → ⊥) → events_after es p ≡ None
none_after es p none = elim (events_after es p) as (λ (o : Option (List EventView)). events_after es p ≡ o → events_after es p ≡ None) [
  | None ↦ λ is. is
  | Some xs ↦ λ is. let r = prefix_before es p xs is in absurd (none (record { prefix = r.prefix; rest = xs; whole = r.whole; stop = r.stop }))
] refl
