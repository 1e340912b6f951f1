-- Types that are the same where another names their variables close it to one type.
use Rattle.std.proofs.Common.{◌≡◌, ℕ, zero, suc, ◌+◌, ◌<◌, ◌≤◌, List, [], ◌∷◌, ◌++◌, length, map, replicate, drop, get_or, set, Option, Some, Bool, true, false, ◌||◌, ◌==◌, refl, ap, ap₂, sym, ◌∙◌, subst, true≢false, add-one, drop-cons, arith}
use Rattle.std.proofs.lemmas.Bool.{or_left, or_right}
use Rattle.std.proofs.lemmas.Bool.Decides.{nat_tests}
use Rattle.std.proofs.lemmas.List.{get_or-set_other, length-set, map-set, map_push, drop_all, replicate-append-replicate}
use Rattle.tl_schema.specs.Types.{Shape, Shapes, no_shapes, shape, shapes_of}
use Rattle.tl_schema.specs.Types as type
use Rattle.tl_schema.specs.Closing.{closed, closed_each}
use Rattle.tl_schema.specs.Seen as seen
use Rattle.tl_schema.specs.declared.schema.TypeRef.{TypeRef}
use Rattle.tl_calls.specs.Results.{with_result}
use Rattle.tl_calls.specs.inner.Making.{AgreeOn, names, name_in}

same_number : (n : ℕ) → (n == n) ≡ true
same_number n = grind (arith, nat_tests)

-- ---- closing

module _ (Ts Us : List Shape) where
  mutual
    same_closed : (T : Shape) → ((k : ℕ) (d : Shape) → names k T ≡ true → get_or Ts k d ≡ get_or Us k d) → closed Ts T ≡ closed Us T
    same_closed type.int same = refl
    same_closed type.long same = refl
    same_closed type.nat same = refl
    same_closed (type.opaque n) same = refl
    same_closed type.str same = refl
    same_closed type.raw same = refl
    same_closed type.flag same = refl
    same_closed type.call same = refl
    same_closed (type.var i) same = same i (type.var i) (same_number i)
    same_closed (type.vector is_boxed T) same = ap (type.vector is_boxed) (same_closed T same)
    same_closed (type.boxed h args) same = ap (type.boxed h) (same_closed_each args same)
    same_closed (type.bare i args) same = ap (type.bare i) (same_closed_each args same)

    same_closed_each : (args : Shapes) → ((k : ℕ) (d : Shape) → name_in k args ≡ true → get_or Ts k d ≡ get_or Us k d) → closed_each Ts args ≡ closed_each Us args
    same_closed_each no_shapes same = refl
    same_closed_each (shape T args) same =
        ap₂ shape (same_closed T (λ k d n. same k d (or_left (names k T) (name_in k args) n))) (same_closed_each args (λ k d n. same k d (or_right (names k T) (name_in k args) n)))

pub agree_closed : (T : Shape) (Ts Us : List Shape) → AgreeOn T Ts Us → closed Ts T ≡ closed Us T
agree_closed T Ts Us agree = same_closed Ts Us T agree.each

-- ---- one more variable

both_set : (Ts Us : List Shape) (i : ℕ) (T U : Shape) (k : ℕ) (d : Shape) → length Ts ≡ length Us → T ≡ U → get_or Ts k d ≡ get_or Us k d → get_or (set Ts i T) k d ≡ get_or (set Us i U) k d
both_set [] [] i T U k d count same e = e
both_set [] (V ∷ Us) i T U k d count same e = absurd (omega (arith, count))
both_set (V ∷ Ts) [] i T U k d count same e = absurd (omega (arith, count))
both_set (V ∷ Ts) (W ∷ Us) zero T U zero d count same e = same
both_set (V ∷ Ts) (W ∷ Us) zero T U (suc k) d count same e = e
both_set (V ∷ Ts) (W ∷ Us) (suc i) T U zero d count same e = e
both_set (V ∷ Ts) (W ∷ Us) (suc i) T U (suc k) d count same e = both_set Ts Us i T U k d (omega (arith, count)) same e

module _ (T : Shape) (Ts Us : List Shape) (i : ℕ) (agree : AgreeOn T Ts Us) where
  -- a variable that the type names
  pub agree_named : (U V : Shape) → U ≡ V → AgreeOn T (set Ts i U) (set Us i V)
  agree_named U V same = record {
    count = length-set Ts i U ∙ agree.count ∙ sym (length-set Us i V);
    each = λ k d n. both_set Ts Us i U V k d agree.count same (agree.each k d n);
  }

  -- another variable
  pub agree_other : (V : Shape) → names i T ≡ false → AgreeOn T Ts (set Us i V)
  agree_other V other = record {
    count = agree.count ∙ sym (length-set Us i V);
    each = λ k d n. agree.each k d n ∙ sym (get_or-set_other Us i k V d (λ e. true≢false (sym n ∙ ap (λ (j : ℕ). names j T) e ∙ other)));
  }

-- a type in its place
pub shapes_set : (items new : List TypeRef) (i : ℕ) (t : TypeRef) (T : Shape) → new ≡ set items i t → seen.shape t ≡ T → map seen.shape new ≡ set (map seen.shape items) i T
shapes_set items new i t T is same = ap (map seen.shape) is ∙ map-set seen.shape items i t ∙ ap (set (map seen.shape items) i) same

pub agree_same : (T : Shape) (Ts Us : List Shape) → Ts ≡ Us → AgreeOn T Ts Us
agree_same T Ts Us same = record { count = ap length same; each = λ k d n. ap (λ (Vs : List Shape). get_or Vs k d) same }

-- so many calls of any function
pub one_call_more : (ts : List TypeRef) (n : ℕ) (t : TypeRef) → map seen.shape ts ≡ replicate n type.call → seen.shape t ≡ type.call → map seen.shape (ts ++ t ∷ []) ≡ replicate (n + 1) type.call
one_call_more ts n t before is =
    map_push seen.shape ts t ∙ ap₂ (λ (Ts : List Shape) (T : Shape). Ts ++ T ∷ []) before is ∙ replicate-append-replicate n 1 type.call

-- ---- a field

module _ (S : Shape) (o : Option ℕ) (i : ℕ) (is : o ≡ Some i) (T : Shape) (Ts : List Shape) (old : List TypeRef) (agree : AgreeOn S (map seen.shape old) Ts) where
  pub agree_made : (new : List TypeRef) (t : TypeRef) → new ≡ set old i t → seen.shape t ≡ T → AgreeOn S (map seen.shape new) (with_result o T Ts)
  agree_made new t put same =
      subst (λ (p : Option ℕ). AgreeOn S (map seen.shape new) (with_result p T Ts)) (sym is)
      (subst (λ (Us : List Shape). AgreeOn S Us (set Ts i T)) (sym (shapes_set old new i t T put same)) (agree_named S (map seen.shape old) Ts i agree T T refl))

  pub agree_left : names i S ≡ false → AgreeOn S (map seen.shape old) (with_result o T Ts)
  agree_left other = subst (λ (p : Option ℕ). AgreeOn S (map seen.shape old) (with_result p T Ts)) (sym is) (agree_other S (map seen.shape old) Ts i agree T other)

-- ---- whether one of several names the variable

module _ (k : ℕ) (ts : List TypeRef) (t : TypeRef) (i : ℕ) (within : i < length ts) (at : t ≡ get_or ts i t) where
  named_step : name_in k (shapes_of (map seen.shape (drop i ts))) ≡ (names k (seen.shape t) || name_in k (shapes_of (map seen.shape (drop (i + 1) ts))))
  named_step = rw (add-one i, drop-cons ts i t within, ← at) refl

  module _ (before : name_in k (shapes_of (map seen.shape ts)) ≡ name_in k (shapes_of (map seen.shape (drop i ts)))) where
    pub names_here : names k (seen.shape t) ≡ true → name_in k (shapes_of (map seen.shape ts)) ≡ true
    names_here e = before ∙ named_step ∙ or_left (names k (seen.shape t)) (name_in k (shapes_of (map seen.shape (drop (i + 1) ts)))) e

    pub names_later : names k (seen.shape t) ≡ false → name_in k (shapes_of (map seen.shape ts)) ≡ name_in k (shapes_of (map seen.shape (drop (i + 1) ts)))
    names_later e = before ∙ named_step ∙ ap (λ (b : Bool). b || name_in k (shapes_of (map seen.shape (drop (i + 1) ts)))) e

pub names_none : (k : ℕ) (ts : List TypeRef) (i : ℕ) → length ts ≤ i → name_in k (shapes_of (map seen.shape ts)) ≡ name_in k (shapes_of (map seen.shape (drop i ts))) → name_in k (shapes_of (map seen.shape ts)) ≡ false
names_none k ts i past before = before ∙ ap (λ (us : List TypeRef). name_in k (shapes_of (map seen.shape us))) (drop_all i ts past)
