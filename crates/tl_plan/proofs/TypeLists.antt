-- Where types stand in a list.
use Rattle.std.proofs.Common.{◌≡◌, ℕ, zero, suc, List, [], ◌∷◌, ◌++◌, length, slice_get, Some, None, Bool, true, false, ◌||◌, refl, ap, sym, ◌∙◌, true≢false, if◌then◌else◌}
use Rattle.tl_schema.specs.Types.{Shape}
use Rattle.tl_plan.specs.Types.{is_same, is_among, index_of}
use Rattle.tl_plan.proofs.SameTypes.{same_is, same_self}

pub some_is : {A : Type 0} (x y : A) → Some x ≡ Some y → x ≡ y
some_is x y e = cc

pub none_some : {A : Type 0} (x : A) → None ≡ Some x → ⊥
none_some x e = cc

-- by whether the test passes
pub by_test : {P : Type 0} → (b : Bool) → (b ≡ true → P) → (b ≡ false → P) → P
by_test true holds fails = holds refl
by_test false holds fails = fails refl

left_or : (a b : Bool) → a ≡ true → (a || b) ≡ true
left_or true b e = refl
left_or false b e = absurd (true≢false (sym e))

right_or : (a b : Bool) → b ≡ true → (a || b) ≡ true
right_or true b e = refl
right_or false b e = e

either_or : {P : Type 0} → (a b : Bool) → (a || b) ≡ true → (a ≡ true → P) → (a ≡ false → b ≡ true → P) → P
either_or true b e l r = l refl
either_or false b e l r = r refl e

neither_or : (a b : Bool) → (a || b) ≡ false → (a ≡ false) × (b ≡ false)
neither_or true b e = absurd (true≢false e)
neither_or false b e = (refl, e)

module _ (T : Shape) where
  pub among_more : (ts us : List Shape) → is_among T ts ≡ true → is_among T (ts ++ us) ≡ true
  among_more [] us e = absurd (true≢false (sym e))
  among_more (t ∷ ts) us e = either_or (is_same T t) (is_among T ts) e (λ here. left_or (is_same T t) (is_among T (ts ++ us)) here) (λ other later. right_or (is_same T t) (is_among T (ts ++ us)) (among_more ts us later))

  pub index_more : (ts us : List Shape) → is_among T ts ≡ true → index_of T (ts ++ us) ≡ index_of T ts
  index_more [] us e = absurd (true≢false (sym e))
  index_more (t ∷ ts) us e =
      either_or (is_same T t) (is_among T ts) e
      (λ here. rw here refl)
      (λ other later. rw other (ap suc (index_more ts us later)))

  pub among_here : (ts us : List Shape) → is_among T (ts ++ T ∷ us) ≡ true
  among_here [] us = left_or (is_same T T) (is_among T us) (same_self T)
  among_here (t ∷ ts) us = right_or (is_same T t) (is_among T (ts ++ T ∷ us)) (among_here ts us)

  pub index_new : (ts us : List Shape) → is_among T ts ≡ false → index_of T (ts ++ T ∷ us) ≡ length ts
  index_new [] us e = ap (λ b. if b then zero else suc (index_of T us)) (same_self T)
  index_new (t ∷ ts) us e = let p = neither_or (is_same T t) (is_among T ts) e in rw p.0 (ap suc (index_new ts us p.1))

  pub at_index : (ts : List Shape) → is_among T ts ≡ true → slice_get ts (index_of T ts) ≡ Some T
  at_index [] e = absurd (true≢false (sym e))
  at_index (t ∷ ts) e =
      either_or (is_same T t) (is_among T ts) e
      (λ here. rw here (ap Some (sym (same_is T t here))))
      (λ other later. rw other (at_index ts later))

  pub among_at : (ts : List Shape) (k : ℕ) → slice_get ts k ≡ Some T → is_among T ts ≡ true
  among_at [] k e = absurd (none_some T e)
  among_at (t ∷ ts) zero e = left_or (is_same T t) (is_among T ts) (ap (is_same T) (some_is t T e) ∙ same_self T)
  among_at (t ∷ ts) (suc k) e = right_or (is_same T t) (is_among T ts) (among_at ts k e)
