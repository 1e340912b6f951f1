-- The tokens from one place in their list up to another.
use Rattle.std.proofs.Common.{◌≡◌, ℕ, ◌+◌, ◌-◌, ◌<◌, ◌≤◌, List, [], ◌∷◌, ◌++◌, length, take, drop, get_or, drop-drop, length-drop, Option, Some, None, Ok, Err, sym, ◌∙◌, ap, arith}
use Rattle.std.specs.List.{fold}
use Rattle.std.proofs.lemmas.List.{take-append-drop, take_more, take-take, drop-take, get_or-drop}
use Rattle.std.proofs.lemmas.List.Sums.{fold_push}
use Rattle.tl_lexer.specs.Rule.{Rule, Parses, Refusal}
use Rattle.tl_combinators.specs.Taken.{taken}

module _ {T : Type 0} (ts : List T) where
  -- the part, and what stands after it
  part_rest : (a b : ℕ) → a ≤ b → drop a ts ≡ take (b - a) (drop a ts) ++ drop b ts
  part_rest a b h =
      let e : a + (b - a) ≡ b = omega arith in
      sym (take-append-drop (b - a) (drop a ts)) ∙ ap (λ us. take (b - a) (drop a ts) ++ us) (drop-drop (b - a) a ts ∙ ap (λ n. drop n ts) e)

  part_more : (a i : ℕ) (d : T) → a ≤ i → i < length ts → take (i + 1 - a) (drop a ts) ≡ take (i - a) (drop a ts) ++ (get_or ts i d ∷ [])
  part_more a i d h w =
      let e : i + 1 - a ≡ i - a + 1 = omega arith in
      let f : a + (i - a) ≡ i = omega arith in
      ap (λ n. take n (drop a ts)) e ∙ take_more (drop a ts) (i - a) d (omega (arith, length-drop a ts))
      ∙ ap (λ x. take (i - a) (drop a ts) ++ (x ∷ [])) (get_or-drop a ts (i - a) d ∙ ap (λ n. get_or ts n d) f)

  -- so many tokens of the part, and its others
  pub part_front : (a n b : ℕ) → a + n ≤ b → take n (take (b - a) (drop a ts)) ≡ take (a + n - a) (drop a ts)
  part_front a n b h =
      let e : n ≡ a + n - a = omega arith in
      take-take n (b - a) (drop a ts) (omega (arith, h)) ∙ ap (λ k. take k (drop a ts)) e

  pub part_back : (a n b : ℕ) → a + n ≤ b → drop n (take (b - a) (drop a ts)) ≡ take (b - (a + n)) (drop (a + n) ts)
  part_back a n b h =
      let e : b - a ≡ n + (b - (a + n)) = omega (arith, h) in
      ap (λ k. drop n (take k (drop a ts))) e ∙ drop-take n (b - (a + n)) (drop a ts) ∙ ap (take (b - (a + n))) (drop-drop n a ts)

-- ---- what is folded over the part

module _ {T B : Type 0} (f : B → T → B) (b : B) (ts : List T) where
  pub fold_more : (a i : ℕ) (d : T) (now next : B) → a ≤ i → i < length ts → now ≡ fold f b (take (i - a) (drop a ts)) → next ≡ f now (get_or ts i d) → next ≡ fold f b (take (i + 1 - a) (drop a ts))
  fold_more a i d now next h w p q =
      q ∙ ap (λ x. f x (get_or ts i d)) p ∙ sym (fold_push f b (take (i - a) (drop a ts)) (get_or ts i d)) ∙ ap (fold f b) (sym (part_more ts a i d h w))

-- ---- the tokens that a rule takes

taken_refusal : {T F A : Type 0} (r : Rule T F A) (ts : List T) (o : Option F) → Refusal r ts o → Refusal (taken r) ts o
unfolding taken
taken_refusal r ts None h = tt
taken_refusal r ts (Some fault) h = h

pub taken_ok : {T F A E X : Type 0} {k : E → Option F} {view : X → A} {r : Rule T F A} (ts : List T) (a b : ℕ) {x : X} → a ≤ b → Parses k view r (drop a ts) (drop b ts) (Ok x) → Parses k (λ y. (view y, take (b - a) (drop a ts))) (taken r) (drop a ts) (drop b ts) (Ok x)
unfolding taken
taken_ok ts a b h p = record { given = (p.given, part_rest ts a b h) }

pub taken_err : {T F A E X : Type 0} {k : E → Option F} {view : X → A} {r : Rule T F A} {ts rest : List T} {e : E} → Parses {X = X} k view r ts rest (Err e) → Parses {X = X} k (λ y. (view y, [])) (taken r) ts rest (Err e)
taken_err {k = k} {r = r} {ts = ts} {e = e} p = record { given = taken_refusal r ts (k e) p.given }
