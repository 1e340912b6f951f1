-- A rule reads a row in one way, or refuses it for one fault.
use Rattle.std.proofs.Common.{◌≡◌, ℕ, List, [], ◌∷◌, sym, ◌∙◌, subst, inl, inr}
use Rattle.tl_lexer.specs.Rule.{Rule, gives, fails, here, one, Next, chain, choice, loop, Turns}

pub record Sure {T F A : Type 0} (r : Rule T F A) : Type 0 where
  pub same : (ts rest more : List T) (x y : A) → r.reads ts x rest → r.reads ts y more → (x ≡ y) × (rest ≡ more)
  pub apart : (ts rest : List T) (x : A) (f : F) → r.reads ts x rest → r.refused ts f → ⊥
  pub fault : (ts : List T) (f g : F) → r.refused ts f → r.refused ts g → f ≡ g

pub sure_gives : {T F A : Type 0} (a : A) → Sure {T = T} {F = F} (gives a)
unfolding gives
sure_gives a = record { same = λ ts rest more x y p q. (p.0 ∙ sym q.0, p.1 ∙ sym q.1); apart = λ ts rest x f p q. q; fault = λ ts f g p q. absurd p }

pub sure_fails : {T F A : Type 0} (fault_at : List T → F) → Sure {A = A} (fails fault_at)
unfolding fails
sure_fails fault_at = record { same = λ ts rest more x y p q. absurd p; apart = λ ts rest x f p q. p; fault = λ ts f g p q. p ∙ sym q }

-- ---- tokens

heads : {T : Type 0} {t u : T} {a b : List T} → t ∷ a ≡ u ∷ b → (t ≡ u) × (a ≡ b)
heads e = (cc, cc)

pub sure_one : {T F : Type 0} (fault_at : List T → F) (P : T → Type 0) → Sure (one fault_at P)
unfolding one
sure_one fault_at P = record {
  same = λ ts rest more x y p q. heads (sym p.0 ∙ q.0);
  apart = λ ts rest x f p q. q.0 (subst (Next P) (sym p.0) p.1);
  fault = λ ts f g p q. p.1 ∙ sym q.1;
}

pub sure_here : {T F : Type 0} (place : List T → ℕ) → Sure {F = F} (here place)
unfolding here
sure_here place = record { same = λ ts rest more x y p q. (p.0 ∙ sym q.0, p.1 ∙ sym q.1); apart = λ ts rest x f p q. q; fault = λ ts f g p q. absurd p }

-- ---- rows and choices

module _ {T F A B : Type 0} (r : Rule T F A) (s : A → Rule T F B) (one : Sure r) (two : (x : A) → Sure (s x)) where
  chain_same : (ts rest more : List T) (y z : B) (x x' : A) (mid mid' : List T) → r.reads ts x mid → (s x).reads mid y rest → r.reads ts x' mid' → (s x').reads mid' z more → (y ≡ z) × (rest ≡ more)
  chain_same ts rest more y z x x' mid mid' p q p' q' =
      let e = one.same ts mid mid' x x' p p' in
      (two x).same mid rest more y z q (subst (λ (w : A). (s w).reads mid z more) (sym e.0) (subst (λ (m : List T). (s x').reads m z more) (sym e.1) q'))

  chain_apart : (ts rest : List T) (y : B) (f : F) (x x' : A) (mid mid' : List T) → r.reads ts x mid → (s x).reads mid y rest → r.reads ts x' mid' → (s x').refused mid' f → ⊥
  chain_apart ts rest y f x x' mid mid' p q p' q' =
      let e = one.same ts mid mid' x x' p p' in
      (two x).apart mid rest y f q (subst (λ (w : A). (s w).refused mid f) (sym e.0) (subst (λ (m : List T). (s x').refused m f) (sym e.1) q'))

  chain_fault : (ts : List T) (f g : F) (x x' : A) (mid mid' : List T) → r.reads ts x mid → (s x).refused mid f → r.reads ts x' mid' → (s x').refused mid' g → f ≡ g
  chain_fault ts f g x x' mid mid' p q p' q' =
      let e = one.same ts mid mid' x x' p p' in
      (two x).fault mid f g q (subst (λ (w : A). (s w).refused mid g) (sym e.0) (subst (λ (m : List T). (s x').refused m g) (sym e.1) q'))

  apart_of : (ts rest : List T) (y : B) (f : F) → (chain r s).reads ts y rest → (chain r s).refused ts f → ⊥
  unfolding chain
  apart_of ts rest y f (x, mid, p, q) (inl n) = one.apart ts mid x f p n
  apart_of ts rest y f (x, mid, p, q) (inr (x', mid', p', q')) = chain_apart ts rest y f x x' mid mid' p q p' q'

  fault_of : (ts : List T) (f g : F) → (chain r s).refused ts f → (chain r s).refused ts g → f ≡ g
  unfolding chain
  fault_of ts f g (inl p) (inl q) = one.fault ts f g p q
  fault_of ts f g (inl p) (inr (x, mid, q, n)) = absurd (one.apart ts mid x f q p)
  fault_of ts f g (inr (x, mid, q, n)) (inl p) = absurd (one.apart ts mid x g q p)
  fault_of ts f g (inr (x, mid, p, q)) (inr (x', mid', p', q')) = chain_fault ts f g x x' mid mid' p q p' q'

  pub sure_chain : Sure (chain r s)
  unfolding chain
  sure_chain = record {
    same = λ ts rest more y z p q. chain_same ts rest more y z p.0 q.0 p.1 q.1 p.2 p.3 q.2 q.3;
    apart = apart_of;
    fault = fault_of;
  }

module _ {T F A : Type 0} (P : List T → Type 0) (r s : Rule T F A) (one : Sure r) (two : Sure s) where
  choice_same : (ts rest more : List T) (y z : A) → (choice P r s).reads ts y rest → (choice P r s).reads ts z more → (y ≡ z) × (rest ≡ more)
  unfolding choice
  choice_same ts rest more y z (inl p) (inl q) = one.same ts rest more y z p.1 q.1
  choice_same ts rest more y z (inl p) (inr q) = absurd (q.0 p.0)
  choice_same ts rest more y z (inr p) (inl q) = absurd (p.0 q.0)
  choice_same ts rest more y z (inr p) (inr q) = two.same ts rest more y z p.1 q.1

  choice_apart : (ts rest : List T) (y : A) (f : F) → (choice P r s).reads ts y rest → (choice P r s).refused ts f → ⊥
  unfolding choice
  choice_apart ts rest y f (inl p) (inl q) = one.apart ts rest y f p.1 q.1
  choice_apart ts rest y f (inl p) (inr q) = q.0 p.0
  choice_apart ts rest y f (inr p) (inl q) = p.0 q.0
  choice_apart ts rest y f (inr p) (inr q) = two.apart ts rest y f p.1 q.1

  choice_fault : (ts : List T) (f g : F) → (choice P r s).refused ts f → (choice P r s).refused ts g → f ≡ g
  unfolding choice
  choice_fault ts f g (inl p) (inl q) = one.fault ts f g p.1 q.1
  choice_fault ts f g (inl p) (inr q) = absurd (q.0 p.0)
  choice_fault ts f g (inr p) (inl q) = absurd (p.0 q.0)
  choice_fault ts f g (inr p) (inr q) = two.fault ts f g p.1 q.1

  pub sure_choice : Sure (choice P r s)
  sure_choice = record { same = choice_same; apart = choice_apart; fault = choice_fault }

-- ---- loops

module _ {T F S : Type 0} (P : List T → Type 0) (r : S → Rule T F S) (one : (s : S) → Sure (r s)) where
  turns_same : (s : S) (ts mid end : List T) (xs ys : List S) (a b : S) → Turns P r s ts xs a mid → (P mid → ⊥) → Turns P r s ts ys b end → (P end → ⊥) → (a ≡ b) × (mid ≡ end)
  turns_same s ts mid end [] [] a b e n d m = (e.0 ∙ sym d.0, e.1 ∙ sym d.1)
  turns_same s ts mid end [] (y ∷ ys) a b e n (p, next, h, d) m = absurd (n (subst P (sym e.1) p))
  turns_same s ts mid end (x ∷ xs) [] a b (p, next, h, d) n e m = absurd (m (subst P (sym e.1) p))
  turns_same s ts mid end (x ∷ xs) (y ∷ ys) a b (p, next, h, d) n (q, after, k, e) m =
      let g = (one s).same ts next after x y h k in
      turns_same x next mid end xs ys a b d n (subst (λ (w : S). Turns P r w next ys b end) (sym g.0) (subst (λ (z : List T). Turns P r y z ys b end) (sym g.1) e)) m

  turns_apart : (s : S) (ts mid end : List T) (xs ys : List S) (a b : S) (f : F) → Turns P r s ts xs a mid → (P mid → ⊥) → Turns P r s ts ys b end → P end → (r b).refused end f → ⊥
  turns_apart s ts mid end [] [] a b f e n d p g = n (subst P (d.1 ∙ sym e.1) p)
  turns_apart s ts mid end [] (y ∷ ys) a b f e n (p, next, h, d) q g = n (subst P (sym e.1) p)
  turns_apart s ts mid end (x ∷ xs) [] a b f (p, next, h, d) n e q g = (one s).apart ts next x f h (subst (λ (w : S). (r w).refused ts f) e.0 (subst (λ (z : List T). (r b).refused z f) e.1 g))
  turns_apart s ts mid end (x ∷ xs) (y ∷ ys) a b f (p, next, h, d) n (q, after, k, e) m g =
      let w = (one s).same ts next after x y h k in
      turns_apart x next mid end xs ys a b f d n (subst (λ (w : S). Turns P r w next ys b end) (sym w.0) (subst (λ (z : List T). Turns P r y z ys b end) (sym w.1) e)) m g

  at_start : (s a : S) (ts mid : List T) (f : F) → (a ≡ s) × (mid ≡ ts) → (r a).refused mid f → (r s).refused ts f
  at_start s a ts mid f e h = subst (λ (w : S). (r w).refused ts f) e.0 (subst (λ (z : List T). (r a).refused z f) e.1 h)

  turns_fault : (s : S) (ts mid end : List T) (xs ys : List S) (a b : S) (f g : F) → Turns P r s ts xs a mid → (r a).refused mid f → Turns P r s ts ys b end → (r b).refused end g → f ≡ g
  turns_fault s ts mid end [] [] a b f g e n d m = (one s).fault ts f g (at_start s a ts mid f e n) (at_start s b ts end g d m)
  turns_fault s ts mid end [] (y ∷ ys) a b f g e n (p, next, h, d) m = absurd ((one s).apart ts next y f h (at_start s a ts mid f e n))
  turns_fault s ts mid end (x ∷ xs) [] a b f g (p, next, h, d) n e m = absurd ((one s).apart ts next x g h (at_start s b ts end g e m))
  turns_fault s ts mid end (x ∷ xs) (y ∷ ys) a b f g (p, next, h, d) n (q, after, k, e) m =
      let w = (one s).same ts next after x y h k in
      turns_fault x next mid end xs ys a b f g d n (subst (λ (w : S). Turns P r w next ys b end) (sym w.0) (subst (λ (z : List T). Turns P r y z ys b end) (sym w.1) e)) m

  pub sure_loop : (s : S) → Sure (loop P r s)
  unfolding loop
  sure_loop s = record {
    same = λ ts rest more a b p q. turns_same s ts rest more p.0 q.0 a b p.1 p.2 q.1 q.2;
    apart = λ ts rest a f p q. turns_apart s ts rest q.2 p.0 q.0 a q.1 f p.1 p.2 q.3 q.4 q.5;
    fault = λ ts f g p q. turns_fault s ts p.2 q.2 p.0 q.0 p.1 q.1 f g p.3 p.5 q.3 q.5;
  }
