-- A rule reads a row or refuses it, whatever stands there.
use Rattle.std.proofs.Common.{ℕ, zero, suc, ◌≤◌, List, [], ◌∷◌, length, refl, inl, inr, arith}
use Rattle.std.specs.Prelude.{◌⊎◌}
use Rattle.tl_lexer.specs.Rule.{Rule, gives, fails, here, one, Next, chain, choice, loop}
use Rattle.tl_lexer.proofs.Suffixes.{Shortens}

-- a row is read, or refused
abbrev pub Outcome : {T F A : Type 0} → Rule T F A → List T → Type 0
Outcome {T = T} {F = F} {A = A} r ts = ((x : A) × (rest : List T) × r.reads ts x rest) ⊎ ((fault : F) × r.refused ts fault)

-- each row of tokens is read or refused
pub record Whole {T F A : Type 0} (r : Rule T F A) : Type 0 where
  pub given : (ts : List T) → Outcome r ts

-- P holds, or it doesn't
abbrev pub Decided : Type 0 → Type 0
Decided P = P ⊎ (P → ⊥)

pub whole_gives : {T F A : Type 0} (a : A) → Whole {T = T} {F = F} (gives a)
unfolding gives
whole_gives a = record { given = λ ts. inl (a, ts, (refl, refl)) }

pub whole_fails : {T F A : Type 0} (fault_at : List T → F) → Whole {A = A} (fails fault_at)
unfolding fails
whole_fails fault_at = record { given = λ ts. inr (fault_at ts, refl) }

pub whole_here : {T F : Type 0} (place : List T → ℕ) → Whole {F = F} (here place)
unfolding here
whole_here place = record { given = λ ts. inl (place ts, ts, (refl, refl)) }

-- ---- tokens

module _ {T F : Type 0} (fault_at : List T → F) (P : T → Type 0) (test : (t : T) → Decided (P t)) where
  one_at : (t : T) (ts : List T) → Decided (P t) → Outcome (one fault_at P) (t ∷ ts)
  unfolding one
  one_at t ts (inl p) = inl (t, ts, (refl, p))
  one_at t ts (inr n) = inr (fault_at (t ∷ ts), (n, refl))

  one_given : (ts : List T) → Outcome (one fault_at P) ts
  unfolding one
  one_given [] = inr (fault_at [], ((λ h. h), refl))
  one_given (t ∷ ts) = one_at t ts (test t)

  pub whole_one : Whole (one fault_at P)
  whole_one = record { given = one_given }

pub next_decided : {T : Type 0} (P : T → Type 0) → ((t : T) → Decided (P t)) → (ts : List T) → Decided (Next P ts)
next_decided P test [] = inr (λ h. h)
next_decided P test (t ∷ ts) = test t

-- ---- rows and choices

module _ {T F A B : Type 0} (r : Rule T F A) (s : A → Rule T F B) (first : Whole r) (then_one : (x : A) → Whole (s x)) where
  behind : (ts : List T) (x : A) (mid : List T) → r.reads ts x mid → Outcome (s x) mid → Outcome (chain r s) ts
  unfolding chain
  behind ts x mid h (inl (y, rest, g)) = inl (y, rest, (x, mid, h, g))
  behind ts x mid h (inr (f, g)) = inr (f, inr (x, mid, h, g))

  chain_given : (ts : List T) → Outcome r ts → Outcome (chain r s) ts
  unfolding chain
  chain_given ts (inl (x, mid, h)) = behind ts x mid h ((then_one x).given mid)
  chain_given ts (inr (f, h)) = inr (f, inl h)

  pub whole_chain : Whole (chain r s)
  whole_chain = record { given = λ ts. chain_given ts (first.given ts) }

module _ {T F A : Type 0} (P : List T → Type 0) (r s : Rule T F A) (test : (ts : List T) → Decided (P ts)) (one : Whole r) (two : Whole s) where
  yes_given : (ts : List T) → P ts → Outcome r ts → Outcome (choice P r s) ts
  unfolding choice
  yes_given ts p (inl (x, rest, h)) = inl (x, rest, inl (p, h))
  yes_given ts p (inr (f, h)) = inr (f, inl (p, h))

  no_given : (ts : List T) → (P ts → ⊥) → Outcome s ts → Outcome (choice P r s) ts
  unfolding choice
  no_given ts n (inl (x, rest, h)) = inl (x, rest, inr (n, h))
  no_given ts n (inr (f, h)) = inr (f, inr (n, h))

  choice_given : (ts : List T) → Decided (P ts) → Outcome (choice P r s) ts
  choice_given ts (inl p) = yes_given ts p (one.given ts)
  choice_given ts (inr n) = no_given ts n (two.given ts)

  pub whole_choice : Whole (choice P r s)
  whole_choice = record { given = λ ts. choice_given ts (test ts) }

-- ---- loops whose turns each leave less

module _ {T F S : Type 0} (P : List T → Type 0) (r : S → Rule T F S) (test : (ts : List T) → Decided (P ts)) (one : (s : S) → Whole (r s)) (less : (s : S) → Shortens (r s)) where
  turn_after : (s x : S) (ts next : List T) → P ts → (r s).reads ts x next → Outcome (loop P r x) next → Outcome (loop P r s) ts
  unfolding loop
  turn_after s x ts next p h (inl (a, rest, (xs, d, e))) = inl (a, rest, (x ∷ xs, (p, next, h, d), e))
  turn_after s x ts next p h (inr (f, (xs, a, mid, d, q, g))) = inr (f, (x ∷ xs, a, mid, (p, next, h, d), q, g))

  stops : (s : S) (ts : List T) → (P ts → ⊥) → Outcome (loop P r s) ts
  unfolding loop
  stops s ts n = inl (s, ts, ([], (refl, refl), n))

  turn_fails : (s : S) (ts : List T) (f : F) → P ts → (r s).refused ts f → Outcome (loop P r s) ts
  unfolding loop
  turn_fails s ts f p h = inr (f, ([], s, ts, (refl, refl), p, h))

  loop_given : (n : ℕ) (s : S) (ts : List T) → length ts ≤ n → Decided (P ts) → Outcome (r s) ts → Outcome (loop P r s) ts
  loop_given n s ts w (inr no_turn) o = stops s ts no_turn
  loop_given n s ts w (inl p) (inr (f, h)) = turn_fails s ts f p h
  loop_given zero s ts w (inl p) (inl (x, next, h)) = absurd (omega (arith, less s ts next x h))
  loop_given (suc n) s ts w (inl p) (inl (x, next, h)) = turn_after s x ts next p h (loop_given n x next (omega (arith, less s ts next x h)) (test next) ((one x).given next))

  pub whole_loop : (s : S) → Whole (loop P r s)
  whole_loop s = record { given = λ ts. loop_given (length ts) s ts (omega arith) (test ts) ((one s).given ts) }
