-- Rules of a grammar: which rows of tokens a rule reads as what, and which it refuses, and why. This project's own.
use Rattle.std.specs.Prelude.{◌≡◌, ◌⊎◌, ℕ, List, [], ◌∷◌, Option, Some, None, Result, Ok, Err}

-- reads ts x rest: ts begins with a row that reads as x, and rest is its suffix after the row
-- refused ts fault: ts begins with no such row, and this is the first fault
pub record Rule (T F A : Type 0) : Type 1 where
  pub reads : List T → A → List T → Type 0
  pub refused : List T → F → Type 0

-- the row of no tokens
unfoldable pub gives : {T F A : Type 0} → A → Rule T F A
gives x = record { reads = λ ts y rest. (y ≡ x) × (rest ≡ ts); refused = λ ts fault. ⊥ }

-- no row
unfoldable pub fails : {T F A : Type 0} → (List T → F) → Rule T F A
fails fault_at = record { reads = λ ts y rest. ⊥; refused = λ ts fault. fault ≡ fault_at ts }

-- the place of the next token
unfoldable pub here : {T F : Type 0} → (List T → ℕ) → Rule T F ℕ
here place = record { reads = λ ts y rest. (y ≡ place ts) × (rest ≡ ts); refused = λ ts fault. ⊥ }

abbrev pub Next : {T : Type 0} → (T → Type 0) → List T → Type 0
Next P [] = ⊥
Next P (t ∷ ts) = P t

-- one such token
unfoldable pub one : {T F : Type 0} → (List T → F) → (T → Type 0) → Rule T F T
one {T = T} fault_at P = record {
  reads = λ ts t rest. (ts ≡ t ∷ rest) × P t;
  refused = λ ts fault. (Next P ts → ⊥) × (fault ≡ fault_at ts);
}

-- a row of r, and after it one of what follows
unfoldable pub chain : {T F A B : Type 0} → Rule T F A → (A → Rule T F B) → Rule T F B
chain {T = T} {A = A} r s = record {
  reads = λ ts y rest. (x : A) × (mid : List T) × r.reads ts x mid × (s x).reads mid y rest;
  refused = λ ts fault. r.refused ts fault ⊎ ((x : A) × (mid : List T) × r.reads ts x mid × (s x).refused mid fault);
}

-- the tokens ahead select one of two
unfoldable pub choice : {T F A : Type 0} → (List T → Type 0) → Rule T F A → Rule T F A → Rule T F A
choice P r s = record {
  reads = λ ts x rest. (P ts × r.reads ts x rest) ⊎ ((P ts → ⊥) × s.reads ts x rest);
  refused = λ ts fault. (P ts × r.refused ts fault) ⊎ ((P ts → ⊥) × s.refused ts fault);
}

-- from the state s at ts, turn by turn, to the state end at mid; xs are the states after each turn
abbrev pub Turns : {T F S : Type 0} → (List T → Type 0) → (S → Rule T F S) → S → List T → List S → S → List T → Type 0
Turns P r s ts [] end mid = (end ≡ s) × (mid ≡ ts)
Turns {T = T} P r s ts (x ∷ xs) end mid = P ts × (next : List T) × (r s).reads ts x next × Turns P r x next xs end mid

-- turns, each selected by P and read by r of the state before it
unfoldable pub loop : {T F S : Type 0} → (List T → Type 0) → (S → Rule T F S) → S → Rule T F S
loop {T = T} {S = S} P r s = record {
  reads = λ ts end rest. (xs : List S) × Turns P r s ts xs end rest × (P rest → ⊥);
  refused = λ ts fault. (xs : List S) × (end : S) × (mid : List T) × Turns P r s ts xs end mid × P mid × (r end).refused mid fault;
}

-- a refusal, or nothing at all
abbrev pub Refusal : {T F A : Type 0} → Rule T F A → List T → Option F → Type 0
Refusal r ts None = Unit {0}
Refusal r ts (Some fault) = r.refused ts fault

-- fault_of e: the fault that e stands for; None when out of memory
abbrev pub Given : {T F A E X : Type 0} → (E → Option F) → (X → A) → Rule T F A → List T → List T → Result X E → Type 0
Given fault_of view r ts rest (Ok x) = r.reads ts (view x) rest
Given fault_of view r ts rest (Err e) = Refusal r ts (fault_of e)

-- what a call gave for the tokens ts, where rest stands after what it took
pub record Parses {T F A E X : Type 0} (fault_of : E → Option F) (view : X → A) (r : Rule T F A) (ts rest : List T) (result : Result X E) : Type 0 where
  pub given : Given fault_of view r ts rest result
