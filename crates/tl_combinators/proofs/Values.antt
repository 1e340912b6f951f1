-- What each value that a rule reads has in common.
use Rattle.std.proofs.Common.{List, [], ◌∷◌, sym, subst, inl, inr}
use Rattle.tl_lexer.specs.Rule.{Rule, Turns, gives, fails, chain, choice, loop}
use Rattle.tl_combinators.specs.Taken.{taken}

-- each value that the rule reads is such
pub record Only {T F A : Type 0} (r : Rule T F A) (I : A → Type 0) : Type 0 where
  pub each : (ts rest : List T) (x : A) → r.reads ts x rest → I x

pub only_gives : {T F A : Type 0} (I : A → Type 0) (a : A) → I a → Only {T = T} {F = F} (gives a) I
unfolding gives
only_gives I a i = record { each = λ ts rest x h. subst I (sym h.0) i }

pub only_fails : {T F A : Type 0} (I : A → Type 0) (fault_at : List T → F) → Only {A = A} (fails fault_at) I
unfolding fails
only_fails I fault_at = record { each = λ ts rest x h. absurd h }

module _ {T F A B : Type 0} (I : B → Type 0) (r : Rule T F A) (s : A → Rule T F B) (k : (x : A) (ts mid : List T) → r.reads ts x mid → Only (s x) I) where
  chain_each : (ts rest : List T) (y : B) → (chain r s).reads ts y rest → I y
  unfolding chain
  chain_each ts rest y (x, mid, p, q) = (k x ts mid p).each mid rest y q

  pub only_chain : Only (chain r s) I
  only_chain = record { each = chain_each }

module _ {T F A : Type 0} (I : A → Type 0) (P : List T → Type 0) (r s : Rule T F A) (k : (ts : List T) → P ts → Only r I) (l : (ts : List T) → (P ts → ⊥) → Only s I) where
  choice_each : (ts rest : List T) (x : A) → (choice P r s).reads ts x rest → I x
  unfolding choice
  choice_each ts rest x (inl h) = (k ts h.0).each ts rest x h.1
  choice_each ts rest x (inr h) = (l ts h.0).each ts rest x h.1

  pub only_choice : Only (choice P r s) I
  only_choice = record { each = choice_each }

module _ {T F S : Type 0} (I : S → Type 0) (P : List T → Type 0) (r : S → Rule T F S) (k : (s : S) → I s → Only (r s) I) where
  turns_each : (s : S) (ts : List T) (xs : List S) (end : S) (mid : List T) → I s → Turns P r s ts xs end mid → I end
  turns_each s ts [] end mid i t = subst I (sym t.0) i
  turns_each s ts (x ∷ xs) end mid i (p, next, h, more) = turns_each x next xs end mid ((k s i).each ts next x h) more

  pub only_loop : (s : S) → I s → Only (loop P r s) I
  unfolding loop
  only_loop s i = record { each = λ ts rest end h. turns_each s ts h.0 end rest i h.1 }

pub only_taken : {T F A : Type 0} (I : A → Type 0) (r : Rule T F A) → Only r I → Only (taken r) (λ x. I x.0)
unfolding taken
only_taken I r k = record { each = λ ts rest x h. k.each ts rest x.0 h.0 }
