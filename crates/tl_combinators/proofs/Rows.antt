-- What a rule reads is a prefix of what stands there; with a token at least, what is left is shorter.
use Rattle.std.proofs.Common.{◌≡◌, ◌<◌, ◌≤◌, List, [], ◌∷◌, ◌++◌, length, refl, sym, ◌∙◌, ap, append_assoc, length-append, arith}
use Rattle.tl_lexer.specs.Rule.{Rule, gives, fails, one, chain, choice, loop}
use Rattle.tl_lexer.proofs.Suffixes.{Shrinks, Shortens, leads_fails, leads_choice, leads_gives, leads_chain, leads_loop, shortens_one, shortens_first, shortens_then}
use Rattle.tl_combinators.specs.Taken.{taken}

-- some row stands before rest
abbrev pub IsSuffix : {T : Type 0} → List T → List T → Type 0
IsSuffix {T = T} ts rest = (row : List T) × (ts ≡ row ++ rest)

-- what stands after a row that the rule reads is a suffix of what stood there
pub record Rows {T F A : Type 0} (r : Rule T F A) : Type 0 where
  pub given : (ts rest : List T) (x : A) → r.reads ts x rest → IsSuffix ts rest

-- each row that the rule reads has a token
pub record Shorter {T F A : Type 0} (r : Rule T F A) : Type 0 where
  pub given : Shortens r

no_row : {T : Type 0} (ts : List T) → IsSuffix ts ts
no_row ts = ([], refl)

two_rows : {T : Type 0} (a b c : List T) → IsSuffix a b → IsSuffix b c → IsSuffix a c
two_rows a b c (xs, p) (ys, q) = (xs ++ ys, p ∙ ap (λ z. xs ++ z) q ∙ sym (append_assoc xs ys c))

pub rows_gives : {T F A : Type 0} (a : A) → Rows {T = T} {F = F} (gives a)
rows_gives {F = F} a = record { given = leads_gives IsSuffix no_row two_rows F a }

pub rows_fails : {T F A : Type 0} (fault_at : List T → F) → Rows {A = A} (fails fault_at)
rows_fails {A = A} fault_at = record { given = leads_fails A IsSuffix fault_at }

pub rows_one : {T F : Type 0} (fault_at : List T → F) (P : T → Type 0) → Rows (one fault_at P)
unfolding one
rows_one fault_at P = record { given = λ ts rest x h. (x ∷ [], h.0) }

pub rows_chain : {T F A B : Type 0} (r : Rule T F A) (s : A → Rule T F B) → Rows r → ((x : A) → Rows (s x)) → Rows (chain r s)
rows_chain r s p q = record { given = leads_chain IsSuffix no_row two_rows r s p.given (λ x. (q x).given) }

pub rows_choice : {T F A : Type 0} (P : List T → Type 0) (r s : Rule T F A) → Rows r → Rows s → Rows (choice P r s)
rows_choice P r s p q = record { given = leads_choice IsSuffix P r s p.given q.given }

pub rows_loop : {T F S : Type 0} (P : List T → Type 0) (r : S → Rule T F S) → ((s : S) → Rows (r s)) → (s : S) → Rows (loop P r s)
rows_loop P r h s = record { given = leads_loop IsSuffix no_row two_rows P r (λ s ts rest x p g. (h s).given ts rest x g) s }

pub rows_taken : {T F A : Type 0} (r : Rule T F A) → Rows (taken r)
unfolding taken
rows_taken r = record { given = λ ts rest x h. (x.1, h.1) }

-- ---- lengths

shrinks_rows : {T F A : Type 0} (r : Rule T F A) → Rows r → Shrinks r
shrinks_rows r h ts rest x p = fewer (h.given ts rest x p)
  where
    fewer : IsSuffix ts rest → length rest ≤ length ts
    fewer (row, e) = omega (arith, ap length e, length-append row rest)

pub shorter_one : {T F : Type 0} (fault_at : List T → F) (P : T → Type 0) → Shorter (one fault_at P)
shorter_one fault_at P = record { given = shortens_one fault_at P }

pub shorter_fails : {T F A : Type 0} (fault_at : List T → F) → Shorter {A = A} (fails fault_at)
shorter_fails {A = A} fault_at = record { given = leads_fails A (λ ts rest. length rest < length ts) fault_at }

pub shorter_choice : {T F A : Type 0} (P : List T → Type 0) (r s : Rule T F A) → Shorter r → Shorter s → Shorter (choice P r s)
shorter_choice P r s p q = record { given = leads_choice (λ ts rest. length rest < length ts) P r s p.given q.given }

-- a row has a token in its first part, or in what follows
pub shorter_before : {T F A B : Type 0} (r : Rule T F A) (s : A → Rule T F B) → Shorter r → ((x : A) → Rows (s x)) → Shorter (chain r s)
shorter_before r s p q = record { given = shortens_first r s p.given (λ x. shrinks_rows (s x) (q x)) }

pub shorter_after : {T F A B : Type 0} (r : Rule T F A) (s : A → Rule T F B) → Rows r → ((x : A) → Shorter (s x)) → Shorter (chain r s)
shorter_after r s p q = record { given = shortens_then r s (shrinks_rows r p) (λ x. (q x).given) }

pub shorter_taken : {T F A : Type 0} (r : Rule T F A) → Shorter r → Shorter (taken r)
unfolding taken
shorter_taken r h = record { given = λ ts rest x p. h.given ts rest x.0 p.0 }
