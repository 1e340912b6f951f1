-- The laws of a rule: it is sure, it is whole, and what it reads is a row of tokens.
use Rattle.std.proofs.Common.{List}
use Rattle.tl_lexer.specs.Rule.{Rule, gives, fails, one, chain, choice, loop}
use Rattle.tl_lexer.proofs.Sure.{Sure, sure_gives, sure_fails, sure_one, sure_chain, sure_choice, sure_loop}
use Rattle.tl_lexer.proofs.Whole.{Whole, Decided, whole_gives, whole_fails, whole_one, whole_chain, whole_choice, whole_loop}
use Rattle.tl_combinators.specs.Taken.{taken}
use Rattle.tl_combinators.proofs.Rows.{Rows, Shorter, rows_gives, rows_fails, rows_one, rows_chain, rows_choice, rows_loop, rows_taken, shorter_before, shorter_after}
use Rattle.tl_combinators.proofs.TakenRows.{sure_taken, whole_taken}

pub record Lawful {T F A : Type 0} (r : Rule T F A) : Type 0 where
  pub sure : Sure r
  pub rows : Rows r
  pub whole : Whole r

pub lawful_gives : {T F A : Type 0} (a : A) → Lawful {T = T} {F = F} (gives a)
lawful_gives a = record { sure = sure_gives a; rows = rows_gives a; whole = whole_gives a }

pub lawful_fails : {T F A : Type 0} (fault_at : List T → F) → Lawful {A = A} (fails fault_at)
lawful_fails fault_at = record { sure = sure_fails fault_at; rows = rows_fails fault_at; whole = whole_fails fault_at }

pub lawful_one : {T F : Type 0} (fault_at : List T → F) (P : T → Type 0) → ((t : T) → Decided (P t)) → Lawful (one fault_at P)
lawful_one fault_at P test = record { sure = sure_one fault_at P; rows = rows_one fault_at P; whole = whole_one fault_at P test }

pub lawful_chain : {T F A B : Type 0} (r : Rule T F A) (s : A → Rule T F B) → Lawful r → ((x : A) → Lawful (s x)) → Lawful (chain r s)
lawful_chain r s p q = record {
  sure = sure_chain r s p.sure (λ x. (q x).sure);
  rows = rows_chain r s p.rows (λ x. (q x).rows);
  whole = whole_chain r s p.whole (λ x. (q x).whole);
}

pub lawful_choice : {T F A : Type 0} (P : List T → Type 0) (r s : Rule T F A) → ((ts : List T) → Decided (P ts)) → Lawful r → Lawful s → Lawful (choice P r s)
lawful_choice P r s test p q = record {
  sure = sure_choice P r s p.sure q.sure;
  rows = rows_choice P r s p.rows q.rows;
  whole = whole_choice P r s test p.whole q.whole;
}

-- each turn takes a token at least
pub lawful_loop : {T F S : Type 0} (P : List T → Type 0) (r : S → Rule T F S) → ((ts : List T) → Decided (P ts)) → ((s : S) → Lawful (r s)) → ((s : S) → Shorter (r s)) → (s : S) → Lawful (loop P r s)
lawful_loop P r test p less s = record {
  sure = sure_loop P r (λ x. (p x).sure) s;
  rows = rows_loop P r (λ x. (p x).rows) s;
  whole = whole_loop P r test (λ x. (p x).whole) (λ x. (less x).given) s;
}

pub lawful_taken : {T F A : Type 0} (r : Rule T F A) → Lawful r → Lawful (taken r)
lawful_taken r p = record { sure = sure_taken r p.sure; rows = rows_taken r; whole = whole_taken r p.rows p.whole }

-- ---- a row has a token in its first part, or in what follows

pub shorter_first : {T F A B : Type 0} (r : Rule T F A) (s : A → Rule T F B) → Shorter r → ((x : A) → Lawful (s x)) → Shorter (chain r s)
shorter_first r s p q = shorter_before r s p (λ x. (q x).rows)

pub shorter_then : {T F A B : Type 0} (r : Rule T F A) (s : A → Rule T F B) → Lawful r → ((x : A) → Shorter (s x)) → Shorter (chain r s)
shorter_then r s p q = shorter_after r s p.rows q
