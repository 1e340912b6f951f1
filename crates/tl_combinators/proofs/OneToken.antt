-- One token, read or refused, and the end of the tokens.
use Rattle.std.proofs.Common.{◌≡◌, ℕ, ◌<◌, ◌≤◌, List, [], length, drop, Ok, Err, refl, sym, ap, subst, length-drop, arith}
use Rattle.std.proofs.lemmas.List.{drop_all}
use Rattle.tl_lexer.specs.Rule.{one, Next, Parses}
use Rattle.tl_lexer.specs.declared.token.Token.{Token}
use Rattle.tl_lexer.proofs.Steps.{yes, no, gives_ok, fails_here}
use Rattle.tl_combinators.specs.declared.fault.SyntaxFault.{SyntaxFault}
use Rattle.tl_combinators.specs.Tokens.{fault_of, unexpected}
use Rattle.tl_combinators.specs.Types.{at_end}

pub one_err : (text : List ℕ) (P : Token → Type 0) (ts rest : List Token) {e : SyntaxFault} → (Next P ts → ⊥) → e ≡ unexpected text ts → Parses {X = Token} fault_of (λ (t : Token). t) (one (unexpected text) P) ts rest (Err e)
unfolding one
one_err text P ts rest n p = subst (λ z. Parses {X = Token} fault_of (λ (t : Token). t) (one (unexpected text) P) ts rest (Err z)) (sym p) (record { given = (n, refl) })

pub no_next : (P : Token → Type 0) (ts : List Token) (i : ℕ) → length ts ≤ i → Next P (drop i ts) → ⊥
no_next P ts i h p = subst (Next P) (drop_all i ts h) p

-- a token is left
pub left_over : (ts : List Token) (i : ℕ) → i < length ts → drop i ts ≡ [] → ⊥
left_over ts i h e = absurd (omega (arith, length-drop i ts, ap length e))

pub end_ok : (text : List ℕ) (ts : List Token) (i : ℕ) → length ts ≤ i → Parses fault_of (λ (u : Unit {0}). u) (at_end text) (drop i ts) [] (Ok tt)
unfolding at_end
end_ok text ts i h = subst (λ us. Parses fault_of (λ (u : Unit {0}). u) (at_end text) us [] (Ok tt)) (sym (drop_all i ts h)) (yes _ _ refl (gives_ok refl))

pub end_err : (text : List ℕ) (ts : List Token) (i : ℕ) {e : SyntaxFault} → i < length ts → e ≡ unexpected text (drop i ts) → Parses {X = Unit {0}} fault_of (λ (u : Unit {0}). u) (at_end text) (drop i ts) [] (Err e)
unfolding at_end
end_err text ts i h p = no _ _ (left_over ts i h) (fails_here fault_of _ (ap fault_of p))
