-- Parentheses, which open and close one by one.
use Rattle.std.proofs.Common.{◌≡◌, ℕ, suc, List, Option, Some, None, Ok, Err, refl, sym, subst, inl, inr}
use Rattle.tl_lexer.specs.Rule.{Parses, Refusal, chain, gives}
use Rattle.tl_lexer.specs.declared.token.Token.{Token}
use Rattle.tl_lexer.specs.declared.token.TokenKind.TheVariants.{LParen, RParen}
use Rattle.tl_lexer.proofs.Steps.{then_ok, then_err, gives_ok}
use Rattle.tl_lexer.proofs.Turns.{Came, came_more, loop_ok, loop_err}
use Rattle.tl_combinators.specs.declared.fault.SyntaxFault.{SyntaxFault}
use Rattle.tl_combinators.specs.Tokens.{fault_of, Begins, token}
use Rattle.tl_combinators.specs.Types.{one_opens, opens, closes}

-- n have opened
abbrev pub Opened : List ℕ → List Token → ℕ → List Token → Type 0
Opened text ts n mid = Came (Begins LParen) (one_opens text) 0 ts n mid

pub opens_more : (text : List ℕ) {ts mid next : List Token} {n m : ℕ} {t : Token} → Opened text ts n mid → Begins LParen mid → Parses fault_of (λ (t : Token). t) (token text LParen) mid next (Ok t) → m ≡ suc n → Opened text ts m next
unfolding one_opens
opens_more text {n = n} c p h e = came_more {look = λ (n : ℕ). n} {y = suc n} c p (then_ok _ h (gives_ok refl)) e

pub opens_ok : (text : List ℕ) {ts mid : List Token} {n : ℕ} → Opened text ts n mid → (Begins LParen mid → ⊥) → Parses fault_of (λ (n : ℕ). n) (opens text) ts mid (Ok n)
unfolding opens
opens_ok text c p = loop_ok c p refl

pub opens_err : (text : List ℕ) {ts mid next : List Token} {n : ℕ} {e : SyntaxFault} → Opened text ts n mid → Begins LParen mid → Parses {X = Token} fault_of (λ (t : Token). t) (token text LParen) mid next (Err e) → Parses {X = ℕ} fault_of (λ (n : ℕ). n) (opens text) ts next (Err e)
unfolding opens one_opens
opens_err text c p h = loop_err {Y = ℕ} {look = λ (n : ℕ). n} c p (then_err _ h)

-- of n closing ones k are left
pub record Left (text : List ℕ) (n k : ℕ) (ts mid : List Token) : Type 0 where
  pub ok : (rest : List Token) → (closes text k).reads mid tt rest → (closes text n).reads ts tt rest
  pub err : (fault : SyntaxFault) → (closes text k).refused mid fault → (closes text n).refused ts fault

left_as : (text : List ℕ) (n k j : ℕ) (ts mid : List Token) → k ≡ j → Left text n k ts mid → Left text n j ts mid
left_as text n k j ts mid e l = subst (λ (i : ℕ). Left text n i ts mid) e l

pub left_all : (text : List ℕ) (n k : ℕ) (ts : List Token) → k ≡ n → Left text n k ts ts
left_all text n k ts e = left_as text n n k ts ts (sym e) (record { ok = λ rest h. h; err = λ fault h. h })

pub left_one : (text : List ℕ) (n k j : ℕ) {ts mid next : List Token} {t : Token} → Left text n k ts mid → k ≡ suc j → Parses fault_of (λ (t : Token). t) (token text RParen) mid next (Ok t) → Left text n j ts next
unfolding chain
left_one text n k j {ts = ts} {mid = mid} {next = next} {t = t} l e h =
    let m = left_as text n k (suc j) ts mid e l in
    record { ok = λ rest p. m.ok rest (t, next, h.given, p); err = λ fault p. m.err fault (inr (t, next, h.given, p)) }

pub left_none : (text : List ℕ) (n k : ℕ) {ts mid : List Token} → Left text n k ts mid → k ≡ 0 → Parses fault_of (λ (u : Unit {0}). u) (closes text n) ts mid (Ok tt)
unfolding gives
left_none text n k {ts = ts} {mid = mid} l e = record { given = (left_as text n k 0 ts mid e l).ok mid (refl, refl) }

closes_refused : (text : List ℕ) (n j : ℕ) (ts mid : List Token) (o : Option SyntaxFault) → Left text n (suc j) ts mid → Refusal (token text RParen) mid o → Refusal (closes text n) ts o
unfolding chain
closes_refused text n j ts mid None l h = tt
closes_refused text n j ts mid (Some f) l h = l.err f (inl h)

pub left_err : (text : List ℕ) (n k j : ℕ) {ts mid next rest : List Token} {e : SyntaxFault} → Left text n k ts mid → k ≡ suc j → Parses {X = Token} fault_of (λ (t : Token). t) (token text RParen) mid next (Err e) → Parses {X = Unit {0}} fault_of (λ (u : Unit {0}). u) (closes text n) ts rest (Err e)
left_err text n k j {ts = ts} {mid = mid} {e = e} l q h = record { given = closes_refused text n j ts mid (fault_of e) (left_as text n k (suc j) ts mid q l) h.given }
