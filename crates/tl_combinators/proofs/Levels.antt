-- Types with a number of levels left.
use Rattle.std.proofs.Common.{◌≡◌, ℕ, suc, List, Bool, false, IsTrue, Result, subst}
use Rattle.tl_lexer.specs.Rule.{Rule, Parses}
use Rattle.tl_lexer.specs.declared.token.Token.{Token}
use Rattle.tl_lexer.specs.declared.token.TokenKind.TheVariants.{Percent}
use Rattle.tl_lexer.proofs.Steps.{yes, no}
use Rattle.tl_combinators.specs.declared.fault.SyntaxFault.{SyntaxFault}
use Rattle.tl_combinators.specs.Tokens.{fault_of, Begins}
use Rattle.tl_program.specs.Trees.{Tree}
use Rattle.tl_combinators.specs.Types.{core, no_level, bare, after_percent, application, in_parens}

pub not_true : (x : Bool) → x ≡ false → IsTrue x → ⊥
not_true x e h = absurd cc

-- ---- whether a name may be a head, which is computed apart

head_as : {X : Type 0} {see : X → Tree} (r : Bool → Rule Token SyntaxFault Tree) {a b : Bool} {ts rest : List Token} {res : Result X SyntaxFault} → a ≡ b → Parses fault_of see (r a) ts rest res → Parses fault_of see (r b) ts rest res
head_as {see = see} r {ts = ts} {rest = rest} {res = res} e h = subst (λ z. Parses fault_of see (r z) ts rest res) e h

pub core_as : {X : Type 0} {see : X → Tree} (text : List ℕ) (n : ℕ) {a b : Bool} {ts rest : List Token} {res : Result X SyntaxFault} → a ≡ b → Parses fault_of see (core text n a) ts rest res → Parses fault_of see (core text n b) ts rest res
core_as text n e h = head_as (core text n) e h

pub after_as : {X : Type 0} {see : X → Tree} (text : List ℕ) (n : ℕ) {a b : Bool} {ts rest : List Token} {res : Result X SyntaxFault}
    → a ≡ b → Parses fault_of see (after_percent text (core text n) (in_parens text (core text n)) a) ts rest res → Parses fault_of see (after_percent text (core text n) (in_parens text (core text n)) b) ts rest res
after_as text n e h = head_as (after_percent text (core text n) (in_parens text (core text n))) e h

-- ---- whether a level is left

pub core_none : {X : Type 0} {see : X → Tree} (text : List ℕ) (n : ℕ) (head : Bool) {ts rest : List Token} {res : Result X SyntaxFault} → n ≡ 0 → Parses fault_of see (no_level text) ts rest res → Parses fault_of see (core text n head) ts rest res
core_none text n head e h = rw e h

pub core_bare : {X : Type 0} {see : X → Tree} (text : List ℕ) (n m : ℕ) (head : Bool) {ts rest : List Token} {res : Result X SyntaxFault} → n ≡ suc m → Begins Percent ts → Parses fault_of see (bare text (core text m) (in_parens text (core text m))) ts rest res → Parses fault_of see (core text n head) ts rest res
core_bare text n m head e p h = rw e (yes _ _ p h)

pub core_application : {X : Type 0} {see : X → Tree} (text : List ℕ) (n m : ℕ) (head : Bool) {ts rest : List Token} {res : Result X SyntaxFault} → n ≡ suc m → (Begins Percent ts → ⊥) → Parses fault_of see (application text (in_parens text (core text m)) head) ts rest res → Parses fault_of see (core text n head) ts rest res
core_application text n m head e p h = rw e (no _ _ p h)
