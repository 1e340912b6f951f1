-- Types with `,` between them, and further terms.
use Rattle.std.proofs.Common.{◌≡◌, List, [], ◌∷◌, ◌++◌, ℕ, Ok, Err, refl}
use Rattle.tl_lexer.specs.Rule.{Rule, Parses}
use Rattle.tl_lexer.specs.declared.token.Token.{Token}
use Rattle.tl_lexer.specs.declared.token.TokenKind.TheVariants.{Comma}
use Rattle.tl_lexer.proofs.Steps.{then_ok, then_err, gives_ok}
use Rattle.tl_lexer.proofs.Turns.{Came, came_none, came_more, loop_ok, loop_err}
use Rattle.tl_combinators.specs.declared.fault.SyntaxFault.{SyntaxFault}
use Rattle.tl_combinators.specs.Tokens.{fault_of, Begins}
use Rattle.tl_program.specs.Trees.{Tree}
use Rattle.tl_combinators.specs.Types.{BeginsTerm, one_term, one_listed, listed}

-- ---- one more term

pub term_ok : {Y : Type 0} {look : Y → Tree} {r : Rule Token SyntaxFault Tree} {ts mid : List Token} {y : Y} (xs : List Tree) → Parses fault_of look r ts mid (Ok y) → Parses fault_of (λ (xs : List Tree). xs) (one_term r xs) ts mid (Ok (xs ++ (look y ∷ [])))
unfolding one_term
term_ok xs h = then_ok _ h (gives_ok refl)

pub term_err : {Y : Type 0} {look : Y → Tree} {r : Rule Token SyntaxFault Tree} {ts mid : List Token} {e : SyntaxFault} (xs : List Tree) → Parses {X = Y} fault_of look r ts mid (Err e) → Parses {X = List Tree} fault_of (λ (xs : List Tree). xs) (one_term r xs) ts mid (Err e)
unfolding one_term
term_err xs h = then_err _ h

-- ---- further terms

-- so many have been read
abbrev pub Further : Rule Token SyntaxFault Tree → List Token → List Tree → List Token → Type 0
Further r ts xs mid = Came BeginsTerm (one_term r) [] ts xs mid

-- ---- with commas

-- one has been read, and so many have been with it
pub record Listed (text : List ℕ) (r : Rule Token SyntaxFault Tree) (ts : List Token) (xs : List Tree) (mid : List Token) : Type 0 where
  pub first : Tree
  pub next : List Token
  pub read : Parses fault_of (λ (t : Tree). t) r ts next (Ok first)
  pub came : Came (Begins Comma) (one_listed text r) (first ∷ []) next xs mid

pub listed_one : (text : List ℕ) {Y : Type 0} {look : Y → Tree} {r : Rule Token SyntaxFault Tree} {ts next : List Token} {y : Y} {xs : List Tree} → Parses fault_of look r ts next (Ok y) → xs ≡ look y ∷ [] → Listed text r ts xs next
listed_one text {look = look} {next = next} {y = y} h e = record { first = look y; next = next; read = record { given = h.given }; came = came_none e }

pub listed_more : {text : List ℕ} {r : Rule Token SyntaxFault Tree} {ts mid after : List Token} {xs ys zs : List Tree} → Listed text r ts xs mid → Begins Comma mid → Parses fault_of (λ (xs : List Tree). xs) (one_listed text r xs) mid after (Ok ys) → zs ≡ ys → Listed text r ts zs after
listed_more l b h e = record { first = l.first; next = l.next; read = l.read; came = came_more {look = λ (xs : List Tree). xs} l.came b h e }

pub listed_ok : {X : Type 0} {view : X → List Tree} {text : List ℕ} {r : Rule Token SyntaxFault Tree} {ts mid : List Token} {xs : List Tree} {x : X} → Listed text r ts xs mid → (Begins Comma mid → ⊥) → view x ≡ xs → Parses fault_of view (listed text r) ts mid (Ok x)
unfolding listed
listed_ok l b e = then_ok _ l.read (loop_ok l.came b e)

pub listed_err : {X : Type 0} {view : X → List Tree} {text : List ℕ} {r : Rule Token SyntaxFault Tree} {ts mid rest : List Token} {xs : List Tree} {e : SyntaxFault} → Listed text r ts xs mid → Begins Comma mid → Parses {X = List Tree} fault_of (λ (xs : List Tree). xs) (one_listed text r xs) mid rest (Err e) → Parses {X = X} fault_of view (listed text r) ts rest (Err e)
unfolding listed
listed_err l b h = then_ok _ l.read (loop_err {look = λ (xs : List Tree). xs} l.came b h)
