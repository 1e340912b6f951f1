-- Each text has its tokens or its fault. This project's own.
use Rattle.std.specs.Prelude.{◌≡◌, ◌⊎◌, ℕ, List}
use Rattle.tl_lexer.specs.declared.token.Token.{Token}
use Rattle.tl_lexer.specs.declared.fault.LexFault.{LexFault}
use Rattle.tl_lexer.specs.Tokens.{Tokens, LexRefused}

-- there are tokens of the text
abbrev pub HasTokens : List ℕ → Type 0
HasTokens text = (ts : List Token) × Tokens text ts

-- there is a fault of the text
abbrev pub IsRefused : List ℕ → Type 0
IsRefused text = (fault : LexFault) × LexRefused text fault

-- the text has tokens or is refused, never both, and never by two lists or two faults
pub record HasOneAnswer (text : List ℕ) : Type 0 where
  pub one : HasTokens text ⊎ IsRefused text
  pub never_both : HasTokens text → IsRefused text → ⊥
  pub same_tokens : (ts us : List Token) → Tokens text ts → Tokens text us → ts ≡ us
  pub same_fault : (fault other : LexFault) → LexRefused text fault → LexRefused text other → fault ≡ other
