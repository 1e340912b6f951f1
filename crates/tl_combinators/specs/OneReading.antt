-- Each list of tokens has its reading or its fault, and each list of pieces its description: what the rules of `Sentences`
-- and `Describes` are together. This project's own.
use Rattle.std.specs.Prelude.{◌≡◌, ◌⊎◌, ℕ, List}
use Rattle.tl_lexer.specs.declared.token.Token.{Token}
use Rattle.tl_combinators.specs.declared.fault.SyntaxFault.{SyntaxFault}
use Rattle.tl_program.specs.Trees.{Tree}
use Rattle.tl_program.specs.Program.{DeclText}
use Rattle.tl_combinators.specs.Description.{Piece, Describes}
use Rattle.tl_combinators.specs.Sentences.{Reads, SyntaxRefused, ReadsType, TypeRefused}

-- something is read or something is refused, and never both; nothing is read in two ways, or refused for two faults
pub record HasOneReading {A F : Type 0} (Read : A → Type 0) (Refused : F → Type 0) : Type 0 where
  pub either : ((a : A) × Read a) ⊎ ((fault : F) × Refused fault)
  pub never_both : (a : A) (fault : F) → Read a → Refused fault → ⊥
  pub same : (a b : A) → Read a → Read b → a ≡ b
  pub same_fault : (fault other : F) → Refused fault → Refused other → fault ≡ other

-- the tokens as a program
abbrev pub HasOneProgram : List ℕ → List Token → Type 0
HasOneProgram text tokens = HasOneReading {A = List DeclText} {F = SyntaxFault} (Reads text tokens) (SyntaxRefused text tokens)

-- the tokens as a type
abbrev pub HasOneType : List ℕ → List Token → Type 0
HasOneType text tokens = HasOneReading {A = Tree} {F = SyntaxFault} (ReadsType text tokens) (TypeRefused text tokens)

-- something describes the pieces, and nothing else does
pub record HasOneDescription (ps : List Piece) : Type 0 where
  pub some : (text : List ℕ) × Describes ps text
  pub same : (x y : List ℕ) → Describes ps x → Describes ps y → x ≡ y
