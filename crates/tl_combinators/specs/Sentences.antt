-- Program text: what the tokens of a text read as, and where and why they are refused.
-- From "TL language" (core.telegram.org/mtproto/TL), its sections. The causes of refusal are this project's own.
use Rattle.std.specs.Prelude.{◌≡◌, ℕ, List, [], ◌∷◌, ◌++◌, length, Bool, true, false, Result, Ok, Err, codes}
use Rattle.tl_lexer.specs.Rule.{Rule, gives, chain, choice, loop, Next}
use Rattle.tl_lexer.specs.declared.token.Token.{Token}
use Rattle.tl_lexer.specs.declared.token.TokenKind.TheVariants.{Dashes}
use Rattle.tl_combinators.specs.declared.fault.SyntaxFault.{SyntaxFault}
use Rattle.tl_combinators.specs.declared.fault.SyntaxFault.TheVariants.{Unexpected, NotProfile, TooMany, Memory}
use Rattle.tl_combinators.specs.Tokens.{Begins, token, IsThis, this_word}
use Rattle.tl_program.specs.Trees.{Tree}
use Rattle.tl_combinators.specs.Types.{whole_type}
use Rattle.tl_program.specs.Program.{declaration_limit, DeclText}
use Rattle.tl_combinators.specs.Declarations.{declaration, where_declaration, declaration_too_many}

-- ---- programs

-- the declarations so far, and whether the section is one of functions
pub record ProgramText : Type 0 where
  pub decls : List DeclText
  pub function : Bool

-- these declarations, and whether functions follow
abbrev pub program_so_far : List DeclText → Bool → ProgramText
program_so_far ds function = record { decls = ds; function = function }

-- `types---` or `functions---`, and whether functions follow
unfoldable pub section : List ℕ → Rule Token SyntaxFault Bool
section text =
    choice (Next (IsThis text (codes "functions")))
    (chain (this_word text (codes "functions")) (λ w. chain (token text Dashes) (λ b. gives true)))
    (chain (this_word text (codes "types")) (λ w. chain (token text Dashes) (λ b. gives false)))

-- `---types---` or `---functions---`
unfoldable pub mark : List ℕ → Rule Token SyntaxFault Bool
mark text = chain (token text Dashes) (λ a. section text)

-- one more declaration
unfoldable pub one_declaration : List ℕ → ProgramText → Rule Token SyntaxFault ProgramText
one_declaration text p =
    choice (λ ts. length p.decls ≡ declaration_limit) (declaration_too_many text)
    (chain (where_declaration text (declaration text p.function)) (λ d.
    gives (program_so_far (p.decls ++ (d ∷ [])) p.function)))

-- one more mark or declaration
unfoldable pub item : List ℕ → ProgramText → Rule Token SyntaxFault ProgramText
item text p =
    choice (Begins Dashes) (chain (mark text) (λ function. gives (program_so_far p.decls function)))
    (one_declaration text p)

-- a program: marks and declarations until no token is left
unfoldable pub program : List ℕ → Rule Token SyntaxFault ProgramText
program text = loop (λ ts. ts ≡ [] → ⊥) (item text) (program_so_far [] false)

-- ---- texts

-- the tokens of the text are a program, and these are its declarations
abbrev pub Reads : List ℕ → List Token → List DeclText → Type 0
Reads text tokens ds = (function : Bool) × (program text).reads tokens (program_so_far ds function) []

-- the tokens of the text are no program, and this is their first fault
abbrev pub SyntaxRefused : List ℕ → List Token → SyntaxFault → Type 0
SyntaxRefused text tokens fault = (program text).refused tokens fault

-- the tokens of the text are this type
abbrev pub ReadsType : List ℕ → List Token → Tree → Type 0
ReadsType text tokens t = (whole_type text).reads tokens t []

-- the tokens of the text are no type, and this is their first fault
abbrev pub TypeRefused : List ℕ → List Token → SyntaxFault → Type 0
TypeRefused text tokens fault = (whole_type text).refused tokens fault

-- ---- answers; out of memory is free

-- the fault is Refused's own
abbrev pub FaultIs : (SyntaxFault → Type 0) → SyntaxFault → Type 0
FaultIs Refused (Unexpected at) = Refused (Unexpected at)
FaultIs Refused (NotProfile at form) = Refused (NotProfile at form)
FaultIs Refused (TooMany at) = Refused (TooMany at)
FaultIs Refused Memory = Unit {0}

-- what is answered is so, by what is read and what is refused
abbrev pub Answers : {X A : Type 0} → (X → A) → (A → Type 0) → (SyntaxFault → Type 0) → Result X SyntaxFault → Type 0
Answers view Read Refused (Ok x) = Read (view x)
Answers view Read Refused (Err fault) = FaultIs Refused fault

-- the answer is this, or out of memory
abbrev pub Accepts : {X A : Type 0} → (X → A) → A → Result X SyntaxFault → Type 0
Accepts view a (Ok x) = view x ≡ a
Accepts view a (Err fault) = fault ≡ Memory

-- the answer is this fault, or out of memory
abbrev pub Refuses : {X : Type 0} → SyntaxFault → Result X SyntaxFault → Type 0
Refuses fault (Ok x) = ⊥
Refuses fault (Err other) = FaultIs (λ f. f ≡ fault) other
