-- What a text asks for as a type: a closed type of a schema, a call, or why it is none. This project's own.
use Rattle.std.specs.Prelude.{◌≡◌, ◌⊎◌, ℕ, List, [], ◌∷◌, true, false, None, Result, Ok, Err}
use Rattle.tl_lexer.specs.declared.token.Token.{Token}
use Rattle.tl_lexer.specs.Tokens.{Tokens, LexRefused}
use Rattle.tl_program.specs.Trees.{Tree, any_call}
use Rattle.tl_program.specs.Program.{DeclText}
use Rattle.tl_combinators.specs.Sentences.{ReadsType, TypeRefused}
use Rattle.tl_names.specs.Parts.{SomePart}
use Rattle.tl_schema.specs.UnknownType.{BeginsUnknown}
use Rattle.tl_schema.specs.WrongArity.{Misapplies}
use Rattle.tl_schema.specs.NotBare.{HasNoBare}
use Rattle.tl_schema.specs.EmptyElement.{AppliesToEmpty}
use Rattle.tl_schema.specs.Types.{Shape}
use Rattle.tl_schema.specs.Seen.{shape}
use Rattle.tl_schema.specs.declared.schema.TypeRef.{TypeRef}
use Rattle.tl_schema.specs.Meanings.{meaning}
use Rattle.tl_schema.specs.declared.fault.TypeCause.{TypeCause}
use Rattle.tl_schema.specs.declared.fault.TypeCause.TheVariants.{UnknownType, WrongArity, NotBare, EmptyElement}
use Rattle.tl_schema.specs.declared.fault.TypeFault.{TypeFault}
use Rattle.tl_schema.specs.declared.fault.TypeFault.TheVariants as type

-- who asks: no declaration of the program, and one without variables
abbrev pub asker : DeclText
asker = record { name = []; number = None; vars = []; fields = []; result = any_call; function = true; builtin = false; text = [] }

-- the type has the cause
abbrev pub TypeHas : List DeclText → TypeCause → Tree → Type 0
TypeHas ds UnknownType t = SomePart (BeginsUnknown ds asker) t
TypeHas ds WrongArity t = SomePart (Misapplies ds asker) t
TypeHas ds NotBare t = SomePart (HasNoBare ds asker) t
TypeHas ds EmptyElement t = SomePart (AppliesToEmpty ds asker) t

-- the causes in the order of the checks
abbrev pub type_causes : List TypeCause
type_causes = UnknownType ∷ WrongArity ∷ NotBare ∷ EmptyElement ∷ []

-- the type has none of these causes
abbrev pub PassesTypeBy : List DeclText → List TypeCause → Tree → Type 0
PassesTypeBy ds [] t = Unit {0}
PassesTypeBy ds (c ∷ cs) t = (TypeHas ds c t → ⊥) × PassesTypeBy ds cs t

-- the first of these causes that it has is this one
abbrev pub RefusedTypeBy : List DeclText → List TypeCause → Tree → TypeCause → Type 0
RefusedTypeBy ds [] t found = ⊥
RefusedTypeBy ds (c ∷ cs) t found = ((found ≡ c) × TypeHas ds c t) ⊎ ((TypeHas ds c t → ⊥) × RefusedTypeBy ds cs t found)

-- the text is this type
pub record AsksFor (text : List ℕ) (t : Tree) : Type 0 where
  pub tokens : List Token
  pub lexed : Tokens text tokens
  pub read : ReadsType text tokens t

-- the text is a type of the program, and means this
pub record IsTypeText (ds : List DeclText) (text : List ℕ) (s : Shape) : Type 0 where
  pub t : Tree
  pub asks : AsksFor text t
  pub passes : PassesTypeBy ds type_causes t
  pub means : s ≡ meaning ds asker t

-- why the text is no type of the program: it has no tokens, these are no type, or the type has a cause
abbrev pub TypeTextRefused : List DeclText → List ℕ → TypeFault → Type 0
TypeTextRefused ds text (type.Lex fault) = LexRefused text fault
TypeTextRefused ds text (type.Syntax fault) = (tokens : List Token) × Tokens text tokens × TypeRefused text tokens fault
TypeTextRefused ds text (type.Refused cause) = (t : Tree) × AsksFor text t × RefusedTypeBy ds type_causes t cause
TypeTextRefused ds text type.Memory = ⊥

-- ---- answers; out of memory is free

-- what is answered is so: what the text means, or why it is no type
abbrev pub NamesType : List DeclText → List ℕ → Result TypeRef TypeFault → Type 0
NamesType ds text (Ok type) = IsTypeText ds text (shape type)
NamesType ds text (Err (type.Lex fault)) = TypeTextRefused ds text (type.Lex fault)
NamesType ds text (Err (type.Syntax fault)) = TypeTextRefused ds text (type.Syntax fault)
NamesType ds text (Err (type.Refused cause)) = TypeTextRefused ds text (type.Refused cause)
NamesType ds text (Err type.Memory) = Unit {0}

-- the answer is this type, or out of memory
abbrev pub GivesType : Shape → Result TypeRef TypeFault → Type 0
GivesType s (Ok type) = shape type ≡ s
GivesType s (Err fault) = fault ≡ type.Memory

-- the answer is this fault, or out of memory
abbrev pub RefusesType : TypeFault → Result TypeRef TypeFault → Type 0
RefusesType fault (Ok type) = ⊥
RefusesType fault (Err other) = (other ≡ fault) ⊎ (other ≡ type.Memory)
