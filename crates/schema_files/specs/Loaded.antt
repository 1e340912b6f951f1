-- What a schema's text is, and a word that is a type, and which plan a type has: a schema, a type of it, a plan, or why it is none. This project's own.
use Rattle.std.specs.Prelude.{◌≡◌, ℕ, List, [], ◌∷◌, Ok, Err}
use Rattle.tl_lexer.specs.declared.token.Token.{Token}
use Rattle.tl_lexer.specs.declared.fault.LexFault.TheVariants as lex
use Rattle.tl_lexer.specs.Tokens.{Tokens, LexRefused}
use Rattle.tl_program.specs.Trees.{Tree}
use Rattle.tl_program.specs.Program.{DeclText}
use Rattle.tl_combinators.specs.declared.fault.UnsupportedForm.{UnsupportedForm}
use Rattle.tl_combinators.specs.declared.fault.SyntaxFault.{SyntaxFault}
use Rattle.tl_combinators.specs.declared.fault.SyntaxFault.TheVariants as syntax
use Rattle.tl_combinators.specs.Sentences.{Reads, SyntaxRefused}
use Rattle.tl_combinators.specs.Sentences as sentence
use Rattle.tl_schema.specs.Types.{Shape}
use Rattle.tl_schema.specs.Schemas.{Declared}
use Rattle.tl_schema.specs.CheckCauses.{RefusedAt}
use Rattle.tl_schema.specs.CheckedPrograms.{IsSchema}
use Rattle.tl_schema.specs.AskedTypes.{AsksFor, RefusedTypeBy, type_causes}
use Rattle.tl_schema.specs.declared.fault.CheckCause.{CheckCause}
use Rattle.tl_schema.specs.declared.fault.TypeCause.{TypeCause}
use Rattle.tl_plan.specs.Plans.{PlanView, answer}
use Rattle.tl_plan.specs.declared.fault.PlanFault.TheVariants as planning
use Rattle.schema_files.specs.Causes.{TextCause, TextTooLong, BadByte, OpenComment, Unexpected, NotProfile, TooMany, SchemaCause, Text, Checked, TypeNameCause, Word, Asked, PlanCause, TypeTooDeep, TooManyInstances}

-- the text is refused for this cause, as it is read or as its tokens are; these are refused by the grammar's rule for such texts
pub data TextRefused (text : List ℕ) (Refuses : List Token → SyntaxFault → Type 0) : TextCause → Type 0 where
  too_long : LexRefused text lex.TextTooLong → TextRefused text Refuses TextTooLong
  bad_byte : (at : ℕ) → LexRefused text (lex.BadByte at) → TextRefused text Refuses (BadByte at)
  open_comment : (at : ℕ) → LexRefused text (lex.OpenComment at) → TextRefused text Refuses (OpenComment at)
  unexpected : (tokens : List Token) (at : ℕ) → Tokens text tokens → Refuses tokens (syntax.Unexpected at) → TextRefused text Refuses (Unexpected at)
  not_profile : (tokens : List Token) (at : ℕ) (form : UnsupportedForm) → Tokens text tokens → Refuses tokens (syntax.NotProfile at form) → TextRefused text Refuses (NotProfile at form)
  too_many : (tokens : List Token) (at : ℕ) → Tokens text tokens → Refuses tokens (syntax.TooMany at) → TextRefused text Refuses (TooMany at)

-- ---- a schema's text

-- the text is that of this schema: its tokens read as the schema's program, which passes the checks
pub record IsSchemaText (text : List ℕ) (schema : Declared) : Type 0 where
  pub tokens : List Token
  pub lexed : Tokens text tokens
  pub parsed : Reads text tokens schema.program
  pub good : IsSchema schema

-- the text is refused for this cause: as a text, or by the checks
pub data SchemaRefused (text : List ℕ) : SchemaCause → Type 0 where
  by_text : (cause : TextCause) → TextRefused text (SyntaxRefused text) cause → SchemaRefused text (Text cause)
  by_checks : (tokens : List Token) (program : List DeclText) (decl : ℕ) (cause : CheckCause) → Tokens text tokens → Reads text tokens program → RefusedAt program decl cause → SchemaRefused text (Checked decl cause)

-- ---- a type's text

-- the text is refused for this cause: as a text, or by the checks of types
pub data TypeNameRefused (schema : Declared) (text : List ℕ) : TypeNameCause → Type 0 where
  by_text : (cause : TextCause) → TextRefused text (sentence.TypeRefused text) cause → TypeNameRefused schema text (Word cause)
  by_checks : (t : Tree) (cause : TypeCause) → AsksFor text t → RefusedTypeBy schema.program type_causes t cause → TypeNameRefused schema text (Asked cause)

-- ---- a type's plan

-- the type has a plan
abbrev pub HasPlan : Declared → Shape → Type 0
HasPlan schema T = (p : PlanView) × (answer schema (T ∷ []) ≡ Ok p)

-- it has none, for this cause
abbrev pub PlanRefused : Declared → Shape → PlanCause → Type 0
PlanRefused schema T (TypeTooDeep decl) = answer schema (T ∷ []) ≡ Err (planning.TypeTooDeep decl)
PlanRefused schema T TooManyInstances = answer schema (T ∷ []) ≡ Err planning.TooManyInstances
