-- What is read of a text and of bytes. This project's own.
use Rattle.std.specs.Prelude.{ℕ, List}
use Rattle.tl_lexer.specs.declared.token.Token.{Token}
use Rattle.tl_lexer.specs.Tokens.{Tokens}
use Rattle.tl_combinators.specs.Sentences.{Reads}
use Rattle.tl_schema.specs.Types.{Shape}
use Rattle.tl_schema.specs.Schemas.{Declared}
use Rattle.tl_schema.specs.CheckedPrograms.{IsSchema}
use Rattle.tl_schema.specs.AskedTypes.{IsTypeText}
use Rattle.tl_types.specs.Values.{ValueView}
use Rattle.tl_types.specs.Spelling.{Spells}

-- the tokens of the text read as the schema's program, which passes the checks
pub record IsSchemaText (text : List ℕ) (schema : Declared) : Type 0 where
  pub tokens : List Token
  pub lexed : Tokens text tokens
  pub parsed : Reads text tokens schema.program
  pub good : IsSchema schema

-- the name is a type of the schema, by which the bytes spell the value
abbrev pub IsValueOf : Declared → List ℕ → List ℕ → ValueView → Type 0
IsValueOf schema name bytes v = (T : Shape) × IsTypeText schema.program name T × Spells schema T v bytes
