-- What is shown is read back. This project's own.
use Rattle.std.specs.Prelude.{◌≡◌, ℕ, List, Ok, Some, slice_get}
use Rattle.tl_numbers.specs.Bytes.{AreBytes}
use Rattle.tl_schema.specs.Types.{Shape}
use Rattle.tl_schema.specs.Schemas.{Declaration, Declared}
use Rattle.tl_lexer.specs.declared.token.Token.{Token}
use Rattle.tl_program.specs.Program.{DeclText}
use Rattle.tl_combinators.specs.Sentences.{Reads}
use Rattle.tl_schema.specs.CheckedPrograms.{IsSchema, IsSchemaOf}
use Rattle.tl_types.specs.Values.{ValueView}
use Rattle.tl_types.specs.Spelling.{Spells}
use Rattle.tl_show.specs.Shown.{shown}
use Rattle.tl_show.specs.Reading.{AreApart, read, record_keys}

-- The names of a schema tell what they name: no two functions have one name, and no two constructors; no two fields of a declaration have one key,
-- and none has that of the declaration's name.
pub record NamesTell (ds : List Declaration) : Type 0 where
  pub declarations : (i j : ℕ) (d e : Declaration) → slice_get ds i ≡ Some d → slice_get ds j ≡ Some e → d.function ≡ e.function → d.name ≡ e.name → i ≡ j
  pub fields : (i : ℕ) (d : Declaration) → slice_get ds i ≡ Some d → AreApart (record_keys d.fields)

-- the schema of a text, that is of a program that tokens of a text read as, is such
abbrev pub EachTextTells : Type 0
EachTextTells = (text : List ℕ) (tokens : List Token) (ds : List DeclText) → Reads text tokens ds → (schema : Declared) → IsSchemaOf ds schema → NamesTell schema.decls

-- in each such schema, for each type and each value of it, that is each that some bytes spell
abbrev pub EachValueReadsBack : Type 0
EachValueReadsBack =
    (schema : Declared) → IsSchema schema → NamesTell schema.decls → (T : Shape) (v : ValueView) (b : List ℕ) → AreBytes b → Spells schema T v b
    → read schema.decls T (shown schema.decls T v) ≡ Ok v
