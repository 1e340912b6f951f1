-- How many nodes a value has, bounded by how many bytes spell it.
-- This project's own, over the values of "Binary data serialization" (core.telegram.org/mtproto/serialize).
use Rattle.std.specs.Prelude.{◌≡◌, ◌⊎◌, ℕ, suc, ◌+◌, ◌*◌, ◌/◌, ◌≤◌, List, [], length, slice_get, Some, IsSome, Bool}
use Rattle.tl_lexer.specs.declared.token.Token.{Token}
use Rattle.tl_program.specs.Program.{part_limit, DeclText}
use Rattle.tl_combinators.specs.Sentences.{Reads}
use Rattle.tl_schema.specs.Types.{Shape, Shapes}
use Rattle.tl_schema.specs.Types as type
use Rattle.tl_schema.specs.Closing.{closed, list_of_shapes}
use Rattle.tl_schema.specs.Schemas.{Slot, Declaration, Declared}
use Rattle.tl_schema.specs.CheckedPrograms.{IsSchema, IsSchemaOf}
use Rattle.tl_schema.specs.AskedTypes.{IsTypeText}
use Rattle.tl_schema.specs.Formed.{IsFormed, IsMember, IsFunction}
use Rattle.tl_types.specs.Values.{ValueView, ValueViews, no_values, value, depth}
use Rattle.tl_types.specs.Values as view
use Rattle.tl_types.specs.Spelling.{Spells}
use Rattle.tl_types.specs.declared.value.TheConstants.{MAX_LEVELS}

abbrev mutual
  -- the number of nodes: the value itself and all its parts
  pub nodes : ValueView → ℕ
  nodes (view.list vs) = suc (nodes_of vs)
  nodes (view.node i vs) = suc (nodes_of vs)
  nodes (view.call i vs) = suc (nodes_of vs)
  nodes v = 1

  pub nodes_of : ValueViews → ℕ
  nodes_of no_values = 0
  nodes_of (value v vs) = nodes v + nodes_of vs

-- ---- schemas

-- each declaration has at most 256 fields
abbrev pub HasFewFields : Declared → Type 0
HasFewFields schema = (i : ℕ) (d : Declaration) → slice_get schema.decls i ≡ Some d → length d.fields ≤ part_limit

-- each flag has a condition
abbrev pub FlagsHaveConditions : Declared → Type 0
FlagsHaveConditions schema =
    (i k : ℕ) (d : Declaration) (f : Slot) → slice_get schema.decls i ≡ Some d → slice_get d.fields k ≡ Some f → f.of ≡ type.flag → IsSome f.cond

-- it holds of the schema of each text, that is of each program that tokens of a text read as
abbrev pub HoldsOfTexts : (Declared → Type 0) → Type 0
HoldsOfTexts Holds = (text : List ℕ) (tokens : List Token) (ds : List DeclText) → Reads text tokens ds → (schema : Declared) → IsSchemaOf ds schema → Holds schema

-- ---- types

-- so many bytes has a double, an int128 or an int256
abbrev pub IsWidth : ℕ → Type 0
IsWidth n = (n ≡ 8) ⊎ (n ≡ 16) ⊎ (n ≡ 32)

abbrev mutual
  -- each opaque type in it has such a width
  pub HasWidths : Shape → Type 0
  HasWidths (type.opaque n) = IsWidth n
  HasWidths (type.vector is_boxed T) = HasWidths T
  HasWidths (type.boxed h args) = HaveWidths args
  HasWidths (type.bare i args) = HaveWidths args
  HasWidths T = Unit {0}

  pub HaveWidths : Shapes → Type 0
  HaveWidths type.no_shapes = Unit {0}
  HaveWidths (type.shape T args) = HasWidths T × HaveWidths args

-- it holds of each type that a text asks for
abbrev pub HoldsOfTypes : (Shape → Type 0) → Type 0
HoldsOfTypes Holds = (ds : List DeclText) (text : List ℕ) (T : Shape) → IsTypeText ds text T → Holds T

-- field k of declaration d has this type, with these in place of its variables
pub record IsFieldType (d : Declaration) (args : List Shape) (k : ℕ) (T : Shape) : Type 0 where
  pub f : Slot
  pub there : slice_get d.fields k ≡ Some f
  pub closes : T ≡ closed args f.of

-- The types whose values may be parts of a value of type T: the elements of a vector, the fields of each constructor of a boxed type, those of a
-- bare constructor, those of each function; and T itself.
pub data Uses (schema : Declared) (T : Shape) : Shape → Type 0 where
  itself : Uses schema T T
  element : (is_boxed : Bool) (U : Shape) → Uses schema T (type.vector is_boxed U) → Uses schema T U
  boxed : (h i k : ℕ) (d : Declaration) (args : Shapes) (U : Shape) → Uses schema T (type.boxed h args) → IsMember schema h i d → IsFieldType d (list_of_shapes args) k U → Uses schema T U
  bare : (i k : ℕ) (d : Declaration) (args : Shapes) (U : Shape) → Uses schema T (type.bare i args) → slice_get schema.decls i ≡ Some d → IsFieldType d (list_of_shapes args) k U → Uses schema T U
  call : (i k : ℕ) (d : Declaration) (U : Shape) → Uses schema T type.call → IsFunction schema i d → IsFieldType d [] k U → Uses schema T U

-- ---- the bound

-- a value of a type that T uses has at most E nodes where no bytes spell it
abbrev pub HasSmallEmpty : Declared → Shape → ℕ → Type 0
HasSmallEmpty schema T E = (U : Shape) (u : ValueView) → Uses schema T U → Spells schema U u [] → nodes u ≤ E

-- a value that n bytes spell has at most 32,768 E (n / 4 + 1) nodes
abbrev pub EachSizeIsBounded : Type 0
EachSizeIsBounded =
    (schema : Declared) → IsSchema schema → HasFewFields schema → FlagsHaveConditions schema → (T : Shape) → IsFormed schema T → HasWidths T
    → (E : ℕ) → 1 ≤ E → HasSmallEmpty schema T E → (v : ValueView) (b : List ℕ) → Spells schema T v b → depth v ≤ MAX_LEVELS → nodes v ≤ 32768 * E * (length b / 4 + 1)

-- ---- what a decoder gives

-- what the bound asks of a schema, of a type, and of E
pub record AllowsBound (schema : Declared) (T : Shape) (E : ℕ) : Type 0 where
  pub fields : HasFewFields schema
  pub flags : FlagsHaveConditions schema
  pub widths : HasWidths T
  pub one : 1 ≤ E
  pub small : HasSmallEmpty schema T E

-- a value after n bytes has at most 32,768 E (n / 4 + 1) nodes
abbrev pub HasFewNodes : Declared → Shape → ℕ → ValueView → Type 0
HasFewNodes schema T n v = (E : ℕ) → AllowsBound schema T E → nodes v ≤ 32768 * E * (n / 4 + 1)
