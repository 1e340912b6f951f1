-- Why a schema's text, a type's and an input of JSON are refused, and why a type has no plan, named as their lines name them. This project's own.
use Rattle.std.specs.Prelude.{ℕ, List}
use Rattle.tl_combinators.specs.declared.fault.UnsupportedForm.{UnsupportedForm}
use Rattle.tl_schema.specs.declared.fault.CheckCause.{CheckCause}
use Rattle.tl_schema.specs.declared.fault.TypeCause.{TypeCause}
use Rattle.tl_show.specs.declared.fault.FormCause.{FormCause}
use Rattle.tl_types.specs.declared.misfit.MisfitCause.{MisfitCause}

-- a text: it is too long; the byte at this offset begins no token and no comment; the comment that begins there is never closed; no rule of the grammar
-- admits the token there, or the end of the text; a form that is left out stands there; one item more than there may be begins there
pub data TextCause : Type 0 where
  TextTooLong : TextCause
  BadByte : (at : ℕ) → TextCause
  OpenComment : (at : ℕ) → TextCause
  Unexpected : (at : ℕ) → TextCause
  NotProfile : (at : ℕ) (form : UnsupportedForm) → TextCause
  TooMany : (at : ℕ) → TextCause

-- a schema's text: as a text; or this declaration is the first that has this cause, the first in the order of the checks
pub data SchemaCause : Type 0 where
  Text : (cause : TextCause) → SchemaCause
  Checked : (decl : ℕ) (cause : CheckCause) → SchemaCause

-- a word that is a type: as a text; or the type has this cause, the first in the order of the checks
pub data TypeNameCause : Type 0 where
  Word : (cause : TextCause) → TypeNameCause
  Asked : (cause : TypeCause) → TypeNameCause

-- a type: one of those that it reaches has more than 16 levels, and this declaration has the field that names the first such; or it reaches more than 65,536
pub data PlanCause : Type 0 where
  TypeTooDeep : (decl : ℕ) → PlanCause
  TooManyInstances : PlanCause

-- an input of JSON: it is too long; it is no UTF-8, no JSON, or JSON of more than 127 levels; it isn't of the form of the type's values, or is of the form
-- of one that doesn't fit, at the part to which this path leads, the outermost step first
pub data JsonCause : Type 0 where
  TooLong : JsonCause
  NoJson : JsonCause
  Unformed : (path : List ℕ) (cause : FormCause) → JsonCause
  Misfit : (path : List ℕ) (cause : MisfitCause) → JsonCause
