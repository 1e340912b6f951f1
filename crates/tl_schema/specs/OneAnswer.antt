-- A program is a schema or is refused, and a text a type or refused: one of the two, and in one way. This project's own.
use Rattle.std.specs.Prelude.{◌≡◌, ◌⊎◌, ℕ, ◌<◌, ◌^◌, List, Some}
use Rattle.tl_program.specs.Program.{DeclText}
use Rattle.tl_names.specs.Writing.{At}
use Rattle.tl_schema.specs.Types.{Shape}
use Rattle.tl_schema.specs.Schemas.{Declared}
use Rattle.tl_schema.specs.CheckCauses.{RefusedAt}
use Rattle.tl_schema.specs.CheckedPrograms.{IsSchemaOf}
use Rattle.tl_schema.specs.AskedTypes.{IsTypeText, TypeTextRefused}
use Rattle.tl_schema.specs.declared.fault.CheckCause.{CheckCause}
use Rattle.tl_schema.specs.declared.fault.TypeFault.{TypeFault}

-- each written number is one of four bytes
abbrev pub NumbersFit : List DeclText → Type 0
NumbersFit ds = (k n : ℕ) (d : DeclText) → At ds k d → d.number ≡ Some n → n < 2 ^ 32

-- the program has one schema, or is refused at one declaration for one cause
pub record IsOneSchemaOrRefused (ds : List DeclText) : Type 0 where
  pub either : ((schema : Declared) × IsSchemaOf ds schema) ⊎ ((k : ℕ) × (cause : CheckCause) × RefusedAt ds k cause)
  pub never_both : (schema : Declared) (k : ℕ) (cause : CheckCause) → IsSchemaOf ds schema → RefusedAt ds k cause → ⊥
  pub one_schema : (s u : Declared) → IsSchemaOf ds s → IsSchemaOf ds u → s ≡ u
  pub one_refusal : (k j : ℕ) (c d : CheckCause) → RefusedAt ds k c → RefusedAt ds j d → (k ≡ j) × (c ≡ d)

-- the text is one type of the program, or is refused for one fault
pub record IsOneTypeOrRefused (ds : List DeclText) (text : List ℕ) : Type 0 where
  pub either : ((s : Shape) × IsTypeText ds text s) ⊎ ((fault : TypeFault) × TypeTextRefused ds text fault)
  pub never_both : (s : Shape) (fault : TypeFault) → IsTypeText ds text s → TypeTextRefused ds text fault → ⊥
  pub one_type : (s u : Shape) → IsTypeText ds text s → IsTypeText ds text u → s ≡ u
  pub one_fault : (f g : TypeFault) → TypeTextRefused ds text f → TypeTextRefused ds text g → f ≡ g
