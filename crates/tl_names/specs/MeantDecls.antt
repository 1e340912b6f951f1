-- Declarations with each name resolved.
-- From "TL language" and "Formal description of TL" (core.telegram.org/mtproto/TL, /mtproto/TL-formal).
use Rattle.std.specs.Prelude.{ℕ, List, length, map, Bool, Option, Some, None}
use Rattle.std.specs.Option.{option_map}
use Rattle.tl_program.specs.Program.{KindText, CondText, FieldText, DeclText}
use Rattle.tl_program.specs.Program as written
use Rattle.tl_names.specs.Writing.{own_type}
use Rattle.tl_names.specs.What.{variable_named, field_named, type_named, what_of}
use Rattle.tl_names.specs.Meants.{MeantView, meant, meant_by}
use Rattle.tl_names.specs.declared.what.What.{What}
use Rattle.tl_names.specs.declared.meant.MeantCond.{MeantCond}

-- what a field holds: `#`, a flag, a call with the index of its variable, or a type
pub data MeantKindView : Type 0 where
  nat : MeantKindView
  flag : MeantKindView
  call : Option ℕ → MeantKindView
  of : MeantView → MeantKindView

pub record MeantFieldView : Type 0 where
  pub cond : Option MeantCond
  pub kind : MeantKindView

-- head is the number of the type that it constructs, if it does
pub record MeantDeclView : Type 0 where
  pub vars : ℕ
  pub fields : List MeantFieldView
  pub result : MeantView
  pub function : Bool
  pub builtin : Bool
  pub head : Option ℕ

-- ---- with types, variables and fields resolved so

abbrev pub cond_by : (List ℕ → Option ℕ) → CondText → MeantCond
cond_by field c = record { flags = field c.flags; bit = c.bit }

abbrev pub kind_by : (List ℕ → What) → (List ℕ → Option ℕ) → KindText → MeantKindView
kind_by what variable written.nat = nat
kind_by what variable written.flag = flag
kind_by what variable (written.call var) = call (variable var)
kind_by what variable (written.of t) = of (meant_by what t)

abbrev pub field_by : (List ℕ → What) → (List ℕ → Option ℕ) → (List ℕ → Option ℕ) → FieldText → MeantFieldView
field_by what variable field f = record { cond = option_map (cond_by field) f.cond; kind = kind_by what variable f.kind }

-- ---- where d writes it

abbrev pub meant_field : List DeclText → DeclText → FieldText → MeantFieldView
meant_field ds d f = field_by (what_of ds d) (variable_named d) (field_named d) f

-- the number of the type with this name
abbrev pub head_number : List DeclText → Option (List ℕ) → Option ℕ
head_number ds (Some type) = type_named ds type
head_number ds None = None

abbrev pub meant_decl : List DeclText → DeclText → MeantDeclView
meant_decl ds d = record {
  vars = length d.vars;
  fields = map (meant_field ds d) d.fields;
  result = meant ds d d.result;
  function = d.function;
  builtin = d.builtin;
  head = head_number ds (own_type d);
}
