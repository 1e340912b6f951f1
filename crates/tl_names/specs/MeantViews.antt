-- The resolved types and declarations that the code's own stand for, and the names that its maps resolve. This project's own.
use Rattle.std.specs.Prelude.{◌≡◌, ℕ, List, map, Option, bytes_eq, position}
use Rattle.std.specs.Box.{box_value}
use Rattle.tl_program.specs.Program.{FieldText, DeclText}
use Rattle.tl_names.specs.What.{known_what, unless_variable}
use Rattle.tl_names.specs.NameIndexes.{index_among}
use Rattle.tl_names.specs.NameLists.{position_of}
use Rattle.tl_names.specs.Meants.{MeantView, named, percent, any_call, meants_of}
use Rattle.tl_names.specs.MeantDecls.{MeantKindView, nat, flag, call, of, MeantFieldView, MeantDeclView}
use Rattle.tl_names.specs.declared.what.What.{What}
use Rattle.tl_names.specs.declared.meant.Meant.{Meant, fold-Meant}
use Rattle.tl_names.specs.declared.meant.Meant.TheOpen.{Meant-F}
use Rattle.tl_names.specs.declared.meant.MeantKind.{MeantKind}
use Rattle.tl_names.specs.declared.meant.MeantKind.TheVariants.{Nat, Flag, Call, Of}
use Rattle.tl_names.specs.declared.meant.MeantField.{MeantField}
use Rattle.tl_names.specs.declared.meant.MeantDecl.{MeantDecl}

-- one level, with each type inside already seen
abbrev pub meant_step : Meant-F MeantView → MeantView
meant_step (Meant-F.Named what args) = named what (meants_of args.items)
meant_step (Meant-F.Percent m) = percent (box_value m)
meant_step (Meant-F.AnyCall) = any_call

abbrev pub meant_view : Meant → MeantView
meant_view = fold-Meant MeantView meant_step

abbrev pub kind_view : MeantKind → MeantKindView
kind_view Nat = nat
kind_view Flag = flag
kind_view (Call variable) = call variable
kind_view (Of m) = of (meant_view m)

abbrev pub field_view : MeantField → MeantFieldView
field_view f = record { cond = f.cond; kind = kind_view f.kind }

abbrev pub decl_view : MeantDecl → MeantDeclView
decl_view d = record {
  vars = d.vars;
  fields = map field_view d.fields.items;
  result = meant_view d.result;
  function = d.function;
  builtin = d.builtin;
  head = d.head;
}

-- ---- maps of a declaration's names

-- what a name means, with these variables
abbrev pub what_in : List DeclText → List (List ℕ × ℕ) → List ℕ → What
what_in ds vars name = unless_variable (index_among vars name) (known_what ds name)

-- each variable has the first index at which it stands
abbrev pub NumbersNames : List (List ℕ) → List (List ℕ × ℕ) → Type 0
NumbersNames names numbers = (name : List ℕ) → index_among numbers name ≡ position_of name names

-- the first field with the name
abbrev pub field_in : List FieldText → List ℕ → Option ℕ
field_in fields name = position (λ f. bytes_eq name f.name) fields
