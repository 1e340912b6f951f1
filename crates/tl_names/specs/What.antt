-- What a name means where a declaration writes it.
-- From "TL language" and "Formal description of TL" (core.telegram.org/mtproto/TL, /mtproto/TL-formal).
use Rattle.std.specs.Prelude.{ℕ, List, true, false, ◌&&◌, bytes_eq, codes, position, Option, Some, None, if◌then◌else◌}
use Rattle.tl_program.specs.Program.{DeclText}
use Rattle.tl_program.specs.BuiltIns.{built_in}
use Rattle.tl_program.specs.declared.built_in.BuiltIn.{BuiltIn}
use Rattle.tl_names.specs.Writing.{is_constructor, is_type_name}
use Rattle.tl_names.specs.NameLists.{position_of}
use Rattle.tl_names.specs.Indexes.{types_of}
use Rattle.tl_names.specs.declared.what.What.{What}

-- the index of the variable, of the first constructor and of the first field of a name, and the number of the type
abbrev pub variable_named : DeclText → List ℕ → Option ℕ
variable_named d name = position_of name d.vars

abbrev pub constructor_named : List DeclText → List ℕ → Option ℕ
constructor_named ds name = position (λ d. is_constructor d && bytes_eq name d.name) ds

abbrev pub type_named : List DeclText → List ℕ → Option ℕ
type_named ds name = position_of name (types_of ds)

abbrev pub field_named : DeclText → List ℕ → Option ℕ
field_named d name = position (λ f. bytes_eq name f.name) d.fields

-- what is declared under the name: a type that a constructor makes, or a constructor
abbrev pub type_what : Option ℕ → What
type_what (Some number) = What.Type number
type_what None = What.Unknown

abbrev pub constructor_what : Option ℕ → What
constructor_what (Some index) = What.Constructor index
constructor_what None = What.Unknown

abbrev pub declared_what : List DeclText → List ℕ → What
declared_what ds name = if is_type_name name then type_what (type_named ds name) else constructor_what (constructor_named ds name)

-- a built-in bare type
abbrev pub base_what : BuiltIn → What
base_what BuiltIn.Int = What.Base BuiltIn.Int
base_what BuiltIn.Long = What.Base BuiltIn.Long
base_what BuiltIn.Double = What.Base BuiltIn.Double
base_what BuiltIn.Str = What.Base BuiltIn.Str
base_what BuiltIn.Bytes = What.Base BuiltIn.Bytes
base_what BuiltIn.Vector = What.Vector false
base_what BuiltIn.Int128 = What.Base BuiltIn.Int128
base_what BuiltIn.Int256 = What.Base BuiltIn.Int256

-- a built-in name, or what is declared under the name
abbrev pub unless_built_in : Option BuiltIn → List DeclText → List ℕ → What
unless_built_in (Some b) ds name = base_what b
unless_built_in None ds name = if bytes_eq name (codes "Vector") then What.Vector true else declared_what ds name

-- what the name means where no variable has it
abbrev pub known_what : List DeclText → List ℕ → What
known_what ds name = unless_built_in (built_in name) ds name

-- a variable hides every other meaning
abbrev pub unless_variable : Option ℕ → What → What
unless_variable (Some index) what = What.Variable index
unless_variable None what = what

-- what the name means where d writes it
abbrev pub what_of : List DeclText → DeclText → List ℕ → What
what_of ds d name = unless_variable (variable_named d name) (known_what ds name)

-- the number of the type that is meant, where a constructor makes one; `Vector` may have constructors too
abbrev pub type_meant : List DeclText → What → Option ℕ
type_meant ds (What.Variable index) = None
type_meant ds (What.Base b) = None
type_meant ds (What.Vector false) = None
type_meant ds (What.Vector true) = type_named ds (codes "Vector")
type_meant ds (What.Type number) = Some number
type_meant ds (What.Constructor index) = None
type_meant ds What.Unknown = None
