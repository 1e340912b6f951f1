-- What the declarations of a program mean: their types, their fields and their entries.
-- From "TL language" and "Formal description of TL" (core.telegram.org/mtproto/TL, /mtproto/TL-formal). That types and declarations go by
-- their indexes is this project's own.
-- In a program that passes the checks each name has a declaration, and each application the right number of arguments. What these
-- definitions say where that is not so is of no use: an index past the end, or a call in place of a type.
use Rattle.std.specs.Prelude.{◌≡◌, ℕ, ◌<◌, ◌^◌, List, length, map, Bool, true, false, bytes_eq, codes, Option, None, unwrap_or, if◌then◌else◌}
use Rattle.std.specs.Option.{option_map}
use Rattle.tl_program.specs.Trees.{Tree}
use Rattle.tl_program.specs.Program.{FieldText, DeclText}
use Rattle.tl_program.specs.BuiltIns.{built_in}
use Rattle.tl_program.specs.declared.built_in.BuiltIn.{BuiltIn}
use Rattle.tl_names.specs.Writing.{At, is_function, own_type}
use Rattle.tl_names.specs.Indexes.{types_of, first_numbered}
use Rattle.tl_names.specs.Meants.{MeantView, named, percent, any_call, MeantViews, no_meants, and_meant, meant}
use Rattle.tl_names.specs.MeantDecls.{MeantKindView, nat, flag, call, of, MeantFieldView, head_number, meant_field}
use Rattle.tl_names.specs.declared.meant.MeantCond.{MeantCond}
use Rattle.tl_names.specs.declared.what.What.{What}
use Rattle.tl_schema.specs.Numbers.{IsNumberOf}
use Rattle.tl_schema.specs.Types.{Shape, Shapes, no_shapes, shape}
use Rattle.tl_schema.specs.Types as shape
use Rattle.tl_schema.specs.Schemas.{Slot, Declaration, vector_number}

-- ---- types

-- a built-in type, as its line has it: `vector` is boxed there, and of a variable
abbrev pub built_in_shape : BuiltIn → Shape
built_in_shape BuiltIn.Int = shape.int
built_in_shape BuiltIn.Long = shape.long
built_in_shape BuiltIn.Double = shape.opaque 8
built_in_shape BuiltIn.Str = shape.str
built_in_shape BuiltIn.Bytes = shape.raw
built_in_shape BuiltIn.Vector = shape.vector true (shape.var 0)
built_in_shape BuiltIn.Int128 = shape.opaque 16
built_in_shape BuiltIn.Int256 = shape.opaque 32

-- the only type of an application
abbrev pub item_of : Shapes → Shape
item_of no_shapes = shape.call
item_of (shape s ss) = s

-- a name that means this, applied to these types
abbrev pub named_shape : What → Shapes → Shape
named_shape (What.Variable i) args = shape.var i
named_shape (What.Base b) args = built_in_shape b
named_shape (What.Vector is_boxed) args = shape.vector is_boxed (item_of args)
named_shape (What.Type n) args = shape.boxed n args
named_shape (What.Constructor i) args = shape.bare i args
named_shape What.Unknown args = shape.call

-- a type after `%`: a vector without its number, and the first constructor of a type
abbrev pub bare_form : List DeclText → Shape → Shape
bare_form ds (shape.vector is_boxed s) = shape.vector false s
bare_form ds (shape.boxed n args) = shape.bare (first_numbered ds n) args
bare_form ds s = s

abbrev mutual
  -- a resolved type
  pub meant_shape : List DeclText → MeantView → Shape
  meant_shape ds (named what ms) = named_shape what (meant_shapes ds ms)
  meant_shape ds (percent m) = bare_form ds (meant_shape ds m)
  meant_shape ds any_call = shape.call

  pub meant_shapes : List DeclText → MeantViews → Shapes
  meant_shapes ds no_meants = no_shapes
  meant_shapes ds (and_meant m ms) = shape (meant_shape ds m) (meant_shapes ds ms)

-- a type, where d writes it
abbrev pub meaning : List DeclText → DeclText → Tree → Shape
meaning ds d t = meant_shape ds (meant ds d t)

-- ---- entries

abbrev pub kind_shape : List DeclText → MeantKindView → Shape
kind_shape ds nat = shape.nat
kind_shape ds flag = shape.flag
kind_shape ds (call variable) = shape.call
kind_shape ds (of m) = meant_shape ds m

-- the index of the variable that a call's result is
abbrev pub kind_variable : MeantKindView → Option ℕ
kind_variable nat = None
kind_variable flag = None
kind_variable (call variable) = variable
kind_variable (of m) = None

-- the index of the `#` field among so many, and the bit
abbrev pub condition_of : ℕ → MeantCond → ℕ × ℕ
condition_of n c = (unwrap_or c.flags n, c.bit)

-- a resolved field of this name, among so many
abbrev pub meant_slot : List DeclText → ℕ → List ℕ → MeantFieldView → Slot
meant_slot ds n name f = record { name = name; cond = option_map (condition_of n) f.cond; var = kind_variable f.kind; of = kind_shape ds f.kind }

abbrev pub slot_of : List DeclText → DeclText → FieldText → Slot
slot_of ds d f = meant_slot ds (length d.fields) f.name (meant_field ds d f)

-- the type of the line of a built-in type
abbrev pub line_shape : List ℕ → Shape
line_shape name = unwrap_or (option_map built_in_shape (built_in name)) shape.call

abbrev pub result_shape : List DeclText → DeclText → Shape
result_shape ds d = if d.builtin then line_shape d.name else meaning ds d d.result

-- the number of the type that a declaration constructs, or the number of types
abbrev pub head_in : List DeclText → Option (List ℕ) → ℕ
head_in ds type = unwrap_or (head_number ds type) (length (types_of ds))

-- the entry of declaration d, with this number
abbrev pub declaration_of : List DeclText → DeclText → ℕ → Declaration
declaration_of ds d n = record {
  name = d.name;
  number = n;
  vars = length d.vars;
  fields = map (slot_of ds d) d.fields;
  function = is_function d;
  head = head_in ds (own_type d);
  result = result_shape ds d;
}

-- the number of the line of a built-in type: 1cb5c415 for `vector`, and none that counts for the others
abbrev pub line_number : List ℕ → ℕ
line_number name = if bytes_eq name (codes "vector") then vector_number else 0

abbrev pub IsNumberWhere : Bool → DeclText → ℕ → Type 0
IsNumberWhere true d n = n ≡ line_number d.name
IsNumberWhere false d n = IsNumberOf d n

-- the number of an entry: the declaration's, or its line's
abbrev pub IsEntryNumber : DeclText → ℕ → Type 0
IsEntryNumber d n = IsNumberWhere d.builtin d n

-- the parts of each declaration can be counted in 32 bits
pub record IsSmall (ds : List DeclText) : Type 0 where
  pub few : length ds < 2 ^ 32
  pub variables : (k : ℕ) (d : DeclText) → At ds k d → length d.vars < 2 ^ 32
  pub fields : (k : ℕ) (d : DeclText) → At ds k d → length d.fields < 2 ^ 32

-- e is the entry of declaration d
abbrev pub IsEntry : List DeclText → DeclText → Declaration → Type 0
IsEntry ds d e = IsEntryNumber d e.number × (e ≡ declaration_of ds d e.number)
