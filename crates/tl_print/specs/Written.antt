-- The form of a printed program, this project's own: a line for each declaration, with one space between its parts.
use Rattle.std.specs.Prelude.{ℕ, ◌+◌, ◌/◌, ◌%◌, List, [], ◌∷◌, ◌++◌, nat_lt, Bool, true, false, Option, Some, None, if◌then◌else◌, codes}
use Rattle.std.specs.Int.{w32, to_be_bytes}
use Rattle.hex.specs.Hex.{encode_lower}
use Rattle.tl_program.specs.declared.built_in.BuiltIn.{BuiltIn}
use Rattle.tl_program.specs.declared.built_in.BuiltIn.TheVariants.{Int, Long, Double, Str, Bytes, Vector, Int128, Int256}
use Rattle.tl_program.specs.Trees.{Tree, Trees, named, percent, any_call, no_trees, tree}
use Rattle.tl_program.specs.Program.{KindText, nat, flag, call, of, CondText, FieldText, DeclText}
use Rattle.tl_program.specs.BuiltIns.{built_in}

-- ---- types

-- what stands before a type in `<..>`: `<` before the first, and `,` before each other
abbrev pub opening : Bool → ℕ
opening true = 60
opening false = 44

-- what stands after the types in `<..>`: nothing if there are none, else `>`
abbrev pub closing : Bool → List ℕ
closing true = []
closing false = 62 ∷ []

abbrev mutual
  -- `name<a,b>`, `%type`; `!` for any call
  pub written_tree : Tree → List ℕ
  written_tree (named name args) = name ++ written_args true args
  written_tree (percent t) = 37 ∷ written_tree t
  written_tree any_call = 33 ∷ []

  -- the types in `<..>`, or those after the first
  pub written_args : Bool → Trees → List ℕ
  written_args first no_trees = closing first
  written_args first (tree t ts) = opening first ∷ (written_tree t ++ written_args false ts)

-- ---- fields

-- a number below a hundred, with one or two digits
abbrev pub written_bit : ℕ → List ℕ
written_bit n = if nat_lt n 10 then (48 + n) ∷ [] else (48 + n / 10 % 10) ∷ (48 + n % 10) ∷ []

-- `F.N?`, or nothing
abbrev pub written_condition : Option CondText → List ℕ
written_condition None = []
written_condition (Some c) = (c.flags ++ (46 ∷ [])) ++ (written_bit c.bit ++ (63 ∷ []))

-- what a field holds
abbrev pub written_kind : KindText → List ℕ
written_kind nat = 35 ∷ []
written_kind flag = codes "true"
written_kind (call var) = 33 ∷ var
written_kind (of t) = written_tree t

-- `name:type ` and the like
abbrev pub written_field : FieldText → List ℕ
written_field f = (f.name ++ (58 ∷ [])) ++ (written_condition f.cond ++ (written_kind f.kind ++ (32 ∷ [])))

-- fields, one after the other
abbrev pub written_fields : List FieldText → List ℕ
written_fields [] = []
written_fields (f ∷ fs) = written_field f ++ written_fields fs

-- ---- declarations

-- `#` and eight digits, or nothing
abbrev pub written_number : Option ℕ → List ℕ
written_number None = []
written_number (Some n) = 35 ∷ encode_lower (to_be_bytes w32 n)

-- `{X:Type} `
abbrev pub written_variable : List ℕ → List ℕ
written_variable v = (123 ∷ v) ++ codes ":Type} "

-- variables, one after the other
abbrev pub written_variables : List (List ℕ) → List ℕ
written_variables [] = []
written_variables (v ∷ vs) = written_variable v ++ written_variables vs

-- the line of a built-in type, after its name and number
abbrev pub written_line : BuiltIn → List ℕ
written_line Int = codes "? = Int;\n"
written_line Long = codes "? = Long;\n"
written_line Double = codes "? = Double;\n"
written_line Str = codes "? = String;\n"
written_line Bytes = codes "= Bytes;\n"
written_line Vector = codes "{t:Type} # [ t ] = Vector t;\n"
written_line Int128 = codes "4*[ int ] = Int128;\n"
written_line Int256 = codes "8*[ int ] = Int256;\n"

-- variables, fields and the result
abbrev pub written_parts : DeclText → List ℕ
written_parts d = written_variables d.vars ++ (written_fields d.fields ++ (codes "= " ++ (written_tree d.result ++ codes ";\n")))

-- what stands after the name and the number
abbrev pub written_rest : Option BuiltIn → DeclText → List ℕ
written_rest None d = written_parts d
written_rest (Some b) d = written_line b

-- a line: the name, the number, and the rest
abbrev pub written_declaration : DeclText → List ℕ
written_declaration d = d.name ++ (written_number d.number ++ (32 ∷ written_rest (built_in d.name) d))

-- ---- programs

-- the section of a declaration: a built-in line may stand in any
abbrev pub section_after : Bool → DeclText → Bool
section_after function d = if d.builtin then function else d.function

-- the mark of a section, where it isn't the one before
abbrev pub written_mark : Bool → Bool → List ℕ
written_mark true true = []
written_mark true false = codes "---types---\n"
written_mark false true = codes "---functions---\n"
written_mark false false = []

-- declarations that follow one of this section
abbrev pub written_program : Bool → List DeclText → List ℕ
written_program function [] = []
written_program function (d ∷ ds) =
    written_mark function (section_after function d) ++ (written_declaration d ++ written_program (section_after function d) ds)
