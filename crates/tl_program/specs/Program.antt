-- Program text: what a text declares, as lists of names and numbers. These are the parts of the grammar's declarations.
-- From "TL language" (core.telegram.org/mtproto/TL) and "Formal description of TL" (core.telegram.org/mtproto/TL-formal), its combinator declarations.
use Rattle.std.specs.Prelude.{ℕ, ◌+◌, ◌≤◌, List, length, map, Bool, Option, Some, None}
use Rattle.std.specs.List.{All}
use Rattle.tl_program.specs.declared.program.FieldKind.{FieldKind}
use Rattle.tl_program.specs.declared.program.FieldKind.TheVariants.{Nat, Flag, Call, Of}
use Rattle.tl_program.specs.declared.program.Cond.{Cond}
use Rattle.tl_program.specs.declared.program.Field.{Field}
use Rattle.tl_program.specs.declared.program.Decl.{Decl}
use Rattle.tl_program.specs.declared.program.Program.{Program}
use Rattle.tl_program.specs.Trees.{Tree, view}

-- a program has at most so many declarations
abbrev pub declaration_limit : ℕ
declaration_limit = 16384

-- a declaration has at most so many variables and fields together
abbrev pub part_limit : ℕ
part_limit = 256

-- what a field holds: `#`, a flag `?true`, a call `!X`, or a type
pub data KindText : Type 0 where
  nat : KindText
  flag : KindText
  call : List ℕ → KindText
  of : Tree → KindText

-- `F.N?`: the name of a `#` field and the number of one of its bits
pub record CondText : Type 0 where
  pub flags : List ℕ
  pub bit : ℕ

-- a name, `F.N?` or none, and what the field holds
pub record FieldText : Type 0 where
  pub name : List ℕ
  pub cond : Option CondText
  pub kind : KindText

-- a declaration; text is the description, on which an unwritten number rests
pub record DeclText : Type 0 where
  pub name : List ℕ
  pub number : Option ℕ
  pub vars : List (List ℕ)
  pub fields : List FieldText
  pub result : Tree
  pub function : Bool
  pub builtin : Bool
  pub text : List ℕ

-- what the code keeps, as its text
abbrev pub kind_text : FieldKind → KindText
kind_text Nat = nat
kind_text Flag = flag
kind_text (Call var) = call var
kind_text (Of tree) = of (view tree)

abbrev pub cond_text : Cond → CondText
cond_text c = record { flags = c.flags; bit = c.bit }

abbrev pub cond_texts : Option Cond → Option CondText
cond_texts None = None
cond_texts (Some c) = Some (cond_text c)

abbrev pub field_text : Field → FieldText
field_text f = record { name = f.name; cond = cond_texts f.cond; kind = kind_text f.kind }

abbrev pub decl_text : Decl → DeclText
decl_text d = record {
  name = d.name;
  number = d.number;
  vars = d.vars.items;
  fields = map field_text d.fields.items;
  result = view d.result;
  function = d.function;
  builtin = d.builtin;
  text = d.text;
}

-- the declarations of a program, in order
abbrev pub program_text : Program → List DeclText
program_text p = map decl_text p.decls.items

-- ---- limits

-- the declaration has at most 256 variables and fields together
abbrev pub HasFewParts : DeclText → Type 0
HasFewParts d = length d.vars + length d.fields ≤ part_limit

-- a program within the limits: at most 16,384 declarations, each of few parts
pub record IsWithinLimits (ds : List DeclText) : Type 0 where
  pub declarations : length ds ≤ declaration_limit
  pub parts : All HasFewParts ds
