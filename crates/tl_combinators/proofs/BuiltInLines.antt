-- What the line of a built-in type declares.
use Rattle.std.proofs.Common.{◌≡◌, List, [], ℕ, Option, false, true, refl}
use Rattle.tl_program.specs.declared.built_in.BuiltIn.{BuiltIn}
use Rattle.tl_program.specs.Trees.{Tree, plain}
use Rattle.tl_program.specs.Program.{DeclText, FieldText}
use Rattle.tl_program.specs.BuiltIns.{own_name, boxed_name}
use Rattle.tl_combinators.specs.BuiltInLines.{line_text}

pub line_is : (b : BuiltIn) (i : Option ℕ) (name text : List ℕ) (vars : List (List ℕ)) (fields : List FieldText) (t : Tree) → name ≡ own_name b → vars ≡ [] → fields ≡ [] → t ≡ plain (boxed_name b) → text ≡ []
    → ◌≡◌ {A = DeclText} (record { name = name; number = i; vars = vars; fields = fields; result = t; function = false; builtin = true; text = text }) (line_text b i)
line_is b i name text vars fields t n v f r d = rw (n, v, f, r, d) refl
