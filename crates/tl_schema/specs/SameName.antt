-- The first check: names.
-- From "TL language" (core.telegram.org/mtproto/TL): a combinator goes by its name.
use Rattle.std.specs.Prelude.{◌≡◌, ℕ, ◌<◌, List, ◌++◌, map, false, codes}
use Rattle.tl_program.specs.Trees.{Trees, named}
use Rattle.tl_program.specs.Program.{DeclText}
use Rattle.tl_names.specs.Writing.{At, is_variable}
use Rattle.tl_names.specs.NameLists.{IsRepeat}

-- the names of a declaration's variables, then those of its fields
abbrev pub part_names : DeclText → List (List ℕ)
part_names d = d.vars ++ map (λ f. f.name) d.fields

-- an earlier declaration has this name, and both are functions or both are constructors; a line of a built-in type is a constructor
pub record IsNamedBefore (ds : List DeclText) (k : ℕ) : Type 0 where
  pub earlier : ℕ
  pub c : DeclText
  pub d : DeclText
  pub before : earlier < k
  pub there : At ds earlier c
  pub here : At ds k d
  pub kind : c.function ≡ d.function
  pub name : c.name ≡ d.name

-- declaration k has a name that is taken
pub data SameName (ds : List DeclText) (k : ℕ) : Type 0 where
  -- an earlier constructor or function has its name
  declared : IsNamedBefore ds k → SameName ds k
  -- one of its variables and fields has the name of an earlier one
  part : (d : DeclText) (i : ℕ) → At ds k d → IsRepeat (part_names d) i → SameName ds k
  -- it is a constructor of `Vector`, and no line of a built-in type
  vector : (d : DeclText) (args : Trees) → At ds k d → d.function ≡ false → d.builtin ≡ false → is_variable d (codes "Vector") ≡ false → d.result ≡ named (codes "Vector") args → SameName ds k
