-- The sixth check: what stands after `%`.
-- From "TL language" and "Formal description of TL" (core.telegram.org/mtproto/TL, /mtproto/TL-formal), their bare types.
use Rattle.std.specs.Prelude.{◌≡◌, ℕ, List, true, false, codes}
use Rattle.tl_program.specs.Trees.{Tree, Trees, named, percent, any_call}
use Rattle.tl_program.specs.Program.{DeclText}
use Rattle.tl_names.specs.Constructors.{IsOnlyConstructor}
use Rattle.tl_names.specs.Writing.{is_type_name, is_variable}
use Rattle.tl_names.specs.Writing.{DeclarationHas}
use Rattle.tl_names.specs.Parts.{SomeWritten}

-- the type has a bare form: it is `Vector`, or a type with exactly one constructor
pub data HasBare (ds : List DeclText) (d : DeclText) (t : Tree) : Type 0 where
  vector : (args : Trees) → is_variable d (codes "Vector") ≡ false → t ≡ named (codes "Vector") args → HasBare ds d t
  single : (type : List ℕ) (args : Trees) (j : ℕ) (c : DeclText) → is_variable d type ≡ false → is_type_name type ≡ true → t ≡ named type args → IsOnlyConstructor ds type j c → HasBare ds d t

-- `%` before a type that has none
abbrev pub HasNoBare : List DeclText → DeclText → Tree → Type 0
HasNoBare ds d (named name args) = ⊥
HasNoBare ds d (percent t) = HasBare ds d t → ⊥
HasNoBare ds d any_call = ⊥

-- declaration k writes such a type
abbrev pub NotBare : List DeclText → ℕ → Type 0
NotBare ds = DeclarationHas (SomeWritten (HasNoBare ds)) ds
