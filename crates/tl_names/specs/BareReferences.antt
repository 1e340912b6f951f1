-- Which constructors a declaration refers to bare.
-- From "TL language" (core.telegram.org/mtproto/TL), its bare types: a constructor's name is a bare type, and so is `%` before a type with one constructor.
use Rattle.std.specs.Prelude.{◌≡◌, ℕ, List, Some, true, false}
use Rattle.tl_program.specs.Trees.{Tree, Trees, named, percent}
use Rattle.tl_program.specs.Program.{DeclText}
use Rattle.tl_graph.specs.Firsts.{First}
use Rattle.tl_names.specs.Writing.{At, is_constructor, is_type_name, is_built_in, is_variable, IsConstructorNamed}
use Rattle.tl_names.specs.Parts.{InFields}
use Rattle.tl_names.specs.Constructors.{IsOnlyConstructor}

-- where d writes it, the type is the bare constructor j
pub data IsBareOf (ds : List DeclText) (d : DeclText) (t : Tree) (j : ℕ) : Type 0 where
  -- by its name; where several have the name, the first
  by_name : (name : List ℕ) (args : Trees) → t ≡ named name args → is_variable d name ≡ false → is_built_in name ≡ false → is_type_name name ≡ false
      → First (λ i. (c : DeclText) × IsConstructorNamed ds name i c) (Some j) → IsBareOf ds d t j
  -- as the only constructor of a type after `%`
  by_type : (type : List ℕ) (args : Trees) (c : DeclText) → t ≡ percent (named type args) → is_variable d type ≡ false → is_built_in type ≡ false → is_type_name type ≡ true
      → IsOnlyConstructor ds type j c → IsBareOf ds d t j

-- constructor k refers to constructor j: a type in its fields, or a part of one at any depth, is j, bare
pub record PointsTo (ds : List DeclText) (k j : ℕ) : Type 0 where
  pub d : DeclText
  pub t : Tree
  pub here : At ds k d
  pub own : is_constructor d ≡ true
  pub there : InFields d t
  pub bare : IsBareOf ds d t j
