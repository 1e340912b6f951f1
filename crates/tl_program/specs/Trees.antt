-- Types as they are written, parentheses aside.
-- From "Formal description of TL" (core.telegram.org/mtproto/TL-formal), its terms and expressions.
use Rattle.std.specs.Prelude.{ℕ, List, [], ◌∷◌, map, Bool, false, bytes_eq}
use Rattle.std.specs.Box.{box_value}
use Rattle.tl_program.specs.declared.tree.TypeTree.{TypeTree, fold-TypeTree}
use Rattle.tl_program.specs.declared.tree.TypeTree.TheOpen.{TypeTree-F}

mutual
  -- a name and the types it is applied to, `%` and a type, or any call
  pub data Tree : Type 0 where
    named : List ℕ → Trees → Tree
    percent : Tree → Tree
    any_call : Tree

  pub data Trees : Type 0 where
    no_trees : Trees
    tree : Tree → Trees → Trees

-- a list of types, as the types that a name is applied to
abbrev pub trees_of : List Tree → Trees
trees_of [] = no_trees
trees_of (t ∷ ts) = tree t (trees_of ts)

-- a name that is applied to nothing
abbrev pub plain : List ℕ → Tree
plain name = named name no_trees

-- the type is this name, applied to nothing
abbrev pub is_plain : List ℕ → Tree → Bool
is_plain name (named own no_trees) = bytes_eq own name
is_plain name (named own (tree t ts)) = false
is_plain name (percent t) = false
is_plain name any_call = false

-- one level, with each type inside already seen as its tree
abbrev pub view_step : TypeTree-F Tree → Tree
view_step (TypeTree-F.Named name args) = named name (trees_of args.items)
view_step (TypeTree-F.Percent t) = percent (box_value t)
view_step (TypeTree-F.AnyCall) = any_call

-- a type that is kept, as its tree
abbrev pub view : TypeTree → Tree
view = fold-TypeTree Tree view_step

abbrev pub views : List TypeTree → List Tree
views ts = map view ts
