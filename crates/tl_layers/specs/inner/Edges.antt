-- What the lists of a graph's nodes are. This project's own.
use Rattle.std.specs.Prelude.{◌≡◌, ℕ, ◌+◌, ◌<◌, List, length, Some, slice_get}
use Rattle.tl_schema.specs.Types.{Shape}
use Rattle.tl_schema.specs.Schemas.{Declaration, Declared}
use Rattle.tl_plan.specs.Entries.{constructors_of, functions_of}
use Rattle.tl_layers.specs.inner.Graphs.{nodes_in, nodes_of, type_total}

-- a declaration points to what the types of its fields name, a type to its constructors, calls to each function, and the last node to what the
-- type that is asked for names
pub record AreEdges (S : Declared) (T : Shape) (edges : List (List ℕ)) : Type 0 where
  pub count : length edges ≡ length S.decls + type_total S + 2
  pub declaration : (i : ℕ) (d : Declaration) → slice_get S.decls i ≡ Some d → slice_get edges i ≡ Some (nodes_in (length S.decls) (type_total S) d.fields)
  pub type : (h : ℕ) → h < type_total S → slice_get edges (length S.decls + h) ≡ Some (constructors_of S h)
  pub called : slice_get edges (length S.decls + type_total S) ≡ Some (functions_of S)
  pub root : slice_get edges (length S.decls + type_total S + 1) ≡ Some (nodes_of (length S.decls) (type_total S) T)
