-- Which declarations a type reaches, as a graph: its nodes are the declarations, after them the types, one for calls, and one for the type that
-- is asked for. This project's own.
use Rattle.std.specs.Prelude.{ℕ, ◌+◌, List, [], ◌∷◌, ◌++◌, length, map, nat_lt, if◌then◌else◌}
use Rattle.tl_names.specs.Indexes.{types_of}
use Rattle.tl_schema.specs.Types.{Shape, Shapes, no_shapes, shape, call, vector, boxed, bare}
use Rattle.tl_schema.specs.Schemas.{Slot, Declared}

-- ---- over n declarations and t types

-- the node of a type
abbrev pub type_node : ℕ → ℕ → ℕ → List ℕ
type_node n t h = if nat_lt h t then (n + h) ∷ [] else []

-- that of a declaration
abbrev pub entry_node : ℕ → ℕ → List ℕ
entry_node n i = if nat_lt i n then i ∷ [] else []

abbrev mutual
  -- the nodes that a type names
  pub nodes_of : ℕ → ℕ → Shape → List ℕ
  nodes_of n t call = (n + t) ∷ []
  nodes_of n t (vector is_boxed T) = nodes_of n t T
  nodes_of n t (boxed h args) = type_node n t h ++ nodes_of_each n t args
  nodes_of n t (bare i args) = entry_node n i ++ nodes_of_each n t args
  nodes_of n t T = []

  pub nodes_of_each : ℕ → ℕ → Shapes → List ℕ
  nodes_of_each n t no_shapes = []
  nodes_of_each n t (shape T args) = nodes_of n t T ++ nodes_of_each n t args

-- those that the types of fields name
abbrev pub nodes_in : ℕ → ℕ → List Slot → List ℕ
nodes_in n t [] = []
nodes_in n t (f ∷ fs) = nodes_of n t f.of ++ nodes_in n t fs

-- ---- of a schema

abbrev pub type_total : Declared → ℕ
type_total S = length (types_of S.program)

abbrev pub declaration_lists : Declared → List (List ℕ)
declaration_lists S = map (λ d. nodes_in (length S.decls) (type_total S) d.fields) S.decls

-- the lists of all nodes, where these are those of types and that of calls
abbrev pub all_lists : Declared → Shape → List (List ℕ) → List ℕ → List (List ℕ)
all_lists S T lists called = declaration_lists S ++ (lists ++ called ∷ nodes_of (length S.decls) (type_total S) T ∷ [])
