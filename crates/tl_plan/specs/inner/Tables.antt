-- What a table of types keeps. This project's own.
use Rattle.std.specs.Prelude.{◌≡◌, ℕ, List, [], map, Some, Vec, slice_get}
use Rattle.tl_names.specs.NameIndexes.{index_among, indexes_in}
use Rattle.tl_schema.specs.Types.{Shape}
use Rattle.tl_plan.specs.Types.{levels}
use Rattle.tl_plan.specs.inner.Nodes.{AreBelow, AreDistinct, HasParts, NodeView, capped, key_of, type_by, types_after, types_at}
use Rattle.tl_plan.specs.declared.table.Node.{Node}

abbrev pub node_view : Node → NodeView
node_view n = record { form = n.form; parts = n.parts.items; levels = n.levels }

abbrev pub types_of_nodes : List Node → List Shape
types_of_nodes ns = types_after [] (map node_view ns)

-- node k has its type, of which the parts stand before it
pub record IsNode (Ts : List Shape) (k : ℕ) (n : NodeView) : Type 0 where
  pub below : AreBelow k n.parts
  pub parts : HasParts n.form n.parts
  pub type : slice_get Ts k ≡ Some (type_by n.form (types_at Ts n.parts))
  pub levels : n.levels ≡ capped (levels (type_by n.form (types_at Ts n.parts)))

-- each node is found by its key, and nothing else is found
pub record AreKeys (ns : List NodeView) (numbers : List (List ℕ × ℕ)) : Type 0 where
  pub found : (k : ℕ) (n : NodeView) → slice_get ns k ≡ Some n → index_among numbers (key_of n.form n.parts) ≡ Some k
  pub only : (key : List ℕ) (k : ℕ) → index_among numbers key ≡ Some k → (n : NodeView) × (slice_get ns k ≡ Some n) × (key ≡ key_of n.form n.parts)

pub record AreNodes (Ts : List Shape) (ns : List NodeView) (numbers : List (List ℕ × ℕ)) : Type 0 where
  pub each : (k : ℕ) (n : NodeView) → slice_get ns k ≡ Some n → IsNode Ts k n
  pub keys : AreKeys ns numbers
  pub distinct : AreDistinct Ts

abbrev pub IsTable : {A : Type 0} → List Node → List (Vec ℕ A × ℕ) → Type 0
IsTable ns entries = AreNodes (types_of_nodes ns) (map node_view ns) (indexes_in entries)
