use Rattle.std.proofs.Common.{◌≡◌, ◌++◌, take, map}
use Rattle.tl_schema.specs.Seen.{shape}
use Rattle.tl_schema.specs.Types.{shapes_of}
use Rattle.tl_layers.specs.inner.Graphs.{nodes_of_each}
use Rattle.tl_layers.proofs.naming.+nodes.Given as goal

abbrev pub invariant-name_all-loop-of : goal.invariant-name_all-loop-of
invariant-name_all-loop-of l = l.nodes.items ≡ l.fn.nodes.items ++ nodes_of_each l.count l.types (shapes_of (map shape (take l.of-index l.of-items)))
