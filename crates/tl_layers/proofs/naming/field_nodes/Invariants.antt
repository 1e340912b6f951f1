use Rattle.std.proofs.Common.{◌≡◌, take, map}
use Rattle.tl_schema.specs.Seen.{slot}
use Rattle.tl_layers.specs.inner.Graphs.{nodes_in}
use Rattle.tl_layers.proofs.naming.field_nodes.Given as goal

abbrev pub invariant-loop-field : goal.invariant-loop-field
invariant-loop-field l = l.nodes.items ≡ nodes_in l.count l.types (map slot (take l.field-index l.fields))
