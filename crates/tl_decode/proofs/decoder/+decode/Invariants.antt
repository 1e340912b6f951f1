use Rattle.std.proofs.Common.{◌+◌, ◌*◌, ◌-◌, map, drop, []}
use Rattle.tl_base.specs.Using.{Used}
use Rattle.tl_schema.specs.Seen.{shape, slot}
use Rattle.tl_types.specs.Seen.{view}
use Rattle.tl_types.specs.inner.Reading.{value_at, each_at, fields_at}
use Rattle.tl_decode.proofs.Steps.{Continues}
use Rattle.tl_decode.proofs.decoder.+decode.Given as goal

abbrev pub decreases-value_of : goal.decreases-value_of
decreases-value_of g l = 8 * l.walk.levels

abbrev pub decreases-deep_of : goal.decreases-deep_of
decreases-deep_of g l = 8 * l.walk.levels + 7

abbrev pub decreases-wide_of : goal.decreases-wide_of
decreases-wide_of g l = 8 * l.walk.levels + 6

abbrev pub decreases-list_of : goal.decreases-list_of
decreases-list_of g l = 8 * l.walk.levels + 5

abbrev pub decreases-elements_of : goal.decreases-elements_of
decreases-elements_of g l = 8 * l.walk.levels + 4

abbrev pub decreases-boxed_of : goal.decreases-boxed_of
decreases-boxed_of g l = 8 * l.walk.levels + 6

abbrev pub decreases-call_of : goal.decreases-call_of
decreases-call_of g l = 8 * l.walk.levels + 6

abbrev pub decreases-bare_of : goal.decreases-bare_of
decreases-bare_of g l = 8 * l.walk.levels + 6

abbrev pub decreases-fields_of : goal.decreases-fields_of
decreases-fields_of g l = 8 * l.walk.levels + 4

abbrev pub decreases-field_of : goal.decreases-field_of
decreases-field_of g l = 8 * l.walk.levels + 3

abbrev pub invariant-elements_of-loop-i : goal.invariant-elements_of-loop-i
invariant-elements_of-loop-i g l =
    let s = g.S.Source in
    let f = value_at l.walk.schema.now.decls l.walk.levels (shape l.item) in
    record {
      read : Continues (each_at f l.count []) (s.state l.fn.from).left (s.state l.from).left l.fn.at l.at (each_at f (l.count - l.i) (map view l.items.items));
      used : Used (s.state l.fn.from) (s.state l.from) ⊥;
    }

abbrev pub invariant-fields_of-loop-field : goal.invariant-fields_of-loop-field
invariant-fields_of-loop-field g l =
    let s = g.S.Source in
    let f = value_at l.walk.schema.now.decls l.walk.levels in
    let args = map shape l.args in
    record {
      read : Continues (fields_at f args [] (map slot l.slots)) (s.state l.fn.from).left (s.state l.from).left l.fn.at l.at (fields_at f args (map view l.fields.items) (map slot (drop l.field-index l.slots)));
      used : Used (s.state l.fn.from) (s.state l.from) ⊥;
    }
