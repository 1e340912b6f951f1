use Rattle.std.proofs.Common.{◌≡◌, [], drop, map}
use Rattle.serde_json.specs.View.{items_view, members_view}
use Rattle.tl_schema.specs.Seen.{shape}
use Rattle.tl_types.specs.Seen.{view}
use Rattle.tl_show.specs.Reading.{each_element, each_field, parts, readers}
use Rattle.tl_show.specs.inner.Keyed.{keyed_slot}
use Rattle.tl_show.proofs.reading.+read.Given as goal

abbrev pub invariant-elements_of-loop-i : goal.invariant-elements_of-loop-i
invariant-elements_of-loop-i l =
    let ds = l.schema.decls in
    each_element l.i (shape l.of) (map view l.values.items) (readers ds (items_view (drop l.i l.item-items)))
    ≡ each_element 0 (shape l.of) [] (readers ds (items_view l.item-items))

abbrev pub invariant-fields_of-loop-i : goal.invariant-fields_of-loop-i
invariant-fields_of-loop-i l =
    let ps = parts l.schema.decls (members_view l.members.entries) in
    each_field l.i (map shape l.args) (map view l.values.items) (map keyed_slot (drop l.i l.fields)) ps ≡ each_field 0 (map shape l.args) [] (map keyed_slot l.fields) ps
