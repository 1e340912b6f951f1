use Rattle.std.proofs.Common.{◌≡◌, drop, map, take}
use Rattle.serde_json.specs.View.{view as data_of, members_view}
use Rattle.tl_schema.specs.Seen.{shape, slot}
use Rattle.tl_types.specs.Seen.{view, views}
use Rattle.tl_show.specs.Shown.{shown, with_fields}
use Rattle.tl_show.proofs.tree.+show.Given as goal

abbrev pub invariant-array_of-loop-value : goal.invariant-array_of-loop-value
invariant-array_of-loop-value l = map data_of l.items.items ≡ map (λ v. shown l.schema.decls (shape l.of) (view v)) (take l.value-index l.value-items)

abbrev pub invariant-put_fields-loop-i : goal.invariant-put_fields-loop-i
invariant-put_fields-loop-i l =
    let ds = l.schema.decls in
    let args = map shape l.args in
    with_fields ds args (members_view l.members.entries) (map slot (drop l.i l.slots)) (views (drop l.i l.value-items))
    ≡ with_fields ds args (members_view l.fn.members.entries) (map slot l.slots) (views l.value-items)
