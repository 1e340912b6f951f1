use Rattle.std.proofs.Common.{◌≡◌, [], drop, map, take}
use Rattle.tl_schema.specs.Seen.{shape, slot}
use Rattle.tl_types.specs.Fitting.{each_misfit, field_misfit}
use Rattle.tl_types.specs.Seen.{view, views}
use Rattle.tl_types.proofs.fitting.+fits.Given as goal

abbrev pub invariant-each_fits-loop-i : goal.invariant-each_fits-loop-i
invariant-each_fits-loop-i l =
    let found = each_misfit l.schema.decls l.levels (shape l.of) in
    found 0 (views l.items) ≡ found l.i (views (drop l.i l.items))

abbrev pub invariant-fields_fit-loop-i : goal.invariant-fields_fit-loop-i
invariant-fields_fit-loop-i l =
    let found = field_misfit l.schema.decls l.levels (map shape l.args) in
    found [] 0 (map slot l.slots) (views l.values) ≡ found (map view (take l.i l.values)) l.i (map slot (drop l.i l.slots)) (views (drop l.i l.values))
