use Rattle.std.proofs.Common.{[], map, take, drop}
use Rattle.tl_schema.specs.Seen.{shape, slot}
use Rattle.tl_types.specs.Seen.{view, views}
use Rattle.tl_types.specs.Spelling.{SpellEach, SpellFields}
use Rattle.tl_encode.proofs.Joins.{PutsFirst}
use Rattle.tl_encode.proofs.spelling.+spell.Given as goal

abbrev pub invariant-spell_each-loop-value : goal.invariant-spell_each-loop-value
invariant-spell_each-loop-value l =
    let spells = SpellEach l.schema (shape l.item) in
    PutsFirst (spells (views l.value-items)) (spells (views (drop l.value-index l.value-items))) l.fn.out.items l.out.items

abbrev pub invariant-spell_fields-loop-i : goal.invariant-spell_fields-loop-i
invariant-spell_fields-loop-i l =
    let spells = SpellFields l.schema (map shape l.args) in
    PutsFirst (spells [] (map slot l.slots) (views l.fields.items)) (spells (map view (take l.i l.fields.items)) (map slot (drop l.i l.slots)) (views (drop l.i l.fields.items))) l.fn.out.items l.out.items
