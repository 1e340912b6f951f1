use Rattle.std.proofs.Common.{◌<◌, length, ap, refl, subst, get_or, arith}
use Rattle.std.proofs.lemmas.List.{get_or_default}
use Rattle.tl_schema.specs.declared.schema.SchemaField.{SchemaField}
use Rattle.tl_types.specs.declared.value.Value.{Value}
use Rattle.tl_encode.specs.declared.frames.PartInstances.{PartInstances}
use Rattle.tl_encode.specs.inner.Frames.{AreCounted, standing_at}
use Rattle.tl_encode.proofs.NextParts.{element_next, field_next}
use Rattle.tl_encode.proofs.frames.part_of.Goals as goal

pub returns-in-Elements : goal.returns-in-Elements
returns-in-Elements c = λ p are.
    let vs = c.args.frame.now.values.now in
    element_next p (standing_at c.args.frame.now c.args.at) c.in-Elements.of _ c.in-Elements.is c.requires.left (ap (λ (y : Value). get_or vs c.args.at y) c.index-frame-at.is) refl refl are

pub returns-in-Fields : goal.returns-in-Fields
returns-in-Fields c = λ p are.
    let vs = c.args.frame.now.values.now in
    let counts = subst (λ (parts : PartInstances). AreCounted parts vs) c.in-Fields.is c.requires.counted in
    let own : c.args.at < length c.in-Fields.of.now = omega (arith, c.requires.left, counts.0) in
    let declared : c.args.at < length c.in-Fields.slots.now = omega (arith, c.requires.left, counts.1) in
    field_next p (standing_at c.args.frame.now c.args.at) c.in-Fields.of c.in-Fields.slots _ _ c.in-Fields.is c.requires.left (ap (λ (y : Value). get_or vs c.args.at y) c.index-frame-at.is)
    own (get_or_default c.in-Fields.of.now c.args.at 0 _ own) declared (ap (λ (y : SchemaField). get_or c.in-Fields.slots.now c.args.at y) c.index-slots-at.is) c.bit_of.ensures are
