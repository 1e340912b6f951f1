use Rattle.wire_profile.proofs.Comparing.{other_count}
use Rattle.wire_profile.proofs.layout.Layout.are_slots.Goals as goal

pub returns-then-parts-fields : goal.returns-then-parts-fields
returns-then-parts-fields c = other_count c.args.self.now c.args.parts.now c.args.fields.now c.if-parts-fields.true
