use Rattle.std.proofs.Common.{◌∙◌, ap, subst}
use Rattle.tl_schema.specs.Schemas.{Declared}
use Rattle.tl_schema.specs.Types as type
use Rattle.tl_types.specs.Seen.{view}
use Rattle.tl_types.specs.Values.{ValueView}
use Rattle.wire_profile.specs.SpelledForms.{placed}
use Rattle.wire_values.specs.Calls.{call_tree}
use Rattle.box_wire.specs.inner.Wholes.{IsSpelling}
use Rattle.box_wire.proofs.Spellings.{spelled_by}
use Rattle.box_wire.proofs.calls.spell_call.Goals as goal

pub returns-clause-spelled : goal.returns-clause-spelled
returns-clause-spelled c =
    let is = subst (λ (S : Declared). IsSpelling S type.call (view c.put_indexes.new.value) c.in_ok-bytes_of_call.field-0.items) c.schema-schema.ensures.schema c.in_ok-bytes_of_call.ensures in
    spelled_by c.args.profile.now.schema type.call (placed c.args.profile.now (call_tree c.args.call.now)) c.in_ok-bytes_of_call.field-0.items c.within.result
    (subst (λ (u : ValueView). IsSpelling c.args.profile.now.schema type.call u c.in_ok-bytes_of_call.field-0.items) (c.put_indexes.ensures ∙ ap (placed c.args.profile.now) c.in_ok-value.ensures) is)
    c.within.ensures
