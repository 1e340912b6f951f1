use Rattle.std.proofs.Common.{refl, ◌∙◌, sym}
use Rattle.tl_schema.specs.declared.form.TypeForm.TheVariants as form
use Rattle.tl_types.specs.Seen.{views}
use Rattle.tl_types.proofs.Views.{view-Node, view-Call}
use Rattle.tl_decode.specs.inner.Frames.{type_in}
use Rattle.tl_decode.proofs.PlanTypes.{made_node, shown_type}
use Rattle.tl_decode.proofs.parts.record_of.Goals as goal

pub returns-in-Call : goal.returns-in-Call
returns-in-Call c = rw (shown_type c.args.plan.now c.args.of c.instance.result.now form.Call c.instance.ensures.shows c.in-Call.is) (view-Call c.args.entry c.args.fields)

pub returns-in_default : goal.returns-in_default
returns-in_default c =
    view-Node c.args.entry c.args.fields
    ∙ sym (made_node (type_in c.args.plan.now c.args.of) c.instance.result.now.form (shown_type c.args.plan.now c.args.of c.instance.result.now c.instance.result.now.form c.instance.ensures.shows refl) c.in_default.not-Call c.args.entry (views c.args.fields.items))
