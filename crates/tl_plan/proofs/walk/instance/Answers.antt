use Rattle.std.proofs.Common.{◌≡◌, ◌∷◌, [], refl, ◌∙◌, ap}
use Rattle.tl_schema.specs.Types.{Shapes}
use Rattle.tl_schema.specs.Types as type
use Rattle.tl_schema.specs.declared.form.TypeForm.TheVariants as form
use Rattle.tl_plan.specs.inner.Nodes.{type_at, types_at}
use Rattle.tl_plan.proofs.WalkSteps.{bare_names, boxed_names, record_shows}
use Rattle.tl_plan.proofs.walk.instance.Goals as goal

pub returns-in-Boxed : goal.returns-in-Boxed
returns-in-Boxed c =
    let Ts = c.args.table.now in
    let T = type_at Ts c.args.node in
    let is : (args : Shapes) × (type_at c.args.table.now c.args.node ≡ type.boxed c.in-Boxed.head args) = c.in-Boxed.ensures in
    record_shows c.args.schema.now T (form.Boxed c.in-Boxed.head) (types_at Ts c.deref-in-Boxed.result.now) c.constructors-entries.result.now Ts c.record.new.table c.args.queue.now c.record.new.queue c.record.result is
    (boxed_names c.args.schema.now T c.in-Boxed.head is.0 (types_at Ts c.deref-in-Boxed.result.now) c.constructors-entries.result.now is.1
    (ap (types_at Ts) (c.deref-in-Boxed.ensures.value ∙ c.in_ok-parts.ensures.items) ∙ c.parts.ensures.parts) (c.constructors-entries.ensures ∙ c.requires.heads.constructors c.in-Boxed.head))
    c.record.ensures

pub returns-in-Bare : goal.returns-in-Bare
returns-in-Bare c =
    let Ts = c.args.table.now in
    let T = type_at Ts c.args.node in
    let is : (args : Shapes) × (type_at c.args.table.now c.args.node ≡ type.bare c.in-Bare.entry args) = c.in-Bare.ensures in
    record_shows c.args.schema.now T (form.Bare c.in-Bare.entry) (types_at Ts c.deref-in-Bare.result.now) (c.in-Bare.entry ∷ []) Ts c.record-in-Bare.new.table c.args.queue.now c.record-in-Bare.new.queue c.record-in-Bare.result is
    (bare_names c.args.schema.now T c.in-Bare.entry is.0 (types_at Ts c.deref-in-Bare.result.now) (c.in-Bare.entry ∷ []) is.1
    (ap (types_at Ts) (c.deref-in-Bare.ensures.value ∙ c.in_ok-parts.ensures.items) ∙ c.parts.ensures.parts) refl)
    c.record-in-Bare.ensures
