use Rattle.std.proofs.Common.{◌≡◌, ◌∙◌, ap, ap₂, sym, length, slice_get}
use Rattle.std.specs.Prelude.{◌==◌}
use Rattle.std.proofs.lemmas.List.{length-map}
use Rattle.tl_schema.specs.Seen.{slot}
use Rattle.tl_types.specs.Fitting.{has_count}
use Rattle.tl_types.specs.Parts.{fields_in}
use Rattle.tl_types.specs.Seen.{view}
use Rattle.tl_types.proofs.ValueCounts.{vec_counted}
use Rattle.tl_types.proofs.Views.{view-Node, view-Call}
use Rattle.tl_schema.specs.Forms.{outermost}
use Rattle.tl_types.proofs.nodes.has_count.Goals as goal

pub returns-in-Node : goal.returns-in-Node
returns-in-Node c =
    let ds = c.args.schema.now.decls in
    let slots = c.slots_of.result.now in
    let fields : length slots ≡ length (fields_in (slice_get ds c.in-Node.entry)) = sym (length-map slots slot) ∙ ap length c.slots_of.ensures.fields in
    ap₂ (λ m n. m == n) (c.len-in-Node.ensures ∙ sym (vec_counted c.in-Node.fields)) fields
    ∙ sym (ap (has_count ds (outermost c.args.form)) (ap view c.in-Node.is ∙ view-Node c.in-Node.entry c.in-Node.fields))

pub returns-in-Call : goal.returns-in-Call
returns-in-Call c =
    let ds = c.args.schema.now.decls in
    let slots = c.slots_of-in-Call.result.now in
    let fields : length slots ≡ length (fields_in (slice_get ds c.in-Call.entry)) = sym (length-map slots slot) ∙ ap length c.slots_of-in-Call.ensures.fields in
    ap₂ (λ m n. m == n) (c.len-in-Call.ensures ∙ sym (vec_counted c.in-Call.fields)) fields
    ∙ sym (ap (has_count ds (outermost c.args.form)) (ap view c.in-Call.is ∙ view-Call c.in-Call.entry c.in-Call.fields))
