use Rattle.std.proofs.Common.{◌∙◌}
use Rattle.tl_schema.specs.Seen.{shape}
use Rattle.tl_types.specs.Seen.{view}
use Rattle.tl_types.proofs.ByForm.{node_by_form}
use Rattle.tl_types.proofs.fitting.own_misfit.Goals as goal

pub returns : goal.returns
returns c = c.node_misfit.ensures ∙ node_by_form c.args.schema.now.decls c.args.levels c.args.bit (shape c.args.of.now) c.form_of.result (view c.args.value.now) c.form_of.ensures
