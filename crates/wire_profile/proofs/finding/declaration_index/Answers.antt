use Rattle.std.proofs.Common.{◌∙◌}
use Rattle.wire_forms.specs.Forms.{form_view}
use Rattle.wire_profile.proofs.Found.{index_found}
use Rattle.wire_profile.proofs.finding.declaration_index.Goals as goal

pub returns : goal.returns
returns c = c.unwrap_or.ensures ∙ index_found c.args.schema.now.decls (form_view c.args.form.now) c.find.result c.count.result (rw c.as_bytes.ensures.value at c.find.ensures) c.count.ensures.count
