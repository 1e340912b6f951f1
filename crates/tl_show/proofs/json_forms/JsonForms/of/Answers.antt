use Rattle.std.proofs.Common.{map}
use Rattle.tl_show.specs.inner.FormViews.{form_view}
use Rattle.tl_show.proofs.LineTexts.{print_as_shown}
use Rattle.tl_show.proofs.json_forms.JsonForms.of.Goals as goal

pub returns : goal.returns
returns c = print_as_shown c.args.schema.now (map form_view c.in_ok-forms.forms.items) c.in_ok-forms.ensures
