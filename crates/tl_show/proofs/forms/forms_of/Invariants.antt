use Rattle.std.proofs.Common.{map, take}
use Rattle.tl_show.specs.inner.Forms.{AreForms}
use Rattle.tl_show.specs.inner.FormViews.{form_view}
use Rattle.tl_show.proofs.forms.forms_of.Given as goal

abbrev pub invariant-loop-i : goal.invariant-loop-i
invariant-loop-i l = AreForms (take l.i l.schema.decls) (map form_view l.forms.items)
