use Rattle.std.proofs.Common.{map, take}
use Rattle.std.proofs.lemmas.List.{map_push}
use Rattle.tl_names.proofs.Maps.{take_push}
use Rattle.tl_schema.specs.Seen.{declaration}
use Rattle.tl_show.specs.inner.FormViews.{form_view}
use Rattle.tl_show.proofs.FormedRecords.{forms_push}
use Rattle.tl_show.proofs.forms.forms_of.Goals as goal

pub loop-i-preserved : goal.loop-i-preserved
loop-i-preserved c =
    let ds = c.args.schema.now.decls in
    let d = declaration c.entry.result.now in
    rw (c.in_ok-push.ensures.items, map_push, take_push ds c.loop-i.i d c.entry.ensures)
    (forms_push (take c.loop-i.i ds) (map form_view c.loop-i.forms.items) d (form_view c.in_ok-form_of.field-0) c.loop-i.invariant c.in_ok-form_of.ensures)
