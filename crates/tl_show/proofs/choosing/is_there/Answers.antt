use Rattle.std.proofs.Common.{not, is_some, ap, sym, ◌∙◌}
use Rattle.tl_show.proofs.FieldsByIndex.{field_past, field_there}
use Rattle.tl_show.proofs.LastParts.{there_some}
use Rattle.tl_show.proofs.choosing.is_there.Goals as goal

pub returns-in-Some : goal.returns-in-Some
returns-in-Some c = λ n args fs.
    let at = c.in-Some.ensures.lookup in
    ap is_some (field_there fs n args c.args.fields.now c.args.part.now c.in-Field.index c.in-Field.of c.in-Some.value.now c.in-Field.is at.3.0 at.1)
    ∙ there_some _ _ ∙ ap not (sym c.is_absent.ensures)

pub returns-in-None : goal.returns-in-None
returns-in-None c = λ n args fs. ap is_some (field_past fs n args c.args.fields.now c.args.part.now c.in-Field.index c.in-Field.of c.in-Field.is c.in-None.ensures.lookup.3)
