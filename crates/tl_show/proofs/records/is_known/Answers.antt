use Rattle.std.proofs.Common.{Bool, ◌||◌, bytes_eq, map, ap, ◌∙◌}
use Rattle.std.specs.List.{list_any}
use Rattle.tl_schema.specs.Schemas.{Slot}
use Rattle.tl_show.specs.Shown.{name_text}
use Rattle.tl_show.specs.inner.Keyed.{keyed_slot}
use Rattle.tl_show.proofs.OtherKeys.{field_keys}
use Rattle.tl_show.proofs.records.is_known.Goals as goal

pub returns-else-eq : goal.returns-else-eq
returns-else-eq c =
    let in_fields : Bool = list_any (bytes_eq c.args.key.now) (map (λ (s : Slot). name_text s.name) (map keyed_slot c.args.fields.now)) in
    c.is_key.ensures ∙ field_keys c.args.key.now c.args.fields.now ∙ ap (λ (b : Bool). b || in_fields) c.if-eq.ensures
