use Rattle.std.proofs.Common.{◌≡◌, ◌∙◌, length, map, ap, sym, arith}
use Rattle.std.proofs.lemmas.List.{length-map}
use Rattle.tl_schema.specs.Seen.{declaration, slot}
use Rattle.tl_types.proofs.DeclaredParts.{fields_there, fields_past}
use Rattle.tl_types.proofs.FewFields.{few_fields}
use Rattle.tl_types.proofs.parts.slots_of.Goals as goal

pub returns-then-entry-count : goal.returns-then-entry-count
returns-then-entry-count c =
    let e = c.entry.result.now in
    let same : length c.deref.result.now ≡ length (declaration e).fields = ap length c.deref.ensures.value ∙ sym (length-map e.fields.items slot) in
    record {
      fields = ap (map slot) c.deref.ensures.value ∙ sym (fields_there c.args.schema.now.decls c.args.entry e c.entry.ensures);
      few = omega (arith, same, few_fields c.args.schema.now c.count.ensures.sound c.args.entry (declaration e) c.entry.ensures);
    }

pub returns-else-entry-count : goal.returns-else-entry-count
returns-else-entry-count c = record { fields = sym (fields_past c.args.schema.now.decls c.args.entry (omega arith)); few = omega arith }
