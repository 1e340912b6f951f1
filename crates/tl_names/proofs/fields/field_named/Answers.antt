use Rattle.std.proofs.Common.{◌∙◌, bytes_eq, sym}
use Rattle.tl_program.specs.Program.{FieldText, field_text}
use Rattle.tl_names.proofs.Positions.{position_made}
use Rattle.tl_names.proofs.fields.field_named.Goals as goal

pub returns-in-Some : goal.returns-in-Some
returns-in-Some c = c.in-Some.ensures ∙ sym (position_made (λ (f : FieldText). bytes_eq c.args.name.now f.name) field_text c.args.fields.now)

pub returns-in-None : goal.returns-in-None
returns-in-None c = c.in-None.ensures ∙ sym (position_made (λ (f : FieldText). bytes_eq c.args.name.now f.name) field_text c.args.fields.now)
