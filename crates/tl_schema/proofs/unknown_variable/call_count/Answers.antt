use Rattle.std.proofs.Common.{◌≡◌, ◌∙◌, bytes_eq, rules}
use Rattle.std.specs.List.{count_by, list_any}
use Rattle.tl_program.specs.declared.program.Field.{Field}
use Rattle.tl_program.specs.Program.{kind_text}
use Rattle.tl_schema.specs.UnknownVariable.{called_by}
use Rattle.tl_schema.proofs.Calls.{calls_that_pass}
use Rattle.tl_schema.proofs.unknown_variable.call_count.Goals as goal

pub returns : goal.returns
returns c =
    let counted : c.count.result ≡ count_by (λ (f : Field). list_any (bytes_eq c.args.name.now) (called_by (kind_text f.kind))) c.args.fields.now = search rules in
    counted ∙ calls_that_pass (bytes_eq c.args.name.now) c.args.fields.now
