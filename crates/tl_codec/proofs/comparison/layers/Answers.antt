use Rattle.std.proofs.Common.{codes}
use Rattle.tl_codec.specs.Comparing.{OfTypeText}
use Rattle.tl_codec.proofs.Compared.{no_schema_told, schema_told}
use Rattle.tl_codec.proofs.comparison.layers.Goals as goal

pub returns-in_err-schema : goal.returns-in_err-schema
returns-in_err-schema c =
    no_schema_told (codes "schema") (λ S. OfTypeText S c.args.new.now c.args.of.now) c.args.old.now c.in_err-schema.field-0.0 c.from_residual.result c.in_err-schema.ensures c.from_residual.ensures.1

pub returns : goal.returns
returns c = schema_told (codes "schema") (λ S. OfTypeText S c.args.new.now c.args.of.now) c.args.old.now c.in_ok-schema.schema c.compared.result c.in_ok-schema.ensures c.compared.ensures
