use Rattle.tl_schema.specs.Seen.{shape}
use Rattle.tl_codec.proofs.Compared.{both_told, no_new_told, no_type_told}
use Rattle.tl_codec.proofs.comparison.compared.Goals as goal

pub returns-in_err-of : goal.returns-in_err-of
returns-in_err-of c = no_type_told c.args.old.now c.args.new.now c.args.of.now c.in_err-of.field-0.0 c.from_residual.result c.in_err-of.ensures.names c.from_residual.ensures.1

pub returns-in_err-new : goal.returns-in_err-new
returns-in_err-new c =
    no_new_told c.args.old.now c.args.new.now c.args.of.now (shape c.in_ok-of.of) c.in_ok-of.ensures.names c.in_err-new.field-0.0 c.from_residual-in_err-new.result c.in_err-new.ensures c.from_residual-in_err-new.ensures.1

pub returns : goal.returns
returns c = both_told c.args.old.now c.args.new.now c.args.of.now (shape c.in_ok-of.of) c.in_ok-of.ensures.names c.in_ok-new.new c.verdict_line.result c.in_ok-new.ensures c.verdict_line.ensures
