use Rattle.std.proofs.Common.{subst}
use Rattle.tl_types.specs.Seen.{view}
use Rattle.tl_calls.specs.Results.{TellsCause, result_type}
use Rattle.tl_calls.proofs.result.result_of.Goals as goal

pub returns-clause-formed : goal.returns-clause-formed
returns-clause-formed c =
    let schema = c.args.schema.now in
    c.in_ok-made_type.ensures.formed (subst (TellsCause schema (result_type schema.decls (view c.args.call.now))) c.in_default.is c.in_ok-cause.ensures)
