use Rattle.std.proofs.Common.{Some, None}
use Rattle.tl_schema.proofs.HeadFamilies.{misapplied_by, not_misapplied}
use Rattle.tl_schema.proofs.NameCases.{name_arity}
use Rattle.tl_schema.proofs.wrong_arity.is_misapplied.Goals as goal

pub returns-in-Some : goal.returns-in-Some
returns-in-Some c = λ d name what.
    misapplied_by c.args.index.now d name c.args.count c.in-Some.arity (name_arity c.args.index.now d name c.args.what (Some c.in-Some.arity) c.in-Some.ensures what)

pub returns-in-None : goal.returns-in-None
returns-in-None c = λ d name what.
    not_misapplied c.args.index.now d name c.args.count (name_arity c.args.index.now d name c.args.what None c.in-None.ensures what)
