use Rattle.std.proofs.Common.{◌∙◌, sym}
use Rattle.tl_decode.proofs.NumberedDeclarations.{function_here, function_other, function_none}
use Rattle.tl_decode.proofs.members.function.Goals as goal

pub returns-in_err-i-clause-found : goal.returns-in_err-i-clause-found
returns-in_err-i-clause-found c = c.from_residual.ensures ∙ function_none c.args.schema.now c.numbered.ensures.sound c.args.number c.in_err-i.ensures.found

pub returns-then-is_called-clause-found : goal.returns-then-is_called-clause-found
returns-then-is_called-clause-found c =
    function_here c.args.schema.now c.numbered.ensures.sound c.args.number c.in_ok-i.i _ c.entry.ensures (sym c.is_called.ensures ∙ c.if-is_called.true)

pub returns-else-is_called-clause-found : goal.returns-else-is_called-clause-found
returns-else-is_called-clause-found c =
    function_other c.args.schema.now c.numbered.ensures.sound c.args.number c.in_ok-i.i _ c.entry.ensures c.in_ok-i.ensures.found (sym c.is_called.ensures ∙ c.if-is_called.false)
