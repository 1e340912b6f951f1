use Rattle.std.proofs.Common.{◌∙◌, sym, arith}
use Rattle.tl_decode.proofs.NumberedDeclarations.{member_here, member_other, member_none}
use Rattle.tl_decode.proofs.members.member.Goals as goal

pub returns-in_err-i-clause-found : goal.returns-in_err-i-clause-found
returns-in_err-i-clause-found c =
    c.from_residual.ensures ∙ member_none c.args.schema.now c.numbered.ensures.sound c.args.number c.args.head (omega (arith, c.if-head-type_count.false, c.type_count.ensures)) c.in_err-i.ensures.found

pub returns-then-constructs-clause-found : goal.returns-then-constructs-clause-found
returns-then-constructs-clause-found c =
    member_here c.args.schema.now c.numbered.ensures.sound c.args.number c.args.head (omega (arith, c.if-head-type_count.false, c.type_count.ensures)) c.in_ok-i.i _ c.entry.ensures (sym c.constructs.ensures ∙ c.if-constructs.true)

pub returns-else-constructs-clause-found : goal.returns-else-constructs-clause-found
returns-else-constructs-clause-found c =
    member_other c.args.schema.now c.numbered.ensures.sound c.args.number c.in_ok-i.i _ c.entry.ensures c.in_ok-i.ensures.found c.args.head (omega (arith, c.if-head-type_count.false, c.type_count.ensures)) (sym c.constructs.ensures ∙ c.if-constructs.false)
