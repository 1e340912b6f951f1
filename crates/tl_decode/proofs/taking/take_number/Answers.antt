use Rattle.std.proofs.Common.{subst, sym}
use Rattle.tl_decode.specs.inner.Frames.{IsWellFrame}
use Rattle.tl_decode.proofs.ItemSteps.{takes_number, takes_no_number}
use Rattle.tl_decode.proofs.taking.take_number.Goals as goal

pub returns-in-None : goal.returns-in-None
returns-in-None c = takes_no_number c.args.plan.now c.args.of c.args.word c.wrong.result c.in-None.ensures.none c.wrong.ensures

pub returns-in_ok-begin-in-Some : goal.returns-in_ok-begin-in-Some
returns-in_ok-begin-in-Some c =
    let fresh = c.in_ok-begin-in-Some.ensures in
    takes_number c.args.plan.now c.args.of c.args.word c.in-Some.member c.in_ok-begin-in-Some.field-0 c.in-Some.ensures.found.1 fresh (subst (IsWellFrame c.args.plan.now) (sym fresh.1) (c.requires, c.in-Some.ensures.found.0))
