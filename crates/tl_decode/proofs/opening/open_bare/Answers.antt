use Rattle.std.proofs.Common.{arith, subst, sym}
use Rattle.tl_decode.specs.inner.Frames.{IsWellFrame}
use Rattle.tl_decode.proofs.Opened.{deep_bare, opens_bare}
use Rattle.tl_decode.proofs.PlanTypes.{bare_member}
use Rattle.tl_decode.proofs.opening.open_bare.Goals as goal

pub returns-then-len : goal.returns-then-len
returns-then-len c = deep_bare c.args.plan.now c.args.frames.now.items c.requires.frames c.args.of c.args.entry (omega (arith, c.len.ensures, c.if-len.true, c.args.frames.now.ok.0)) c.requires.bare

pub begin-requires-clause-member : goal.begin-requires-clause-member
begin-requires-clause-member c = (bare_member c.args.plan.now c.requires.sound c.args.of c.args.entry c.requires.within c.requires.bare).0

pub returns : goal.returns
returns c =
    let one = bare_member c.args.plan.now c.requires.sound c.args.of c.args.entry c.requires.within c.requires.bare in
    opens_bare c.args.plan.now c.args.frames.now.items c.requires.frames c.args.of c.args.entry c.in_ok-top.top (omega (arith, c.len.ensures, c.if-len.false, c.args.frames.now.ok.0)) c.requires.bare one.1 c.in_ok-top.ensures
    (subst (IsWellFrame c.args.plan.now) (sym c.in_ok-top.ensures.1) (c.requires.within, one.0))
