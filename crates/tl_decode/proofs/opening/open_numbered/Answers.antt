use Rattle.std.proofs.Common.{arith}
use Rattle.tl_decode.proofs.Opened.{deep_numbered, opens_numbered}
use Rattle.tl_decode.proofs.opening.open_numbered.Goals as goal

pub returns-then-len : goal.returns-then-len
returns-then-len c = deep_numbered c.args.plan.now c.args.frames.now.items c.requires.frames c.args.of (omega (arith, c.len.ensures, c.if-len.true, c.args.frames.now.ok.0)) c.requires.numbered

pub returns : goal.returns
returns c = rw c.wants.ensures (opens_numbered c.args.plan.now c.args.frames.now.items c.requires.frames c.args.of (omega (arith, c.len.ensures, c.if-len.false, c.args.frames.now.ok.0)) c.requires.numbered c.requires.within)
