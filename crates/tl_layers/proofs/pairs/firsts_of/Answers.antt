use Rattle.std.proofs.Common.{◌+◌, sym, subst, arith}
use Rattle.tl_schema.specs.Seen.{declaration}
use Rattle.tl_layers.proofs.FirstDeclarations.{FirstsSoFar, next_firsts, all_firsts}
use Rattle.tl_layers.proofs.pairs.firsts_of.Goals as goal

pub loop-i-preserved : goal.loop-i-preserved
loop-i-preserved c =
    subst (FirstsSoFar c.args.schema.now (c.loop-i.i + 1)) (sym c.note_first.ensures)
    (next_firsts c.args.schema.now c.loop-i.i c.loop-i.firsts.items c.loop-i.invariant (declaration c.entry.result.now) c.entry.ensures (omega (arith, c.loop-i-test.true, c.count-i-end.ensures.count)))

pub returns-clause-firsts : goal.returns-clause-firsts
returns-clause-firsts c = all_firsts c.args.schema.now c.count-i-end.ensures.sound c.loop-i.i c.loop-i.firsts.items c.loop-i.invariant (omega (arith, c.loop-i-test.false, c.count-i-end.ensures.count))
