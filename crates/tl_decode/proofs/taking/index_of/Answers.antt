use Rattle.std.proofs.Common.{◌≤◌, ◌<◌, sym, subst, arith}
use Rattle.tl_plan.specs.declared.instances.Member.{Member}
use Rattle.tl_decode.proofs.Searches.{between_lower, between_upper}
use Rattle.tl_decode.proofs.taking.index_of.Goals as goal

pub loop-high-preserved-then-members-middle : goal.loop-high-preserved-then-members-middle
loop-high-preserved-then-members-middle c = record {
  between =
      between_upper c.args.members.now c.args.entry c.loop-high.low c.loop-high.high _ c.index-members-middle.result c.requires.order c.loop-high.invariant.between (omega (arith, c.loop-high.invariant.most, c.loop-high-test.true)) c.index-members-middle.is (subst (λ (x : Member). x.entry ≤ c.args.entry) (sym c.index-members-middle.is) c.if-members-middle.true);
  most = c.loop-high.invariant.most;
}

pub loop-high-preserved : goal.loop-high-preserved
loop-high-preserved c = record {
  between =
      between_lower c.args.members.now c.args.entry c.loop-high.low c.loop-high.high _ c.index-members-middle.result c.requires.order c.loop-high.invariant.between (omega (arith, c.loop-high.invariant.most, c.loop-high-test.true)) c.index-members-middle.is (subst (λ (x : Member). c.args.entry < x.entry) (sym c.index-members-middle.is) c.if-members-middle.false);
  most = omega (arith, c.loop-high.invariant.most, c.loop-high-test.true);
}
