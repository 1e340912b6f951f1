use Rattle.std.proofs.Common.{rules}
use Rattle.box_server.proofs.Loads.{next_at, bad_at}
use Rattle.box_server.proofs.loading.load.Goals as goal

pub loop-n-preserved : goal.loop-n-preserved
loop-n-preserved g c = record {
  few = search rules;
  entries = search rules;
  loaded = next_at _ _ _ _ _ _ c.in-Ok.entry c.in_ok-accept.field-0 c.loop-n.invariant.entries c.loop-n-test.true c.in-Ok.ensures.entry c.if-not-branch.false c.in_ok-accept.ensures c.loop-n.invariant.loaded;
  used = search rules;
}

pub returns-then-not-branch-clause-loads : goal.returns-then-not-branch-clause-loads
returns-then-not-branch-clause-loads g c = bad_at _ _ _ _ _ _ c.in-Ok.entry c.in_ok-accept.field-0 c.loop-n.invariant.entries c.loop-n-test.true c.in-Ok.ensures.entry c.if-not-branch.true c.in_ok-accept.ensures c.loop-n.invariant.loaded
