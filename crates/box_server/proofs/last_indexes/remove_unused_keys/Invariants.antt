use Rattle.box_server.specs.inner.LastIndexes.{SameIndexes}
use Rattle.box_server.proofs.last_indexes.remove_unused_keys.Given as goal

abbrev pub invariant-loop-dated : goal.invariant-loop-dated
invariant-loop-dated l = SameIndexes l.fn.last.entries l.last.entries
