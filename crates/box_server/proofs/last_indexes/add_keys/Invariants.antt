use Rattle.std.proofs.Common.{take}
use Rattle.box_server.specs.inner.LastIndexes.{SameIndexes, HaveKeys}
use Rattle.box_server.proofs.last_indexes.add_keys.Given as goal

abbrev pub invariant-loop-dated : goal.invariant-loop-dated
invariant-loop-dated l = SameIndexes l.fn.last.entries l.last.entries × HaveKeys l.last.entries (take l.dated-index l.more)
