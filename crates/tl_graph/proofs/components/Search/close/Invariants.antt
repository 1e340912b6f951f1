use Rattle.std.proofs.Common.{length}
use Rattle.tl_graph.proofs.components.Search.close.Given as goal

abbrev pub decreases-loop-i : goal.decreases-loop-i
decreases-loop-i l = length l.self.open.items
