use Rattle.std.proofs.Common.{◌≡◌, drop}
use Rattle.box_server.specs.inner.Drafts.{tail_index}
use Rattle.box_server.proofs.tail.index_of.Given as goal

abbrev pub invariant-loop-i : goal.invariant-loop-i
invariant-loop-i l = tail_index l.i l.id (drop l.i l.tails) ≡ tail_index 0 l.id l.tails
