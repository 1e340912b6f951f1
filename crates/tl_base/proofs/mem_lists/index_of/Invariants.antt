use Rattle.std.proofs.Common.{◌≡◌, drop}
use Rattle.tl_base.specs.MemoryContents.{index_from}
use Rattle.tl_base.proofs.mem_lists.index_of.Given as goal

abbrev pub invariant-loop-i : goal.invariant-loop-i
invariant-loop-i l = index_from l.i (drop l.i l.files) l.name ≡ index_from 0 l.files l.name
