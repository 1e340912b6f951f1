use Rattle.std.proofs.Common.{take}
use Rattle.tl_show.specs.inner.Keyed.{AreKeyed}
use Rattle.tl_show.proofs.keying.keyed_entries.Given as goal

abbrev pub invariant-loop-i : goal.invariant-loop-i
invariant-loop-i l = AreKeyed (take l.i l.schema.decls) l.entries.items
