use Rattle.std.proofs.Common.{take}
use Rattle.update_sessions.specs.Packed.{Packed, SpellsCall}
use Rattle.update_sessions.proofs.packing.put_calls.Given as goal

abbrev pub invariant-loop-i : goal.invariant-loop-i
invariant-loop-i l = Packed (SpellsCall l.profile) (take l.i l.asks) l.out
