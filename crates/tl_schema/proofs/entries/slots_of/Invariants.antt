use Rattle.std.proofs.Common.{◌≡◌, map, take}
use Rattle.tl_program.specs.Program.{decl_text}
use Rattle.tl_schema.specs.Seen.{slot}
use Rattle.tl_schema.specs.Meanings.{slot_of}
use Rattle.tl_schema.proofs.entries.slots_of.Given as goal

abbrev pub invariant-loop-at : goal.invariant-loop-at
invariant-loop-at l = map slot l.slots.items ≡ map (slot_of l.index (decl_text l.decl)) (take l.at (decl_text l.decl).fields)
