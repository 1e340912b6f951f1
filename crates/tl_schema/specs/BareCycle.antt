-- The ninth check: cycles of bare references, whose values would have no end.
-- This project's own, over the bare types of "TL language" (core.telegram.org/mtproto/TL).
use Rattle.std.specs.Prelude.{ℕ, List}
use Rattle.tl_program.specs.Program.{DeclText}
use Rattle.tl_graph.specs.Paths.{IsOnCycle}
use Rattle.tl_names.specs.BareReferences.{PointsTo}

-- declaration k stands on a cycle of constructors of which each refers to the next
abbrev pub BareCycle : List DeclText → ℕ → Type 0
BareCycle ds k = IsOnCycle (PointsTo ds) k
