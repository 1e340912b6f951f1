-- How a run that stopped is told on Errors. This project's own.
use Rattle.std.specs.Prelude.{◌≡◌, ◌⊎◌, ℕ, List, ◌++◌}
use Rattle.tl_base.specs.Outside.{View}
use Rattle.outside.specs.Kept.{AddsPrefix}

-- the line was told on Errors, or a prefix of it where a write failed
abbrev pub Tells : Type 0 → List ℕ → View → View → Type 0
Tells write_rose line v w = (w.written.errors ≡ v.written.errors ++ line) ⊎ (write_rose × AddsPrefix v.written.errors w.written.errors line)

-- a line on Errors, and nothing else
abbrev pub TellsLine : Type 0 → List ℕ → View → View → Type 0
TellsLine rose line v w = (w.written.output ≡ v.written.output) × Tells rose line v w
