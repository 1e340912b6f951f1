-- How many settings are held. This project's own.
use Rattle.std.specs.Prelude.{ℕ}
use Rattle.std.specs.List.{sum_by}
use Rattle.std.specs.FinMap as map
use Rattle.pts_machine.specs.Holding.{Items}
use Rattle.pts_machine.specs.Packs.{Pack, size}

-- the sizes of all held packs
unfoldable pub total : Items Pack → ℕ
total m = sum_by (λ e. size e.1.1) (map.entries m)
