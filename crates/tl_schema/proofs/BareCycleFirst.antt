-- The first declaration that stands on a cycle of bare references.
use Rattle.std.proofs.Common.{ℕ, ◌<◌, List, length, Option}
use Rattle.tl_program.specs.Program.{DeclText}
use Rattle.tl_graph.specs.Firsts.{First}
use Rattle.tl_graph.proofs.PathsDecided.{first_step, path_decided}
use Rattle.tl_names.specs.BareReferences.{PointsTo}
use Rattle.tl_schema.specs.BareCycle.{BareCycle}
use Rattle.tl_schema.proofs.BareDecided.{points_decided, source_within, target_within}
use Rattle.tl_schema.proofs.Firsts.{first_of}

module _ (ds : List DeclText) where
  cycle_within : (k : ℕ) → BareCycle ds k → k < length ds
  cycle_within k path = let first = first_step (PointsTo ds) k k path in source_within ds k first.0 first.1

  pub bare_cycle_first : (o : Option ℕ) × First (BareCycle ds) o
  bare_cycle_first = first_of (BareCycle ds) (length ds) (λ k. path_decided (PointsTo ds) k (length ds) (points_decided ds) (target_within ds) k) cycle_within
