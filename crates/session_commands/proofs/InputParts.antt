-- The value that `post` makes of its input has a spelling.
use Rattle.std.proofs.Common.{ℕ, List, subst}
use Rattle.tl_schema.specs.Types.{Shape, call}
use Rattle.tl_schema.specs.Formed.{IsFormed}
use Rattle.tl_types.specs.Seen.{view}
use Rattle.tl_types.specs.Spelling.{Spells}
use Rattle.tl_types.specs.declared.value.Value.{Value}
use Rattle.tl_types.specs.declared.value.TheConstants.{MAX_LEVELS}
use Rattle.tl_types.proofs.FitsAreSpelled.{each_fits_exactly}
use Rattle.wire_profile.specs.Indexes.{ProfileView}
use Rattle.wire_profile.specs.Profiles.{IsProfile}
use Rattle.box_wire.proofs.Called.{called, called_formed}
use Rattle.schema_files.specs.JsonInput.{IsJsonOf}

module _ (p : ProfileView) (good : IsProfile p) (address input : List ℕ) where
  -- ---- the value has a spelling

  pub spelled : (bytes : List ℕ) (x : Value) → IsJsonOf p.schema call bytes (view x) → (b : List ℕ) × Spells p.schema call (view x) b
  spelled bytes x (d, is, reads, fits) =
      let s = (each_fits_exactly p.schema good.schema MAX_LEVELS call (view x) (subst (λ (T : Shape). IsFormed p.schema T) called (called_formed p.schema))).spelled fits in
      (s.0, s.1)
