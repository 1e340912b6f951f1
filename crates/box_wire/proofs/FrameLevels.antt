-- Frames have few levels.
use Rattle.std.proofs.Common.{◌≤◌, refl, arith}
use Rattle.tl_types.specs.Values.{ValueView, depth}
use Rattle.tl_types.specs.declared.value.TheConstants.{MAX_LEVELS}
use Rattle.wire_forms.specs.IsOf.{IsOf}
use Rattle.box_wire.specs.Kinds.{frames}
use Rattle.box_wire.proofs.Levels.{few_levels}

pub frame_levels : (t : ValueView) → IsOf frames.cell t → depth t ≤ MAX_LEVELS
frame_levels t is = let few = few_levels t frames.cell refl is in omega (arith, few)
