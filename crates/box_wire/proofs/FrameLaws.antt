-- Frames and their values.
use Rattle.std.proofs.Common.{◌≡◌, true, refl}
use Rattle.tl_schema.specs.Formed.{IsFormed}
use Rattle.wire_forms.specs.Forms.{forms, constructs}
use Rattle.wire_forms.specs.declared.numbers.TheConstants.{FRAME_TYPE, PUSH}
use Rattle.wire_profile.specs.Indexes.{ProfileView, cell_shape}
use Rattle.wire_profile.specs.Profiles.{IsProfile}
use Rattle.wire_values.specs.CarriedFrames.{IsFrame}
use Rattle.wire_values.specs.Frames.{frame_tree, frame_in}
use Rattle.wire_values.proofs.SameFrames.{frame_same}
use Rattle.wire_values.proofs.BackFrames.{frame_back}
use Rattle.wire_values.proofs.ReadFrames.{frame_is}
use Rattle.wire_profile.specs.declared.rule.Root.TheVariants.{Frame}
use Rattle.wire_profile.proofs.ClearValues.{clear_of}
use Rattle.box_wire.specs.Kinds.{frames}
use Rattle.box_wire.proofs.Exactly.{KindLaws}
use Rattle.box_wire.proofs.KeptValues.{all_kept}
use Rattle.box_wire.proofs.FormedTypes.{type_formed}

pub frame_laws : KindLaws frames frame_tree frame_in IsFrame
frame_laws = record {
  alone = tt;
  served = λ t c. tt;
  same = λ t is c. frame_same t is (all_kept t (clear_of Frame t c));
  back = frame_back;
  read = λ t is c. frame_is t;
}

made : constructs FRAME_TYPE PUSH ≡ true
unfolding forms
made = refl

pub frame_formed : (p : ProfileView) → IsProfile p → IsFormed p.schema (cell_shape p frames.cell)
frame_formed p good = type_formed p good FRAME_TYPE PUSH made
