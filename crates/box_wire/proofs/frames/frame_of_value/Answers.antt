use Rattle.tl_types.specs.Seen.{view}
use Rattle.wire_values.specs.CarriedFrames.{IsFrame}
use Rattle.wire_values.specs.Frames.{frame_in, frame_tree}
use Rattle.box_wire.specs.Kinds.{frames}
use Rattle.box_wire.proofs.Exactly.{reads_value}
use Rattle.box_wire.proofs.FrameLaws.{frame_laws, frame_formed}
use Rattle.box_wire.proofs.frames.frame_of_value.Goals as goal

pub returns : goal.returns
returns c = λ bytes are spelled.
    reads_value c.args.profile.now c.requires.sound frames (frame_formed c.args.profile.now c.requires.sound) bytes are frame_tree frame_in IsFrame frame_laws (view c.args.value) spelled (view c.put_forms.new.value) c.put_forms.ensures c.frame_in.result c.frame_in.ensures
